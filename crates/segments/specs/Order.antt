-- Paper 01, "Order of segments". What passed is a list of kinds, the nearest first. Assumes nothing.
use Rattle.std.specs.Prelude.{ℕ, Bool, true, false, ◌&&◌, ◌||◌, List, [], ◌∷◌, length, eqb, ltb, if◌then◌else◌}
use Rattle.lists.specs.Lists.{through, those}
use Rattle.segments.specs.declared.Kind.{Kind}
use Rattle.segments.specs.declared.Kind.TheVariants.{Unb, Ung, Unh, Uns, Unt, Une, Unz, User}
use Rattle.segments.specs.declared.Standing.{Standing}
use Rattle.segments.specs.declared.Standing.TheVariants.{BeforeInterchange, BetweenGroups, InGroup, InGroupMessage, InMessage, AfterInterchange}
use Rattle.segments.specs.declared.Section.{Section}
use Rattle.segments.specs.declared.Walk.{Walk}
use Rattle.segments.specs.Kinds.{is}

-- ---- the three counts

unfoldable pub segments_in : List Kind → ℕ
segments_in past = length past

unfoldable pub messages_in : List Kind → ℕ
messages_in past = length (those (is Unh) past)

unfoldable pub groups_in : List Kind → ℕ
groups_in past = length (those (is Ung) past)

-- the segments since the nearest UNH, which is one of them; since the start where there is none
unfoldable pub segments_since_header : List Kind → ℕ
segments_since_header past = segments_in (through (is Unh) past)

-- the messages since the nearest UNG; since the start where there is none
unfoldable pub messages_since_group : List Kind → ℕ
messages_since_group past = messages_in (through (is Ung) past)

-- ---- where the check stands

-- of the two, the one named first is the nearer: where it is a header, what it opened is not closed yet
unfoldable pub is_open : Kind → Kind → List Kind → Bool
is_open nearer farther [] = false
is_open nearer farther (kind ∷ past) =
    if is nearer kind then true else (if is farther kind then false else is_open nearer farther past)

-- "before UNB, between groups, inside a group, or inside a message of a group or of none"; or after UNZ.
-- Between messages outside groups the check stands where it stands between groups. After a segment that is not allowed it says nothing.
unfoldable pub standing : List Kind → Standing
standing past =
    if is_open Unz Unb past then AfterInterchange
    else (if is_open Unh Unt past then (if is_open Ung Une past then InGroupMessage else InMessage)
    else (if is_open Ung Une past then InGroup
    else (if is_open Unb Unz past then BetweenGroups else BeforeInterchange)))

-- ---- which segment is allowed there

-- "any number of user segments and UNS, UNT"
unfoldable pub inside_message : Kind → Bool
inside_message kind = is User kind || is Uns kind || is Unt kind

-- "UNB; then one or more groups, or one or more messages, not both; then UNZ and nothing more. A group is UNG, one or more messages, UNE."
unfoldable pub allowed_at : Standing → List Kind → Kind → Bool
allowed_at BeforeInterchange past kind = is Unb kind
allowed_at BetweenGroups past kind =
    (is Ung kind && (ltb 0 (groups_in past) || eqb (messages_in past) 0))
    || (is Unh kind && eqb (groups_in past) 0)
    || (is Unz kind && ltb 0 (messages_in past))
allowed_at InGroup past kind = is Unh kind || (is Une kind && ltb 0 (messages_since_group past))
allowed_at InGroupMessage past kind = inside_message kind
allowed_at InMessage past kind = inside_message kind
allowed_at AfterInterchange past kind = false

unfoldable pub allowed : List Kind → Kind → Bool
allowed past kind = allowed_at (standing past) past kind

-- what passed is a whole interchange, if each segment was allowed where it stood
unfoldable pub is_complete : List Kind → Bool
is_complete past = is_open Unz Unb past

-- the walk's state after what passed, of which this section began last in the message
unfoldable pub walk_over : Section → List Kind → Walk
walk_over section past =
    record {
      standing = standing past;
      section = section;
      segments = record { 0 = segments_in past };
      messages = record { 0 = messages_in past };
      groups = record { 0 = groups_in past };
      in_message = record { 0 = segments_since_header past };
      in_group = record { 0 = messages_since_group past };
    }
