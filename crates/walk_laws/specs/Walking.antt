-- Paper 01, "Order of segments", and change request 2026-03, "Section markers", from the walk alone: what is allowed next, and the walk
-- after it. Assumes nothing.
use Rattle.std.specs.Prelude.{ℕ, ◌+◌, ◌≤◌, ◌≡◌, Bool, true, false, ◌&&◌, ◌||◌, List, [], ◌∷◌, eqb, ltb, if◌then◌else◌}
use Rattle.values.specs.Tokens.{Segment}
use Rattle.segments.specs.declared.Kind.{Kind}
use Rattle.segments.specs.declared.Kind.TheVariants.{Unb, Ung, Unh, Uns, Unt, Une, Unz, User}
use Rattle.segments.specs.declared.Standing.{Standing}
use Rattle.segments.specs.declared.Standing.TheVariants.{BeforeInterchange, BetweenGroups, InGroup, InGroupMessage, InMessage, AfterInterchange}
use Rattle.segments.specs.declared.Section.{Section}
use Rattle.segments.specs.declared.Section.TheVariants.{None, Detail, Summary}
use Rattle.segments.specs.declared.Walk.{Walk}
use Rattle.segments.specs.Order.{segments_in, messages_in, groups_in, segments_since_header, messages_since_group, allowed}
use Rattle.control_elements.specs.Sections.{section_of, turn, section_rule}

-- each of them was allowed where it stood
unfoldable pub walked : List Kind → Bool
walked [] = true
walked (kind ∷ past) = allowed past kind && walked past

-- each of them kept the rule of sections where it stood
unfoldable pub marked : List Segment → Bool
marked [] = true
marked (g ∷ past) = section_rule past g && marked past

-- ---- the five counters

-- each is the one named
pub record CountsAre (w : Walk) (segments messages groups in_message_lem in_group_lem : ℕ) : Type 0 where
  pub segments_are : w.segments.0 ≡ segments
  pub messages_are : w.messages.0 ≡ messages
  pub groups_are : w.groups.0 ≡ groups
  pub in_message_are : w.in_message.0 ≡ in_message_lem
  pub in_group_are : w.in_group.0 ≡ in_group_lem

-- each is that of what passed
abbrev pub Counts : Walk → List Kind → Type 0
Counts w past =
    CountsAre w (segments_in past) (messages_in past) (groups_in past) (segments_since_header past) (messages_since_group past)

-- each is at most n
pub record Within (n : ℕ) (w : Walk) : Type 0 where
  pub segments : w.segments.0 ≤ n
  pub messages : w.messages.0 ≤ n
  pub groups : w.groups.0 ≤ n
  pub in_message_lem : w.in_message.0 ≤ n
  pub in_group_lem : w.in_group.0 ≤ n

-- ---- which kind is allowed next

abbrev pub allowed_before : Kind → Bool
allowed_before Unb = true
allowed_before Ung = false
allowed_before Unh = false
allowed_before Uns = false
allowed_before Unt = false
allowed_before Une = false
allowed_before Unz = false
allowed_before User = false

-- outside every group and message, where a group may begin, a message may begin, the interchange may end
abbrev pub allowed_between : Bool → Bool → Bool → Kind → Bool
allowed_between group message end Unb = false
allowed_between group message end Ung = group
allowed_between group message end Unh = message
allowed_between group message end Uns = false
allowed_between group message end Unt = false
allowed_between group message end Une = false
allowed_between group message end Unz = end
allowed_between group message end User = false

-- in a group, outside every message, where the group may end
abbrev pub allowed_in_group : Bool → Kind → Bool
allowed_in_group end Unb = false
allowed_in_group end Ung = false
allowed_in_group end Unh = true
allowed_in_group end Uns = false
allowed_in_group end Unt = false
allowed_in_group end Une = end
allowed_in_group end Unz = false
allowed_in_group end User = false

abbrev pub allowed_in_message : Kind → Bool
allowed_in_message Unb = false
allowed_in_message Ung = false
allowed_in_message Unh = false
allowed_in_message Uns = true
allowed_in_message Unt = true
allowed_in_message Une = false
allowed_in_message Unz = false
allowed_in_message User = true

-- of what is allowed before the interchange, between groups, in a group and in a message, what is allowed at a standing place
abbrev pub at_place : Standing → Bool → Bool → Bool → Bool → Bool
at_place BeforeInterchange before between group message = before
at_place BetweenGroups before between group message = between
at_place InGroup before between group message = group
at_place InGroupMessage before between group message = message
at_place InMessage before between group message = message
at_place AfterInterchange before between group message = false

-- "one or more groups, or one or more messages, not both; then UNZ"; "A group is UNG, one or more messages, UNE."
abbrev pub allowed_from : Standing → Walk → Kind → Bool
allowed_from place w kind =
    at_place place
    (allowed_before kind)
    (allowed_between (ltb 0 w.groups.0 || eqb w.messages.0 0) (eqb w.groups.0 0) (ltb 0 w.messages.0) kind)
    (allowed_in_group (ltb 0 w.in_group.0) kind)
    (allowed_in_message kind)

abbrev pub allowed_by : Walk → Kind → Bool
allowed_by w kind = allowed_from w.standing w kind

-- ---- which section may begin

-- "each at most once in a message, D before S if both stand": a section comes after the one that began last, and a UNS names one
abbrev pub follows : Section → Section → Bool
follows last section = ltb (turn last) (turn section)

-- only a UNS begins one
abbrev pub is_marker : Kind → Bool
is_marker Unb = false
is_marker Ung = false
is_marker Unh = false
is_marker Uns = true
is_marker Unt = false
is_marker Une = false
is_marker Unz = false
is_marker User = false

-- the section that a segment of a kind begins
abbrev pub section_begun : Kind → Segment → Section
section_begun kind g = if is_marker kind then section_of g else None

-- a segment of a kind that begins it keeps the rule
abbrev pub marks_by : Walk → Kind → Section → Bool
marks_by w kind section = if is_marker kind then follows w.section section else true

-- it is allowed, and keeps the rule
abbrev pub fits_by : Walk → Kind → Section → Bool
fits_by w kind section = allowed_by w kind && marks_by w kind section

-- ---- the walk after a segment of a kind

abbrev pub message_opened : Standing → Standing
message_opened BeforeInterchange = InMessage
message_opened BetweenGroups = InMessage
message_opened InGroup = InGroupMessage
message_opened InGroupMessage = InGroupMessage
message_opened InMessage = InMessage
message_opened AfterInterchange = AfterInterchange

abbrev pub message_closed : Standing → Standing
message_closed BeforeInterchange = BeforeInterchange
message_closed BetweenGroups = BetweenGroups
message_closed InGroup = InGroup
message_closed InGroupMessage = InGroup
message_closed InMessage = BetweenGroups
message_closed AfterInterchange = AfterInterchange

abbrev pub stands_after : Standing → Kind → Standing
stands_after standing Unb = BetweenGroups
stands_after standing Ung = InGroup
stands_after standing Unh = message_opened standing
stands_after standing Uns = standing
stands_after standing Unt = message_closed standing
stands_after standing Une = BetweenGroups
stands_after standing Unz = AfterInterchange
stands_after standing User = standing

-- of a number after UNH, one after UNG and one after any other segment, the one after a segment of a kind
abbrev pub after_kind : Kind → ℕ → ℕ → ℕ → ℕ
after_kind Unb message group other = other
after_kind Ung message group other = group
after_kind Unh message group other = message
after_kind Uns message group other = other
after_kind Unt message group other = other
after_kind Une message group other = other
after_kind Unz message group other = other
after_kind User message group other = other

-- a message begins without a section
abbrev pub section_kept : Kind → Section → Section
section_kept Unb section = section
section_kept Ung section = section
section_kept Unh section = None
section_kept Uns section = section
section_kept Unt section = section
section_kept Une section = section
section_kept Unz section = section
section_kept User section = section

-- one segment more. UNH is the first segment of its message and one message more; UNG is one group more, without a message so far.
abbrev pub stepped_by : Walk → Kind → Walk
stepped_by w kind =
    record {
      standing = stands_after w.standing kind;
      section = section_kept kind w.section;
      segments = record { 0 = w.segments.0 + 1 };
      messages = record { 0 = after_kind kind (w.messages.0 + 1) w.messages.0 w.messages.0 };
      groups = record { 0 = after_kind kind w.groups.0 (w.groups.0 + 1) w.groups.0 };
      in_message = record { 0 = after_kind kind 1 (w.in_message.0 + 1) (w.in_message.0 + 1) };
      in_group = record { 0 = after_kind kind (w.in_group.0 + 1) 0 w.in_group.0 };
    }

-- the section that began last, where one begins or none does
abbrev pub later_section : Section → Section → Section
later_section last None = last
later_section last Detail = Detail
later_section last Summary = Summary

-- the walk where a section begins or none does
abbrev pub begun_by : Walk → Section → Walk
begun_by w section =
    record {
      standing = w.standing;
      section = later_section w.section section;
      segments = w.segments;
      messages = w.messages;
      groups = w.groups;
      in_message = w.in_message;
      in_group = w.in_group;
    }

-- the walk has come to the end of an interchange
abbrev pub is_after : Standing → Bool
is_after BeforeInterchange = false
is_after BetweenGroups = false
is_after InGroup = false
is_after InGroupMessage = false
is_after InMessage = false
is_after AfterInterchange = true
