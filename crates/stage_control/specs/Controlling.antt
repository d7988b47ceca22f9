-- The answer for one segment in stage (10 11 12), from what is kept of those that passed: where the nearest headers' references
-- are spelled, and the counters. Assumes nothing.
use Rattle.std.specs.Prelude.{ℕ, ◌+◌, List, eqb, if◌then◌else◌, Ok}
use Rattle.lists.specs.Lists.{same}
use Rattle.characters.specs.declared.Characters.{Characters}
use Rattle.refusals.specs.declared.Fault.TheVariants.{BadControl, ReferenceDiffers, CountWrong}
use Rattle.refusals.specs.Refusals.{failed_at, Outcome}
use Rattle.values.specs.Tokens.{Token, tokens_at}
use Rattle.segments.specs.declared.Kind.{Kind}
use Rattle.segments.specs.declared.Kind.TheVariants.{Unb, Ung, Unh, Uns, Unt, Une, Unz, User}
use Rattle.segments.specs.declared.Walk.{Walk}
use Rattle.control_elements.specs.declared.Positions.{Positions}
use Rattle.elements.specs.Elements.{element_from}
use Rattle.elements.specs.Values.{value_in}
use Rattle.control_fields.specs.Fields.{field_of, spells_reference, spells_count}
use Rattle.stage_control.specs.declared.Headers.{Headers}

-- ---- the headers

-- where the reference is spelled that a trailer has to repeat
abbrev pub header_kept : Headers → Kind → ℕ
header_kept h Unb = 0
header_kept h Ung = 0
header_kept h Unh = 0
header_kept h Uns = 0
header_kept h Unt = h.unh
header_kept h Une = h.ung
header_kept h Unz = h.unb
header_kept h User = 0

-- of what is kept after UNB, after UNG, after UNH and after any other segment, what is kept after a segment of a kind
abbrev pub kept_after : Kind → Headers → Headers → Headers → Headers → Headers
kept_after Unb unb ung unh other = unb
kept_after Ung unb ung unh other = ung
kept_after Unh unb ung unh other = unh
kept_after Uns unb ung unh other = other
kept_after Unt unb ung unh other = other
kept_after Une unb ung unh other = other
kept_after Unz unb ung unh other = other
kept_after User unb ung unh other = other

-- what is kept after a segment whose reference is spelled at this place
abbrev pub headers_after : Headers → Kind → ℕ → Headers
headers_after h kind place =
    kept_after kind
    (record { unb = place; ung = h.ung; unh = h.unh })
    (record { unb = h.unb; ung = place; unh = h.unh })
    (record { unb = h.unb; ung = h.ung; unh = place })
    h

-- ---- the count

-- "the groups, or the messages where there are no groups"
abbrev pub groups_or_messages : Walk → ℕ
groups_or_messages w = if eqb w.groups.0 0 then w.messages.0 else w.groups.0

-- "UNT's count is the segments from UNH to UNT, both included; UNE's is the messages of the group"
abbrev pub count_due : Walk → Kind → ℕ
count_due w Unb = 0
count_due w Ung = 0
count_due w Unh = 0
count_due w Uns = 0
count_due w Unt = w.in_message.0 + 1
count_due w Une = w.in_group.0
count_due w Unz = groups_or_messages w
count_due w User = 0

-- ---- the segment

-- a trailer, from the tokens that its reference, its count and its header's reference begin
unfoldable pub trailer_by : ℕ → List Token → List Token → List Token → ℕ → Outcome
trailer_by at reference counted header count =
    if spells_count (field_of counted)
    then (if same (value_in reference) (value_in header)
    then (if eqb (field_of counted).number count then (Ok tt) else failed_at CountWrong at)
    else failed_at ReferenceDiffers at)
    else failed_at BadControl at

-- the same, from the places at which they are spelled
abbrev pub trailer_at : Characters → List ℕ → ℕ → ℕ → ℕ → ℕ → ℕ → Outcome
trailer_at c s at reference counted header count =
    trailer_by at (tokens_at c s reference) (tokens_at c s counted) (tokens_at c s header) count

-- the segment at a place, whose reference is spelled at `reference`
unfoldable pub controlled_by : Characters → List ℕ → ℕ → Positions → ℕ → ℕ → ℕ → Outcome
controlled_by c s at p reference header count =
    if eqb p.reference 0 then Ok tt
    else (if spells_reference (field_of (tokens_at c s reference))
    then (if eqb p.count 0 then Ok tt
    else trailer_by at (tokens_at c s reference) (element_from p.count (tokens_at c s at)) (tokens_at c s header) count)
    else failed_at BadControl at)
