-- Each stage after the opening as a walk over the tokens or the segments, from left to right, that stops at the first fault.
-- `size` is the length of the input. Assumes nothing.
use Rattle.std.specs.Prelude.{ℕ, ◌&&◌, List, [], ◌∷◌, map, reverse, if◌then◌else◌}
use Rattle.std.proofs.Math.Option.{Option, none, some}
use Rattle.lists.specs.Lists.{maybe}
use Rattle.refusals.specs.declared.Fault.{Fault}
use Rattle.refusals.specs.declared.Fault.TheVariants.{StrayRelease, UnendedSegment, BrokenTag, OutsideLevel, MisplacedSegment, BadControl, ReferenceDiffers, CountWrong}
use Rattle.refusals.specs.declared.Refusal.{Refusal}
use Rattle.refusals.specs.Refusals.{or_else}
use Rattle.values.specs.Tokens.{Token, byte, separator, fault, Segment, segments, start}
use Rattle.values.specs.Values.{ended_by}
use Rattle.levels.specs.Levels.{in_level}
use Rattle.segments.specs.Tags.{kind_of, tag_rule}
use Rattle.segments.specs.Order.{allowed, is_complete}
use Rattle.control_elements.specs.Control.{control_rule, reference_differs, count_wrong}
use Rattle.control_elements.specs.Sections.{section_rule}

abbrev pub refuse : Fault → ℕ → Option Refusal
refuse f place = some (record { fault = f; place = place })

-- the first refusal that a segment meets, given what passed before it, the nearest first
unfoldable pub first_in : (List Segment → Segment → Option Refusal) → List Segment → List Segment → Option Refusal
first_in meets past [] = none
first_in meets past (g ∷ gs) = or_else (meets past g) (first_in meets (g ∷ past) gs)

-- ---- (4 5 6)

-- the place of the first stray release character
unfoldable pub first_fault : List Token → Option ℕ
first_fault [] = none
first_fault (byte b from place ∷ ts) = first_fault ts
first_fault (separator kind place ∷ ts) = first_fault ts
first_fault (fault place ∷ ts) = some place

unfoldable pub worded_segment : ℕ → List Segment → Segment → Option Refusal
worded_segment size past g =
    maybe
    (if ended_by 0 g then (if tag_rule g then none else refuse BrokenTag (start g)) else refuse UnendedSegment size)
    (refuse StrayRelease)
    (first_fault g)

unfoldable pub worded : ℕ → List Token → Option Refusal
worded size ts = first_in (worded_segment size) [] (segments ts)

-- ---- 8

unfoldable pub leveled : ℕ → List Token → Option Refusal
leveled level [] = none
leveled level (byte b from place ∷ ts) = if in_level level b then leveled level ts else refuse OutsideLevel place
leveled level (separator kind place ∷ ts) = leveled level ts
leveled level (fault place ∷ ts) = leveled level ts

-- ---- 9

unfoldable pub ordered_segment : List Segment → Segment → Option Refusal
ordered_segment past g = if allowed (map kind_of past) (kind_of g) && section_rule past g then none else refuse MisplacedSegment (start g)

unfoldable pub ordered : ℕ → List Token → Option Refusal
ordered size ts =
    or_else
    (first_in ordered_segment [] (segments ts))
    (if is_complete (reverse (map kind_of (segments ts))) then none else refuse MisplacedSegment size)

-- ---- (10 11 12)

unfoldable pub controlled_segment : List Segment → Segment → Option Refusal
controlled_segment past g =
    if control_rule g
    then (if reference_differs past g then refuse ReferenceDiffers (start g) else (if count_wrong past g then refuse CountWrong (start g) else none))
    else refuse BadControl (start g)

unfoldable pub controlled : List Token → Option Refusal
controlled ts = first_in controlled_segment [] (segments ts)
