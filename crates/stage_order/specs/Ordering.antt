-- What stage 9 answers, and the same as a walk that knows only where it stands, which section it is in and what it has counted.
-- `size` is the length of the input. Assumes nothing.
use Rattle.std.specs.Prelude.{ℕ, List, [], ◌∷◌, map, reverse, if◌then◌else◌, Ok, Err, Result}
use Rattle.std.proofs.Math.Option.{Option, none, some}
use Rattle.refusals.specs.declared.Fault.TheVariants.{MisplacedSegment}
use Rattle.refusals.specs.declared.Refusal.{Refusal}
use Rattle.values.specs.Tokens.{Token, Segment, segments, start}
use Rattle.segments.specs.declared.Section.{Section}
use Rattle.segments.specs.declared.Section.TheVariants.{None}
use Rattle.segments.specs.declared.Walk.{Walk}
use Rattle.segments.specs.Tags.{kind_of}
use Rattle.segments.specs.Order.{walk_over}
use Rattle.control_elements.specs.Sections.{section_named, last_section}
use Rattle.stage_walks.specs.Walks.{ordered}
use Rattle.elements.specs.Values.{value_in}
use Rattle.trimmed_values.specs.Trimmed.{is_alone}
use Rattle.walk_laws.specs.Walking.{section_begun, fits_by, stepped_by, begun_by, is_after}

-- the walk over all segments, or the refusal that is met
abbrev pub Ordered : Type 0
Ordered = Result Walk Refusal

abbrev pub ordered_by : Walk → Option Refusal → Ordered
ordered_by walk none = Ok walk
ordered_by walk (some r) = Err r

unfoldable pub ordered_as : ℕ → List Token → Ordered
ordered_as size ts =
    let gs = segments ts in
    ordered_by (walk_over (last_section (reverse gs)) (reverse (map kind_of gs))) (ordered size ts)

-- ---- the section that a segment begins

-- the section that the element names which the tokens begin with
unfoldable pub section_from : List Token → Section
section_from ts = if is_alone ts then section_named (value_in ts) else None

-- ---- the walk

abbrev pub misplaced_at : ℕ → Ordered
misplaced_at place = Err (record { fault = MisplacedSegment; place = place })

-- the walk's answer after the last segment
unfoldable pub completed : ℕ → Walk → Ordered
completed size walk = if is_after walk.standing then Ok walk else misplaced_at size

-- the walk's answer over the segments that are left
unfoldable pub goes_on : ℕ → Walk → List Segment → Ordered
goes_on size walk [] = completed size walk
goes_on size walk (g ∷ gs) =
    let section = section_begun (kind_of g) g in
    if fits_by walk (kind_of g) section then goes_on size (begun_by (stepped_by walk (kind_of g)) section) gs else misplaced_at (start g)
