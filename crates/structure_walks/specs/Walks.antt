-- Stage 22 as a walk over the segments, from left to right, that stops in the first message that does not match. Assumes nothing.
use Rattle.std.specs.Prelude.{ℕ, Bool, false, List, [], ◌∷◌, if◌then◌else◌}
use Rattle.std.proofs.Math.Option.{Option, none, some}
use Rattle.lists.specs.Lists.{at, maybe}
use Rattle.values.specs.Tokens.{Segment, start}
use Rattle.segments.specs.declared.Kind.TheVariants.{Unh}
use Rattle.segments.specs.Kinds.{is}
use Rattle.segments.specs.Tags.{tag_of, kind_of}
use Rattle.message_tables.specs.Structure.{Structure}
use Rattle.message_structures.specs.Walking.{Walked, stopped, through, walk}
use Rattle.message_structures.specs.Bodies.{is_trailer}

-- where the first of what is left begins, and whether it is a UNT
unfoldable pub beginning : List Segment → ℕ
beginning left = maybe 0 start (at left 0)

unfoldable pub at_trailer : List Segment → Bool
at_trailer left = maybe false is_trailer (at left 0)

-- where the walk over all that follows a UNH stopped; nowhere, where it went through all entries up to a UNT
unfoldable pub stop_of : Walked Segment → Option ℕ
stop_of (stopped left) = some (beginning left)
stop_of (through left) = if at_trailer left then none else some (beginning left)

module _ (structure : Structure) where
  unfoldable pub first_stop : List Segment → Option ℕ
  first_stop [] = none
  first_stop (g ∷ gs) = if is Unh (kind_of g) then maybe (first_stop gs) some (stop_of (walk tag_of structure gs)) else first_stop gs
