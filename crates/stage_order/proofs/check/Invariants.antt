-- `stage_order::check` meets its contract. The loop's invariant: the walk from its beginning over all segments answers as this walk
-- over those from `at` on; and no counter is higher than `at`, since each segment takes a byte. What is left of the input falls. Assumes nothing.
use Prim.Native.Nat.{◌-◌}
use mathlib.Core.Path.{◌≡◌}
use mathlib.Core.List.{[]}
use lib.ListN.{length}
use Rattle.segments.specs.declared.Section.TheVariants.{None}
use Rattle.segments.specs.Order.{walk_over}
use Rattle.walk_laws.specs.Walking.{Within}
use Rattle.stage_order.proofs.GoesOn.{goes_at}
use Rattle.stage_order.proofs.check.Given as goal

abbrev pub invariant-loop-at : goal.invariant-loop-at
invariant-loop-at l = (Within l.at l.walk) × (goes_at l.c l.s (walk_over None []) l.start ≡ goes_at l.c l.s l.walk l.at)

abbrev pub decreases-loop-at : goal.decreases-loop-at
decreases-loop-at l = length l.s - l.at
