-- `tags::ends_unrepeated` meets its contract. The loop's invariant: whether the element ends with its repeat is told from `at` on.
-- What is left of the input falls. Assumes nothing.
use Prim.Native.Nat.{◌-◌}
use mathlib.Core.Path.{◌≡◌}
use lib.ListN.{length}
use Rattle.values.specs.Values.{ended_by}
use Rattle.tags.specs.Words.{repeat_at}
use Rattle.tags.proofs.ends_unrepeated.Given as goal

abbrev pub invariant-loop-next : goal.invariant-loop-next
invariant-loop-next l = ended_by 1 (repeat_at l.c l.s l.from) ≡ ended_by 1 (repeat_at l.c l.s l.at)

abbrev pub decreases-loop-next : goal.decreases-loop-next
decreases-loop-next l = length l.s - l.at
