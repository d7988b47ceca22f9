-- `elements::separators` meets its contract. The loop's invariant: the bytes before `number` pass as many elements as the sum says, and none of
-- them adds more than 15. Assumes nothing.
use Prim.Native.Nat.{◌+◌, ◌*◌, ◌≤◌}
use Rattle.elements.specs.Sixteen.{Separators}
use Rattle.elements.proofs.separators.Given as goal

abbrev pub invariant-loop-number : goal.invariant-loop-number
invariant-loop-number l = (l.sum ≤ 15 * l.number) × Separators l.c l.s l.from (l.from + l.number) l.sum
