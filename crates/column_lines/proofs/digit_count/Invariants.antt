-- `column_lines::digit_count` meets its contract. The loop's invariant: the digits counted and those of what is left are those of the number,
-- and one more. What is left falls. Assumes nothing.
use Prim.Native.Nat.{◌+◌, ◌≤◌}
use mathlib.Core.Path.{◌≡◌}
use lib.ListN.{length}
use Rattle.columns.specs.Lines.{in_decimal}
use Rattle.column_lines.proofs.digit_count.Given as goal

abbrev pub invariant-loop-left : goal.invariant-loop-left
invariant-loop-left l = (l.count + length (in_decimal l.left) ≡ length (in_decimal l.n) + 1) × (l.count + l.left ≤ l.n + 1)

abbrev pub decreases-loop-left : goal.decreases-loop-left
decreases-loop-left l = l.left
