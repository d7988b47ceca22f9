-- `column_lines::put_column` meets its contract. The loop's invariant: the digits that are left, stored at the place, give what all of them,
-- stored in the buffer of the start, give. Assumes nothing.
use Prim.Native.Nat.{◌-◌, ◌≤◌}
use mathlib.Core.Path.{◌≡◌}
use lib.Seq.{sets}
use Rattle.columns.specs.Lines.{in_decimal}
use Rattle.column_lines.proofs.Digits.{last_digits}
use Rattle.column_lines.proofs.put_column.Given as goal

abbrev pub invariant-loop-to : goal.invariant-loop-to
invariant-loop-to l = (l.at ≤ l.to) × (sets l.buffer l.at (last_digits (l.to - l.at) l.left) ≡ sets l.initial.buffer l.at (in_decimal l.n))
