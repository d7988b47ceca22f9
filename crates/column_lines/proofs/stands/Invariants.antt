-- `column_lines::stands` meets its contract. The loop's invariant: the digits that are left stand at the place exactly where all of them do.
-- Assumes nothing.
use Prim.Native.Nat.{◌-◌, ◌≤◌}
use mathlib.Core.Path.{◌≡◌}
use lib.ListN.{drop}
use Rattle.lists.specs.Lists.{begins}
use Rattle.columns.specs.Lines.{in_decimal}
use Rattle.column_lines.proofs.Digits.{digits_stand}
use Rattle.column_lines.proofs.stands.Given as goal

abbrev pub invariant-loop-from : goal.invariant-loop-from
invariant-loop-from l = (l.at ≤ l.from) × (begins (in_decimal l.n) (drop l.at l.s) ≡ digits_stand l.s l.at (l.from - l.at) l.left)
