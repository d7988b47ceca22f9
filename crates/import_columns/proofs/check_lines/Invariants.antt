-- `import_columns::check_lines` meets its contract. The loop's invariant: what the text has is what it has from here on. What is left of the text falls. Assumes nothing.
use Prim.Native.Nat.{◌-◌}
use lib.ListN.{length}
use Rattle.import_columns.proofs.Checks.{Checking}
use Rattle.import_columns.proofs.check_lines.Given as goal

abbrev pub invariant-loop-at : goal.invariant-loop-at
invariant-loop-at l = Checking l.s l.at l.p l.n l.least

abbrev pub decreases-loop-at : goal.decreases-loop-at
decreases-loop-at l = length l.s - l.at
