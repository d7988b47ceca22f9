-- `import_columns::check_release` meets its contract. The loop's invariant: no line before the place has a value that cannot stand. What is left of the text falls. Assumes nothing.
use Prim.Native.Nat.{◌-◌}
use lib.ListN.{length}
use Rattle.import_columns.proofs.Passes.{Releasing}
use Rattle.import_columns.proofs.check_release.Given as goal

abbrev pub invariant-loop-l : goal.invariant-loop-l
invariant-loop-l l = Releasing l.c l.s l.at l.p l.n

abbrev pub decreases-loop-l : goal.decreases-loop-l
decreases-loop-l l = length l.s - l.at
