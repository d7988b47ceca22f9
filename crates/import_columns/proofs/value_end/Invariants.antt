-- `import_columns::value_end` meets its contract. The loop's invariant: the value's bytes from the start are those passed and those from
-- here on. Assumes nothing.
use Prim.Native.Nat.{◌+◌}
use mathlib.Core.Path.{◌≡◌}
use lib.ListN.{length, drop}
use Rattle.columns.specs.Reading.{before}
use Rattle.import_columns.specs.Importing.{ends_value}
use Rattle.import_columns.proofs.value_end.Given as goal

abbrev pub invariant-loop-at : goal.invariant-loop-at
invariant-loop-at l = l.from + length (before ends_value (drop l.from l.s)) ≡ l.at + length (before ends_value (drop l.at l.s))
