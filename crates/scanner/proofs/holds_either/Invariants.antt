-- `scanner::holds_either` meets its contract. The loop's invariant: where nothing was found so far, the bytes before `at` are others. Assumes nothing.
use mathlib.Core.Path.{◌≡◌}
use mathlib.Core.Bool.{false}
use Rattle.scanner.specs.Scan.{Others}
use Rattle.scanner.proofs.holds_either.Given as goal

abbrev pub invariant-loop-at : goal.invariant-loop-at
invariant-loop-at l = l.found ≡ false → Others l.a l.b l.s l.from l.at
