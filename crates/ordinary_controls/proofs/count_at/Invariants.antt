-- `ordinary_controls::count_at` meets its contract. The loop's invariant: the bytes before `at` are up to six digits, and spell the number.
-- Assumes nothing.
use Rattle.ordinary_controls.proofs.Parts.{Reads}
use Rattle.ordinary_controls.proofs.count_at.Given as goal

abbrev pub invariant-loop-at : goal.invariant-loop-at
invariant-loop-at l = Reads l.s l.from l.at l.number
