-- `inputs::number_of` meets its contract. The loop's invariant: the number of the whole text is that of the rest after the digits so
-- far. Assumes nothing.
use Rattle.std.proofs.Common.{drop, ◌≡◌, ◌≤◌}
use Rattle.inputs.specs.Number.{number_from, number_of as spelled}
use Rattle.inputs.proofs.number.number_of.Given as goal

abbrev pub invariant-loop-b : goal.invariant-loop-b
invariant-loop-b l = (l.n ≤ 999999999) × (spelled l.text ≡ number_from l.n (drop l.b-index l.text))
