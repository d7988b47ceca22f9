-- `inputs::wide_number_of` meets its contract. The loop's invariant: the number of the whole text is that of the rest after the digits so
-- far. Assumes nothing.
use Rattle.std.proofs.Common.{drop, ◌≡◌, ◌≤◌}
use Rattle.inputs.specs.WideNumber.{wide_number_from, wide_number_of as spelled}
use Rattle.inputs.proofs.wide.wide_number_of.Given as goal

abbrev pub invariant-loop-b : goal.invariant-loop-b
invariant-loop-b l = (l.n ≤ 18446744073709551615) × (spelled l.text ≡ wide_number_from l.n (drop l.b-index l.text))
