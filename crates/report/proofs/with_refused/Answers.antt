-- `report::with_refused` meets its contract: the count under the number fits, since the report is of few pieces. Assumes nothing.
use native.Mathlib.Omega.{arith}
use Rattle.report.specs.Counting.{with_refused}
use Rattle.report.proofs.with_refused.Goals as goal

pub overflow_add-counted : goal.overflow_add-counted
overflow_add-counted c = omega (arith, c.requires.0.refused c.from-number.result)

pub returns : goal.returns
unfolding with_refused
returns c = rw (c.from-number.ensures, c.number_of.ensures)
