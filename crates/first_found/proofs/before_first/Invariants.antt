-- `first_found::before_first` meets its contract. The loop's invariant: nothing is found up to the `k`th byte, unless `first` bytes come before
-- it. Assumes nothing.
use Rattle.std.proofs.Common.{false, ◌≤◌}
use Rattle.first_found.specs.First.{Upto}
use Rattle.first_found.proofs.before_first.Given as goal

abbrev pub invariant-loop-k : goal.invariant-loop-k
invariant-loop-k g l = (l.first ≤ g.row.COUNT) × Upto (λ j. goal.F-post g l.found j false) 0 l.k l.first
