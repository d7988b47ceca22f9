-- `held_separators::after_separator` meets its contract: it asks the definition's tests in the definition's order. Assumes nothing.
use native.Mathlib.Omega.{arith}
use borrow.Author.Tests.{le-leb, lt-leb}
use Rattle.emission_laws.specs.Emission.{separated}
use Rattle.held_separators.proofs.after_separator.Goals as goal

pub returns-in-0 : goal.returns-in-0
unfolding separated
returns-in-0 c = simp (le-leb c.args.rank 0 (omega arith)) c.nothing_held.ensures

pub returns-in-1 : goal.returns-in-1
unfolding separated
returns-in-1 c =
    let rank = c.args.rank in
    simp (lt-leb rank 0 (omega arith), le-leb rank 1 (omega arith))

pub returns-in-2 : goal.returns-in-2
unfolding separated
returns-in-2 c =
    let rank = c.args.rank in
    simp (lt-leb rank 0 (omega arith), lt-leb rank 1 (omega arith), le-leb rank 2 (omega arith))

pub returns-in_default : goal.returns-in_default
unfolding separated
returns-in_default c =
    let rank = c.args.rank in
    simp (lt-leb rank 0 (omega arith), lt-leb rank 1 (omega arith), lt-leb rank 2 (omega arith))
