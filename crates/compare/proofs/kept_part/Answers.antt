-- `compare::kept_part` meets its contract: Compare says whether the two are the same, and the lengths which to keep. Assumes nothing.
use mathlib.Core.Path.{refl}
use Rattle.compare.proofs.Compared.{is_same}
use Rattle.compare.proofs.Keeping.{kept_none, kept_second, kept_first}
use Rattle.compare.proofs.kept_part.Goals as goal

pub returns-then-second-first : goal.returns-then-second-first
unfolding is_same
returns-then-second-first c =
    let x = c.args in
    kept_second x.first.now x.second.now c.compare.ensures c.in-Ok-true.is c.in-Ok-true.field-0-test c.if-second-first.true

pub returns-else-second-first : goal.returns-else-second-first
unfolding is_same
returns-else-second-first c =
    let x = c.args in
    kept_first x.first.now x.second.now c.compare.ensures c.in-Ok-true.is c.in-Ok-true.field-0-test c.if-second-first.false

pub returns-in-Ok-false : goal.returns-in-Ok-false
unfolding is_same
returns-in-Ok-false c =
    let x = c.args in
    kept_none x.first.now x.second.now c.compare.ensures c.in-Ok-false.is c.in-Ok-false.field-0-test

pub returns-in-Err : goal.returns-in-Err
unfolding is_same
returns-in-Err c =
    let x = c.args in
    kept_none x.first.now x.second.now c.compare.ensures c.in-Err.is refl
