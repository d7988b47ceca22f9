-- `ordinary_controls::same_run` meets its contract. The loop's invariant: the bytes before `at` are ordinary and the same from the second place
-- on. Assumes nothing.
use mathlib.Core.Path.{◌≡◌, subst}
use native.Mathlib.Omega.{arith}
use lib.ListN.{length}
use Rattle.ordinary_controls.specs.Standing.{SameRun}
use Rattle.ordinary_controls.proofs.same_run.Goals as goal

pub returns : goal.returns
returns c =
    let x = c.args in
    let e : c.loop-at.at ≡ length x.s.now = omega arith in
    subst (SameRun x.s.now x.first x.second) e c.loop-at.invariant
