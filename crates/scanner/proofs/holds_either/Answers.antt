-- `scanner::holds_either` meets its contract. The loop's invariant: where nothing was found so far, the bytes before `at` are others. Assumes nothing.
use mathlib.Core.Path.{refl}
use native.Mathlib.Omega.{arith}
use Rattle.scanner.proofs.Scanning.{others_none, others_next, others_to}
use Rattle.scanner.proofs.holds_either.Goals as goal

pub loop-at-init : goal.loop-at-init
loop-at-init c = λ e. others_none c.args.a c.args.b c.args.s.now c.args.from

pub loop-at-preserved : goal.loop-at-preserved
loop-at-preserved c =
    let x = c.args in
    others_next x.a x.b x.s.now x.from c.loop-at.invariant (omega arith) refl

pub returns : goal.returns
returns c e =
    let x = c.args in
    others_to x.a x.b x.s.now x.from (c.loop-at.invariant e) (omega arith)
