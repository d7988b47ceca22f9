-- `ordinary_controls::repeats` meets its contract: the run that is the same at both places is the value at both. Assumes nothing.
use Prim.Native.Nat.{◌-◌}
use mathlib.Core.Path.{sym, ◌∙◌}
use mathlib.Core.Bool.{false≢true}
use native.Mathlib.Omega.{arith}
use Rattle.ordinary_controls.proofs.Standing.{repeats_is}
use Rattle.ordinary_controls.proofs.repeats.Goals as goal

pub returns-then-not-refers : goal.returns-then-not-refers
returns-then-not-refers c e = absurd (false≢true e)

pub overflow_add-other : goal.overflow_add-other
overflow_add-other c =
    let r = c.refers.ensures c.if-not-refers.false in
    let found = c.same_run-end in
    let from = c.args.from in
    let last = found.ensures.1 (found.result - from - 1) (omega (arith, r.some)) in
    omega (arith, r.some, last.0)

pub returns-then-other-s : goal.returns-then-other-s
returns-then-other-s c e =
    let found = c.same_run-end in
    let x = c.args in
    repeats_is x.c x.s.now c.requires.0 x.from x.header found.result found.ensures
    (c.refers.ensures c.if-not-refers.false) (omega arith) (sym c.ends_element.ensures ∙ e)
