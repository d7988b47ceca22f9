-- `ordinary_controls::header_control` meets its contract: the run from the place on is the reference. Assumes nothing.
use Rattle.ordinary_controls.specs.Standing.{Heads}
use Rattle.ordinary_controls.proofs.Standing.{refers_is, told_if}
use Rattle.ordinary_controls.proofs.header_control.Goals as goal

pub returns : goal.returns
returns c =
    let x = c.args in
    told_if (Heads x.c x.s.now x.at x.position) tt c.refers.result c.element_from-reference.result
    (λ e. (
      c.element_from-reference.ensures,
      refers_is x.c x.s.now c.requires.0 c.element_from-reference.result c.past_run-end.result c.past_run-end.ensures (c.refers.ensures e),
    ))
    c.then_some.ensures
