-- `ordinary_controls::control_of` meets its contract: a segment with a count is a trailer. Assumes nothing.
use Rattle.ordinary_controls.proofs.Standing.{header_controls, trailer_controls}
use Rattle.ordinary_controls.proofs.control_of.Goals as goal

pub returns-in-0-default : goal.returns-in-0-default
returns-in-0-default c =
    let x = c.args in
    header_controls x.c x.s.now x.at x.p x.header x.count c.header_control.result c.in-0-default.is-0 c.header_control.ensures

pub returns-in-1-eq2 : goal.returns-in-1-eq2
returns-in-1-eq2 c =
    let x = c.args in
    trailer_controls x.c x.s.now x.at x.p x.header x.count c.trailer_control.result c.in-1-eq2.is-0 c.in-1-eq2.is-1 c.trailer_control.ensures
