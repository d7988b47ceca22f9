-- `stage_bytes::may_break` meets its contract: it makes the definition's tests. Assumes nothing.
use Rattle.stage_bytes.proofs.Tests.{may_break_tests}
use Rattle.stage_bytes.proofs.may_break.Goals as goal

pub returns : goal.returns
returns c =
    may_break_tests c.args.c c.args.fourth c.args.third c.args.second c.args.before
    c.releases.ensures
    c.releases-2.ensures
    c.releases-3.ensures
    c.is_break.ensures
