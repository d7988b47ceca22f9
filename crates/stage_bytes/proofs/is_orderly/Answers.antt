-- `stage_bytes::is_orderly` meets its contract: it makes the definition's tests. Assumes nothing.
use Rattle.stage_bytes.proofs.Tests.{orderly_tests}
use Rattle.stage_bytes.proofs.is_orderly.Goals as goal

pub returns : goal.returns
returns c =
    let args = c.args in
    orderly_tests args.c args.fourth args.third args.second args.before args.level args.b
    c.is_service.ensures
    c.releases.ensures
    c.is_break.ensures
    c.may_break.ensures
    c.is_within.ensures
    c.is_break-2.ensures
