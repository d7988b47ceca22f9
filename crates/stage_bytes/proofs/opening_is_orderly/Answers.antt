-- `stage_bytes::opening_is_orderly` meets its contract: each byte is asked with those before it. Assumes nothing.
use Rattle.stage_bytes.proofs.Tests.{opening_tests}
use Rattle.stage_bytes.proofs.opening_is_orderly.Goals as goal

pub returns : goal.returns
returns c =
    let args = c.args in
    opening_tests args.c args.level args.a args.b args.d args.e
    c.is_orderly.ensures
    c.is_orderly-2.ensures
    c.is_orderly-3.ensures
    c.is_orderly-4.ensures
