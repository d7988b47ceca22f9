-- `stage_bytes::service_apart` meets its contract: it makes the definition's tests. Assumes nothing.
use Rattle.stage_bytes.proofs.Tests.{apart_tests}
use Rattle.stage_bytes.proofs.service_apart.Goals as goal

pub returns : goal.returns
returns c =
    apart_tests c.args.c c.is_service.ensures c.is_service-2.ensures c.is_service-3.ensures
