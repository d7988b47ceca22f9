-- `stage_bytes::releases` meets its contract: a byte's part is asked for without a branch. Assumes nothing.
use Rattle.stage_bytes.proofs.Tests.{releases_tests}
use Rattle.stage_bytes.proofs.releases.Goals as goal

pub returns : goal.returns
returns c = releases_tests c.args.c c.args.b
