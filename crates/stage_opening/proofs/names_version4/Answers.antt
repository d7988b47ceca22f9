-- `stage_opening::names_version4` meets its contract: each byte is asked for at its own place. Assumes nothing.
use Rattle.stage_opening.proofs.Beginnings.{version4_tests}
use Rattle.stage_opening.proofs.names_version4.Goals as goal

pub returns : goal.returns
returns c = version4_tests c.args.s.now c.tag_stands.ensures c.byte_stands-3.ensures c.byte_stands-4.ensures c.byte_stands.ensures c.byte_stands-2.ensures
