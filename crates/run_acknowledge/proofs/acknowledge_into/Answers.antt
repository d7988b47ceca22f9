-- `run_acknowledge::acknowledge_into` meets its contract: the text that it says it stored lies within the buffer. Assumes nothing.
use Rattle.run_acknowledge.proofs.Fits.{text_fits}
use Rattle.run_acknowledge.proofs.acknowledge_into.Goals as goal

pub returns : goal.returns
returns c = text_fits _ _ _ _ _ c.acknowledge.ensures
