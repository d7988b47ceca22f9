-- `acknowledge::acknowledge` meets its contract: a refusal of what was tried clears the output. Assumes nothing.
use Rattle.acknowledgements.specs.Acknowledgement.{acknowledge_refusal, acknowledge, acknowledge_output}
use Rattle.write.proofs.Writing.{finished}
use Rattle.acknowledge.proofs.acknowledge.Goals as goal

pub returns : goal.returns
unfolding acknowledge acknowledge_output acknowledge_refusal
returns c = finished c.try_acknowledge-tried.result c.cleared.result c.try_acknowledge-tried.ensures c.cleared.ensures
