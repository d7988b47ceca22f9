-- `write::write` meets its contract: a refusal of what was tried clears the output. Assumes nothing.
use Rattle.operations.specs.Write.{write_refusal, write, write_output}
use Rattle.write.proofs.Writing.{finished}
use Rattle.write.proofs.write.Goals as goal

pub returns : goal.returns
unfolding write write_output write_refusal
returns c = finished c.try_write-tried.result c.cleared.result c.try_write-tried.ensures c.cleared.ensures
