-- `normalise::store_found` meets its contract: the bound tells that neither 13 nor 14 is met, or they are asked. Assumes nothing.
use native.Mathlib.Omega.{arith}
use Rattle.normalise.proofs.Storing.{found_fits}
use Rattle.normalise.proofs.store_found.Goals as goal

pub put_form-requires : goal.put_form-requires
put_form-requires c =
    found_fits c.args.buffer.now c.args.s.now c.requires.0 c.requires.1 c.most_length-most.ensures (omega arith) (omega arith)
