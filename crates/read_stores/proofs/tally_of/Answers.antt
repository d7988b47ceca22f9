-- `read_stores::tally_of` meets its contract: the places of any list that is asked for fit 64 bits. Assumes nothing.
use native.Mathlib.Omega.{arith}
use Rattle.read_stores.proofs.Storing.{values_few}
use Rattle.read_stores.proofs.tally_of.Goals as goal

pub put_values-requires : goal.put_values-requires
put_values-requires c =
    let (bytes, numbers) = values_few c.args.c c.args.s.now c.args.start in
    (c.requires, record { for_bytes = omega (arith, bytes, c.requires); for_table = omega (arith, numbers, c.requires) })

pub returns : goal.returns
returns c = c.put_values.ensures.1
