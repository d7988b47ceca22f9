-- `acknowledge::put_text` meets its contract: the advice, and the parts from its last byte on. Assumes nothing.
use native.Mathlib.Omega.{arith}
use Rattle.characters.specs.Characters.{advice_of}
use Rattle.storing.proofs.Stores.{stored_length}
use Rattle.value_list_text.proofs.Composed.{advice_fits, text_stored}
use Rattle.acknowledgement_parts.specs.Parts.{lent_in}
use Rattle.acknowledge.specs.Rows.{row}
use Rattle.acknowledge.proofs.put_text.Goals as goal

pub put_advice-requires : goal.put_advice-requires
put_advice-requires c = advice_fits c.args.c (row c.args.s.now (lent_in c.args.lent.now) c.args.r) c.requires.2

pub put_parts-requires : goal.put_parts-requires
put_parts-requires c =
    let x = c.args in
    let same = stored_length x.output.now 0 (advice_of x.c) c.put_advice.ensures in
    (c.requires.0, omega (arith, c.requires.2, same))

pub returns : goal.returns
returns c =
    let x = c.args in
    text_stored x.c (row x.s.now (lent_in x.lent.now) x.r) x.output.now c.put_advice.new.buffer c.put_parts.new.output c.put_advice.ensures (c.put_parts.ensures.whole c.requires.1)
