-- `value_list_text::put_text` meets its contract: the advice, and the records from its last byte on. Assumes nothing.
use native.Mathlib.Omega.{arith}
use Rattle.characters.specs.Characters.{advice_of}
use Rattle.storing.proofs.Stores.{stored_length}
use Rattle.operations.specs.ValueList.{listed_in}
use Rattle.value_list_text.proofs.Composed.{advice_fits, text_stored}
use Rattle.value_list_text.proofs.put_text.Goals as goal

pub put_advice-requires : goal.put_advice-requires
put_advice-requires c = advice_fits c.args.c (listed_in c.args.bytes.now c.args.table.now) c.requires.room

pub put_records-requires : goal.put_records-requires
put_records-requires c =
    let same = stored_length c.args.buffer.now 0 (advice_of c.args.c) c.put_advice.ensures in
    (c.requires.listed, c.requires.numbers, omega (arith, c.requires.room, same))

pub returns : goal.returns
returns c =
    text_stored c.args.c (listed_in c.args.bytes.now c.args.table.now) c.args.buffer.now
    c.put_advice.new.buffer c.put_records.new.buffer c.put_advice.ensures (c.put_records.ensures.whole c.requires.short)
