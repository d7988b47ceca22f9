-- `import_columns::put_text` meets its contract: the advice, and the lines' values from its last byte on. Assumes nothing.
use native.Mathlib.Omega.{arith}
use Rattle.characters.specs.Characters.{advice_of}
use Rattle.storing.proofs.Stores.{stored_length}
use Rattle.value_list_text.proofs.Composed.{advice_fits, text_stored}
use Rattle.column_walk.specs.Checking.{items_read}
use Rattle.import_columns.proofs.put_text.Goals as goal

pub put_advice-requires : goal.put_advice-requires
put_advice-requires c = advice_fits c.args.c (items_read c.args.s.now) c.requires.3

pub put_lines-requires : goal.put_lines-requires
put_lines-requires c =
    let x = c.args in
    let known = c.requires in
    let same = stored_length x.output.now 0 (advice_of x.c) c.put_advice.ensures in
    (known.0, known.1, omega (arith, known.3, same))

pub returns : goal.returns
returns c =
    let x = c.args in
    text_stored x.c (items_read x.s.now) x.output.now c.put_advice.new.buffer c.put_lines.new.output c.put_advice.ensures (c.put_lines.ensures.whole c.requires.2)
