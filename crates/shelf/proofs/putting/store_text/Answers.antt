-- `putting::store_text` meets its contract: the text and its pair, one after another. Assumes nothing.
use Rattle.shelf_layout.specs.Laid.{laid}
use Rattle.shelf.proofs.Puts.{text_stored}
use Rattle.shelf.proofs.putting.store_text.Goals as goal

pub returns : goal.returns
returns c =
    let x = c.args in
    let known = c.requires in
    text_stored (laid x.l) x.s.now x.form.now known.1.0 known.2 c.copy.ensures c.put_pair.ensures
