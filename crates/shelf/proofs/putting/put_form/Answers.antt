-- `putting::put_form` meets its contract: the copy that is there, or a text that is put. Assumes nothing.
use Rattle.shelf_layout.specs.Laid.{laid}
use Rattle.shelf.proofs.Lent.{heads_map}
use Rattle.shelf.proofs.Puts.{puts_copy}
use Rattle.shelf.proofs.putting.put_form.Goals as goal

pub copy_of-requires : goal.copy_of-requires
copy_of-requires c = let x = c.args in let known = c.requires in (known.0, heads_map x.s.now x.u known.2)

pub returns-in-Some : goal.returns-in-Some
returns-in-Some c =
    let x = c.args in
    let known = c.requires in
    puts_copy (laid x.l) x.s.now x.form.now x.u known.2 known.1.0 known.0 c.in-Some.ensures

pub put_new-requires : goal.put_new-requires
put_new-requires c = let known = c.requires in (known.0, known.1, known.2, c.in-None.ensures)

pub returns-in-None : goal.returns-in-None
returns-in-None c = c.put_new.ensures
