-- `putting::put_accepted` meets its contract: what is put is the normal form. Assumes nothing.
use mathlib.Core.Path.{refl, sym}
use Rattle.compare.proofs.Compared.{form_held}
use Rattle.shelf.proofs.putting.put_accepted.Goals as goal

pub slice_bounds-form-end : goal.slice_bounds-form-end
slice_bounds-form-end c = (form_held c.args.input.now c.requires.1 refl c.store_form.ensures.1).0

pub slice_bounds-put_form-end : goal.slice_bounds-put_form-end
slice_bounds-put_form-end c = (form_held c.args.input.now c.requires.1 refl c.store_form.ensures.1).1

pub put_form-requires : goal.put_form-requires
put_form-requires c = c.requires.0

pub returns : goal.returns
returns c = c.put_form.ensures c.args.input.now c.requires.1.0 (sym (form_held c.args.input.now c.requires.1 refl c.store_form.ensures.1).2)
