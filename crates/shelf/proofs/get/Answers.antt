-- `shelf::get` meets its contract: the part that `got` names. Assumes nothing.
use mathlib.Core.Path.{refl}
use Rattle.shelves.specs.Layout.{version_two}
use Rattle.shelf.proofs.Spans.{handed}
use Rattle.shelf.proofs.get.Goals as goal

pub returns : goal.returns
returns c =
    let x = c.args in
    let p = c.got-part in
    handed version_two x.s x.slot _ p.ensures.value p.ensures.inside refl refl
