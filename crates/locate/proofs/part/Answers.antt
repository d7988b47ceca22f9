-- `locate::part` meets its contract: the part that `part_of` names. Assumes nothing.
use mathlib.Core.Path.{refl}
use Rattle.locate.proofs.Locating.{handed}
use Rattle.locate.proofs.part.Goals as goal

pub returns : goal.returns
returns c =
    let x = c.args in
    let p = c.part_of-part in
    handed x.s x.segment x.element x.repeat x.component _ p.ensures.value p.ensures.inside refl refl
