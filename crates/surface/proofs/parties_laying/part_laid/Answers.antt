-- `parties_laying::part_laid` meets its contract. Assumes nothing.
use mathlib.Core.Path.{refl}
use Rattle.surface.specs.OfParties.{part}
use Rattle.surface.proofs.parties_laying.part_laid.Goals as goal

pub returns : goal.returns
unfolding part
returns c = refl
