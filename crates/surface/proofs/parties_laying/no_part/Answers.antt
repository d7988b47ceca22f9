-- `parties_laying::no_part` meets its contract. Assumes nothing.
use mathlib.Core.Path.{refl}
use Rattle.surface.specs.OfParties.{no_part}
use Rattle.surface.proofs.parties_laying.no_part.Goals as goal

pub returns : goal.returns
unfolding no_part
returns c = refl
