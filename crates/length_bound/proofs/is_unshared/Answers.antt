-- `length_bound::is_unshared` meets its contract: it is the definition. Assumes nothing.
use mathlib.Core.Path.{refl}
use Rattle.length_bound.specs.Unshared.{is_unshared}
use Rattle.length_bound.proofs.is_unshared.Goals as goal

pub returns : goal.returns
unfolding is_unshared
returns c = refl
