-- `length_bound::unshared_of` meets its contract: each service character is asked about. Assumes nothing.
use Rattle.characters.specs.Characters.{has_release, has_repetition}
use Rattle.length_bound.specs.Unshared.{unshared}
use Rattle.length_bound.proofs.unshared_of.Goals as goal

pub returns : goal.returns
unfolding unshared has_release has_repetition
returns c = cc
