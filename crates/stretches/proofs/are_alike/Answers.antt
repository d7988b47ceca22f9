-- `stretches::are_alike` meets its contract: it is the definition. Assumes nothing.
use mathlib.Core.Path.{refl}
use Rattle.characters.specs.Characters.{has_release}
use Rattle.stretches.specs.Releases.{alike}
use Rattle.stretches.proofs.are_alike.Goals as goal

pub returns : goal.returns
unfolding alike has_release
returns c = refl
