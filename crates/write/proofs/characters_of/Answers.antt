-- `write::characters_of` meets its contract. Assumes nothing.
use mathlib.Core.Path.{refl}
use Rattle.characters.specs.Characters.{six_bytes}
use Rattle.write.proofs.characters_of.Goals as goal

pub returns : goal.returns
unfolding six_bytes
returns c = refl
