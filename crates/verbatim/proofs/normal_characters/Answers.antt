-- `verbatim::normal_characters` meets its contract. Assumes nothing.
use mathlib.Core.Path.{refl}
use Rattle.characters.specs.Characters.{six_bytes}
use Rattle.stages.specs.Contents.{normal_characters}
use Rattle.verbatim.proofs.normal_characters.Goals as goal

pub returns : goal.returns
unfolding normal_characters six_bytes
returns c = refl
