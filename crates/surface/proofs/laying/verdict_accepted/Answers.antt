-- `surface::laying::verdict_accepted` meets its contract: each field is one of the answer's values. Assumes nothing.
use mathlib.Core.Path.{refl}
use Rattle.characters.specs.Characters.{spelled_out}
use Rattle.answers.specs.Answers.{given, accepted}
use Rattle.surface.specs.Verdicts.{value, accepted_verdict, verdict_of}
use Rattle.surface.proofs.laying.verdict_accepted.Goals as goal

pub returns : goal.returns
unfolding verdict_of accepted_verdict value accepted given spelled_out
returns c = refl
