-- `surface::laying::comparison_given` meets its contract: nothing is refused. Assumes nothing.
use mathlib.Core.Path.{refl}
use Rattle.answers.specs.Answers.{given}
use Rattle.surface.specs.Verdicts.{value}
use Rattle.surface.specs.Answered.{comparison_of}
use Rattle.surface.proofs.laying.comparison_given.Goals as goal

pub returns : goal.returns
unfolding comparison_of given value
returns c = refl
