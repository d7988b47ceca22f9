-- `normalise::spelled_with` meets its contract: the mark is the input's, and its header gives the fifth byte. Assumes nothing.
use mathlib.Core.Path.{◌∙◌}
use Rattle.normalise.proofs.Storing.{characters_are}
use Rattle.normalise.proofs.spelled_with.Goals as goal

pub returns : goal.returns
returns c =
    c.normal_characters.ensures
    ∙ characters_are c.args.s.now c.requires.0 c.requires.1 c.body_start.ensures c.normal_repetition-repetition.ensures
