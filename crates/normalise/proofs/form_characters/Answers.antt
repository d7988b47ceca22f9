-- `normalise::form_characters` meets its contract: Judge said which characters the interchange uses. Assumes nothing.
use Rattle.judge.proofs.Told.{characters_of_lem}
use Rattle.normalise.proofs.form_characters.Goals as goal

pub spelled_with-requires : goal.spelled_with-requires
spelled_with-requires c = (c.requires.0, characters_of_lem c.args.s.now c.requires.1)

pub returns : goal.returns
returns c = c.spelled_with.ensures
