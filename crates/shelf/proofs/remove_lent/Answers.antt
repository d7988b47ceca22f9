-- `shelf::remove_lent` meets its contract: the text is taken out, and the step over the summary that is lent is the step of Remove. Assumes nothing.
use Rattle.shelf.proofs.Lent.{lent_removes, lent_takes}
use Rattle.shelf.proofs.remove_lent.Goals as goal

pub remove_step-requires : goal.remove_step-requires
remove_step-requires c = lent_takes c.args.s.now c.args.u.now c.requires.1 c.args.slot c.take_text-taken.result c.take_text-taken.ensures.1

pub returns : goal.returns
returns c = (
  lent_removes c.args.s.now c.args.u.now c.requires.1 c.args.slot c.take_text-taken.result c.take_text-taken.new.s c.remove_step.new.u
      c.take_text-taken.ensures.0 c.remove_step.ensures.0,
  c.remove_step.ensures.1,
)
