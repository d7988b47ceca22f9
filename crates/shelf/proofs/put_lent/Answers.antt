-- `shelf::put_lent` meets its contract: the text is put, and the step over the summary that is lent is the step of Put. Assumes nothing.
use Rattle.shelf.proofs.Lent.{lent_puts, lent_fits}
use Rattle.shelf.proofs.put_lent.Goals as goal

pub put_step-requires : goal.put_step-requires
put_step-requires c = lent_fits c.args.s.now c.args.u.now c.requires.1 c.put_text-placed.result c.put_text-placed.ensures.1

pub returns : goal.returns
returns c = (
  lent_puts c.args.s.now c.args.u.now c.requires.1 c.args.input.now c.put_text-placed.result c.put_text-placed.new.s c.put_step.new.u
      c.put_text-placed.ensures.0 c.put_step.ensures.0,
  c.put_step.ensures.1,
)
