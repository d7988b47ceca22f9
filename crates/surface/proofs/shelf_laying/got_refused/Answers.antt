-- `shelf_laying::got_refused` meets its contract. Assumes nothing.
use Rattle.surface.proofs.Laid.{refused_got}
use borrow.Author.Rules.{rules}
use Rattle.surface.proofs.shelf_laying.got_refused.Goals as goal

pub returns : goal.returns
returns c = refused_got c.args.refusal c.refusal_number.ensures
