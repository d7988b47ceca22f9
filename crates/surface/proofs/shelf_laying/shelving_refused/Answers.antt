-- `shelf_laying::shelving_refused` meets its contract. Assumes nothing.
use Rattle.surface.proofs.Laid.{refused_shelving}
use borrow.Author.Rules.{rules}
use Rattle.surface.proofs.shelf_laying.shelving_refused.Goals as goal

pub returns : goal.returns
returns c = refused_shelving c.args.refusal c.refusal_number.ensures
