-- `surface::laying::verdict_refused` meets its contract: the number is the refusal's. Assumes nothing.
use borrow.Author.Rules.{rules}
use Rattle.surface.proofs.Laid.{refused-verdict}
use Rattle.surface.proofs.laying.verdict_refused.Goals as goal

pub returns : goal.returns
returns c = refused-verdict c.args.refusal c.refusal_number.ensures
