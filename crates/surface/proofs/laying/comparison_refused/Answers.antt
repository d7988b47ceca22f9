-- `surface::laying::comparison_refused` meets its contract: the number is the refusal's. Assumes nothing.
use borrow.Author.Rules.{rules}
use Rattle.surface.proofs.Laid.{refused_comparison}
use Rattle.surface.proofs.laying.comparison_refused.Goals as goal

pub returns : goal.returns
returns c = refused_comparison c.args.refusal c.refusal_number.ensures c.args.input
