-- `shelf_summary::put_step` meets its contract: what `after_put` makes of the summary, of which the other fields stay. Assumes nothing.
use Rattle.std.proofs.Common.{sym, subst}
use Rattle.shelves.specs.declared.Summary.{Summary}
use Rattle.shelf_summary.specs.Steps.{PutStays}
use Rattle.shelf_summary.proofs.Cores.{put_stays}
use Rattle.shelf_summary.proofs.put_step.Goals as goal

pub returns : goal.returns
returns c = (
  c.after_put.ensures,
  subst (λ (v : Summary). PutStays c.args.placed c.args.u.now v) (sym c.after_put.ensures) (put_stays c.args.u.now c.args.placed),
)
