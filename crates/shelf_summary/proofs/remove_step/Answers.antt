-- `shelf_summary::remove_step` meets its contract: what `after_remove` makes of the summary, whose duplicates figure stays. Assumes nothing.
use Rattle.std.proofs.Common.{ap, ◌∙◌}
use Rattle.shelves.specs.declared.Summary.{Summary}
use Rattle.shelf_summary.proofs.Cores.{remove_stays}
use Rattle.shelf_summary.proofs.remove_step.Goals as goal

pub returns : goal.returns
returns c = (
  c.after_remove.ensures,
  ap (λ (v : Summary). v.duplicates) c.after_remove.ensures ∙ remove_stays c.args.u.now c.args.slot c.args.taken,
)
