-- `stage_order::complete` meets its contract. Assumes nothing.
use mathlib.Core.Path.{sym, ◌∙◌}
use Rattle.stage_order.specs.Ordering.{completed}
use Rattle.stage_order.proofs.complete.Goals as goal

pub returns-then-is_complete : goal.returns-then-is_complete
unfolding completed
returns-then-is_complete c = rw (sym c.is_complete.ensures ∙ c.if-is_complete.true)

pub returns-else-is_complete : goal.returns-else-is_complete
unfolding completed
returns-else-is_complete c = rw (sym c.is_complete.ensures ∙ c.if-is_complete.false) c.failed.ensures
