-- `stage_opening::body_start` meets its contract: it makes the definition's test. Assumes nothing.
use mathlib.Core.Path.{sym, ◌∙◌}
use Rattle.stage_opening.proofs.Beginnings.{start_advised, start_plain}
use Rattle.stage_opening.proofs.body_start.Goals as goal

pub returns-then-is_advised : goal.returns-then-is_advised
returns-then-is_advised c = start_advised _ (sym c.is_advised.ensures ∙ c.if-is_advised.true) c.after_breaks.ensures

pub returns-else-is_advised : goal.returns-else-is_advised
returns-else-is_advised c = start_plain _ (sym c.is_advised.ensures ∙ c.if-is_advised.false)
