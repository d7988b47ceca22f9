-- `stage_control::groups_or_messages` meets its contract. Assumes nothing.
use borrow.Author.Tests.{eq-eqb, ne_eqb}
use Rattle.stage_control.proofs.groups_or_messages.Goals as goal

pub returns-then-w-eq0 : goal.returns-then-w-eq0
returns-then-w-eq0 c = simp (eq-eqb _ 0 c.if-w-eq0.true)

pub returns-else-w-eq0 : goal.returns-else-w-eq0
returns-else-w-eq0 c = simp (ne_eqb _ 0 c.if-w-eq0.false)
