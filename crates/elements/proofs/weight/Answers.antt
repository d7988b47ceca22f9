-- `elements::weight` meets its contract: it is the definition. Assumes nothing.
use mathlib.Core.Path.{sym, ◌∙◌}
use borrow.Author.Tests.{eq-eqb, ne_eqb}
use Rattle.lists.proofs.Texts.{if_true, if_false}
use Rattle.elements.proofs.weight.Goals as goal

pub returns-then-b-c : goal.returns-then-b-c
returns-then-b-c c = sym (if_true _ _ _ c.if-b-c.true)

pub returns-then-b-c-2 : goal.returns-then-b-c-2
returns-then-b-c-2 c = sym (if_false _ _ _ c.if-b-c.false ∙ if_true _ _ _ (eq-eqb _ _ c.if-b-c-2.true))

pub returns-else-b-c-2 : goal.returns-else-b-c-2
returns-else-b-c-2 c = sym (if_false _ _ _ c.if-b-c.false ∙ if_false _ _ _ (ne_eqb _ _ c.if-b-c-2.false))
