-- `surface::laying::comparison_of` meets its contract: each case of the answer has its own struct. Assumes nothing.
use Rattle.std.specs.Prelude.{Err, Ok}
use mathlib.Core.Path.{sym, ap, ◌∙◌}
use borrow.Author.Rules.{rules}
use Rattle.answers.specs.Answers.{told_compared, Compared}
use Rattle.surface.specs.Answered.{comparison_of}
use Rattle.surface.proofs.laying.comparison_of.Goals as goal

pub returns-then-same : goal.returns-then-same
unfolding told_compared
returns-then-same c =
    c.comparison_given.ensures ∙ sym (ap (λ (x : Compared). comparison_of (told_compared x)) (c.in-Ok.is ∙ ap Ok c.if-same.true))

pub returns-else-same : goal.returns-else-same
unfolding told_compared
returns-else-same c =
    c.comparison_given-else-same.ensures
    ∙ sym (ap (λ (x : Compared). comparison_of (told_compared x)) (c.in-Ok.is ∙ ap Ok c.if-same.false))

pub returns-in-First : goal.returns-in-First
unfolding told_compared
returns-in-First c = c.comparison_refused.ensures ∙ sym (ap (λ (x : Compared). comparison_of (told_compared x)) (c.in-Err.is ∙ ap Err c.in-First.is))

pub returns-in-Second : goal.returns-in-Second
unfolding told_compared
returns-in-Second c = c.comparison_refused-in-Second.ensures ∙ sym (ap (λ (x : Compared). comparison_of (told_compared x)) (c.in-Err.is ∙ ap Err c.in-Second.is))
