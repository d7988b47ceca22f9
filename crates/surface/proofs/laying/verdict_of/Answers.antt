-- `surface::laying::verdict_of` meets its contract: each case of the answer has its own struct. Assumes nothing.
use mathlib.Core.Path.{sym, ap, ◌∙◌}
use borrow.Author.Rules.{rules}
use Rattle.answers.specs.Answers.{told_judged, Judged}
use Rattle.surface.specs.Verdicts.{verdict_of}
use Rattle.surface.proofs.laying.verdict_of.Goals as goal

pub returns-in-Ok : goal.returns-in-Ok
unfolding told_judged
returns-in-Ok c = c.verdict_accepted.ensures ∙ sym (ap (λ (x : Judged). verdict_of (told_judged x)) c.in-Ok.is)

pub returns-in-Err : goal.returns-in-Err
unfolding told_judged
returns-in-Err c = c.verdict_refused.ensures ∙ sym (ap (λ (x : Judged). verdict_of (told_judged x)) c.in-Err.is)
