-- `write::cleared` meets its contract: an answer is handed on, and a refusal leaves zeros. Assumes nothing.
use mathlib.Core.Path.{sym, ap, ◌∙◌}
use Rattle.answers.specs.Answers.{Stored}
use Rattle.write.specs.Writing.{cleared}
use Rattle.write.proofs.cleared.Goals as goal

pub returns-in-Ok : goal.returns-in-Ok
returns-in-Ok c = (sym c.in-Ok.is, ap (λ (a : Stored). cleared a c.args.output.now) (sym c.in-Ok.is))

pub returns-in-Err : goal.returns-in-Err
returns-in-Err c = (c.refuse.ensures.0 ∙ sym c.in-Err.is, c.refuse.ensures.1 ∙ ap (λ (a : Stored). cleared a c.args.output.now) (sym c.in-Err.is))
