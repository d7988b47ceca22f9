-- `surface::laying::written_of` meets its contract: the length, or the refusal's number and place. Assumes nothing.
use mathlib.Core.Path.{sym, ap, ◌∙◌}
use borrow.Author.Rules.{rules}
use Rattle.answers.specs.Answers.{given, told_stored, Stored}
use Rattle.surface.specs.Verdicts.{value}
use Rattle.surface.specs.Answered.{written_of}
use Rattle.surface.proofs.Laid.{refused_written}
use Rattle.surface.proofs.laying.written_of.Goals as goal

pub returns-in-Ok : goal.returns-in-Ok
unfolding told_stored given written_of value
returns-in-Ok c = sym (ap (λ (x : Stored). written_of (told_stored x)) c.in-Ok.is)

pub returns-in-Err : goal.returns-in-Err
unfolding told_stored
returns-in-Err c = refused_written c.in-Err.refusal c.refusal_number.ensures
    ∙ sym (ap (λ (x : Stored). written_of (told_stored x)) c.in-Err.is)
