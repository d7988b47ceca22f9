-- `shelf_laying::started_of` meets its contract. Assumes nothing.
use Rattle.refusals.specs.Refusals.{Outcome}
use mathlib.Core.Path.{◌≡◌, refl, sym, ap, ap₂, subst, ◌∙◌}
use Rattle.answers.specs.Answers.{given}
use Rattle.shelves.specs.Answers.{told_outcome}
use Rattle.surface.specs.Verdicts.{value}
use Rattle.surface.specs.OfShelf.{started_of}
use Rattle.surface.proofs.Laid.{refused_started}
use borrow.Author.Rules.{rules}
use Rattle.surface.proofs.shelf_laying.started_of.Goals as goal

pub returns-in-Ok : goal.returns-in-Ok
unfolding told_outcome given started_of
returns-in-Ok c = sym (ap (λ (x : Outcome). started_of (told_outcome x)) c.in-Ok.is)

pub returns-in-Err : goal.returns-in-Err
unfolding told_outcome
returns-in-Err c = refused_started c.in-Err.refusal c.refusal_number.ensures ∙ sym (ap (λ (x : Outcome). started_of (told_outcome x)) c.in-Err.is)
