-- `shelf_laying::sum_numbers_of` meets its contract. Assumes nothing.
use Rattle.refusals.specs.declared.Refusal.{Refusal}
use Rattle.std.specs.Prelude.{Result}
use mathlib.Core.Path.{◌≡◌, refl, sym, ap, ap₂, subst, ◌∙◌}
use Rattle.shelves.specs.declared.TwoSums.{TwoSums}
use Rattle.answers.specs.Answers.{given}
use Rattle.shelves.specs.Answers.{told_sums}
use Rattle.surface.specs.Verdicts.{value}
use Rattle.surface.specs.OfShelf.{sum_numbers_of}
use Rattle.surface.proofs.Laid.{refused_sums}
use borrow.Author.Rules.{rules}
use Rattle.surface.proofs.shelf_laying.sum_numbers_of.Goals as goal

pub returns-in-Ok : goal.returns-in-Ok
unfolding told_sums given sum_numbers_of value
returns-in-Ok c = sym (ap (λ (x : Result TwoSums Refusal). sum_numbers_of (told_sums x)) c.in-Ok.is)

pub returns-in-Err : goal.returns-in-Err
unfolding told_sums
returns-in-Err c = refused_sums c.in-Err.refusal c.refusal_number.ensures ∙ sym (ap (λ (x : Result TwoSums Refusal). sum_numbers_of (told_sums x)) c.in-Err.is)
