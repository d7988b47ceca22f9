-- `shelf_laying::shelving_of` meets its contract. Assumes nothing.
use Rattle.refusals.specs.declared.Refusal.{Refusal}
use Rattle.std.specs.Prelude.{Result, Ok}
use mathlib.Core.Path.{◌≡◌, refl, sym, ap, ap₂, subst, ◌∙◌}
use Rattle.shelves.specs.declared.Shelved.{Shelved}
use Rattle.answers.specs.Answers.{given}
use Rattle.shelves.specs.Answers.{new_at, copy_at, told_shelved}
use Rattle.surface.specs.Verdicts.{value}
use Rattle.surface.specs.OfShelf.{shelving_of}
use borrow.Author.Rules.{rules}
use Rattle.surface.proofs.shelf_laying.shelving_of.Goals as goal

pub returns-in-New : goal.returns-in-New
unfolding told_shelved new_at given shelving_of value
returns-in-New c = sym (ap (λ (x : Result Shelved Refusal). shelving_of (told_shelved x)) (c.in-Ok.is ∙ ap Ok c.in-New.is))

pub returns-in-Copy : goal.returns-in-Copy
unfolding told_shelved copy_at given shelving_of value
returns-in-Copy c = sym (ap (λ (x : Result Shelved Refusal). shelving_of (told_shelved x)) (c.in-Ok.is ∙ ap Ok c.in-Copy.is))

pub returns-in-Err : goal.returns-in-Err
unfolding told_shelved
returns-in-Err c = c.shelving_refused.ensures ∙ sym (ap (λ (x : Result Shelved Refusal). shelving_of (told_shelved x)) c.in-Err.is)
