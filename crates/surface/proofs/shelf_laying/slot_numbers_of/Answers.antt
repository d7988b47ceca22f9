-- `shelf_laying::slot_numbers_of` meets its contract. Assumes nothing.
use Rattle.refusals.specs.declared.Refusal.{Refusal}
use Rattle.std.specs.Prelude.{Result}
use mathlib.Core.Path.{◌≡◌, refl, sym, ap, ap₂, subst, ◌∙◌}
use Rattle.shelves.specs.declared.Slots.{Slots}
use Rattle.answers.specs.Answers.{given}
use Rattle.shelves.specs.Answers.{told_slots}
use Rattle.surface.specs.Verdicts.{value}
use Rattle.surface.specs.OfShelf.{slot_numbers_of}
use Rattle.surface.proofs.Laid.{refused_slots}
use borrow.Author.Rules.{rules}
use Rattle.surface.proofs.shelf_laying.slot_numbers_of.Goals as goal

pub returns-in-Ok : goal.returns-in-Ok
unfolding told_slots given slot_numbers_of value
returns-in-Ok c = sym (ap (λ (x : Result Slots Refusal). slot_numbers_of (told_slots x)) c.in-Ok.is)

pub returns-in-Err : goal.returns-in-Err
unfolding told_slots
returns-in-Err c = refused_slots c.in-Err.refusal c.refusal_number.ensures ∙ sym (ap (λ (x : Result Slots Refusal). slot_numbers_of (told_slots x)) c.in-Err.is)
