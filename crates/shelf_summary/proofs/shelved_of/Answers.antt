-- `shelf_summary::shelved_of` meets its contract, case by case. Assumes nothing.
use borrow.Author.Rules.{rules}
use mathlib.Core.Path.{sym, ap, ◌≡◌, subst, ◌∙◌}
use Rattle.std.specs.Prelude.{Ok, Err}
use Rattle.shelf_summary.specs.Steps.{shelved_of}
use Rattle.shelf_summary.proofs.shelved_of.Goals as goal

pub returns-in-New : goal.returns-in-New
unfolding shelved_of
returns-in-New c = sym (ap shelved_of (c.in_ok-slot.was ∙ ap Ok c.in-New.is))

pub returns-in-Copy : goal.returns-in-Copy
unfolding shelved_of
returns-in-Copy c = sym (ap shelved_of (c.in_ok-slot.was ∙ ap Ok c.in-Copy.is))

pub returns-in_err-slot : goal.returns-in_err-slot
unfolding shelved_of
returns-in_err-slot c =
    let e : c.from_residual.result ≡ Err c.in_err-slot.field-0.0 = search rules in
    e ∙ sym (ap shelved_of c.in_err-slot.was)
