-- `shelf::measure_in` meets its contract. Assumes nothing.
use Rattle.shelf_contracts.specs.Promises.{Measures}
use Rattle.answers.specs.Answers.{Stored}
use Rattle.std.specs.Prelude.{Err}
use mathlib.Core.Path.{◌≡◌, sym, subst, ◌∙◌}
use Rattle.shelf_layout.specs.Laid.{laid}
use Rattle.shelves.specs.Operations.{slot_refusal}
use Rattle.shelf.proofs.Refusing.{passed_range, outcome_passed, outcome_failed}
use Rattle.shelf.proofs.Spans.{measures_refused, measures_kept}
use borrow.Author.Rules.{rules}
use Rattle.shelf.proofs.measure_in.Goals as goal

pub length_of-requires : goal.length_of-requires
length_of-requires c = let x = c.args in passed_range (laid x.l) x.s.now x.slot (outcome_passed (slot_refusal (laid x.l) x.s.now x.slot) (sym c.slot_refusal.ensures ∙ c.in_ok-slot_refusal.was))

pub returns : goal.returns
returns c = let x = c.args in measures_kept (laid x.l) x.s.now x.slot (outcome_passed (slot_refusal (laid x.l) x.s.now x.slot) (sym c.slot_refusal.ensures ∙ c.in_ok-slot_refusal.was)) c.length_of.ensures.0

pub returns-in_err-slot_refusal : goal.returns-in_err-slot_refusal
returns-in_err-slot_refusal c =
    let x = c.args in
    let e : c.from_residual.result ≡ Err c.in_err-slot_refusal.field-0.0 = search rules in
    subst (λ (r : Stored). Measures (laid x.l) x.s.now x.slot r) (sym e)
    (measures_refused (laid x.l) x.s.now x.slot (outcome_failed (slot_refusal (laid x.l) x.s.now x.slot) (sym c.slot_refusal.ensures ∙ c.in_err-slot_refusal.was)))
