-- `shelf::got_from` meets its contract: the kept text, or zero bytes at the start. Assumes nothing.
use native.Mathlib.Omega.{arith}
use mathlib.Core.Path.{sym, ◌∙◌}
use Rattle.shelf_layout.specs.Laid.{laid}
use Rattle.shelves.specs.Operations.{slot_refusal}
use Rattle.shelf.proofs.Refusing.{passed_kept, passed_range, outcome_passed, outcome_failed}
use Rattle.shelf.proofs.Copies.{kept_within}
use Rattle.shelf.proofs.Spans.{got_refused, got_kept}
use Rattle.shelf.proofs.got_from.Goals as goal

pub start_of-requires : goal.start_of-requires
start_of-requires c = let x = c.args in passed_range (laid x.l) x.s.now x.slot (outcome_passed (slot_refusal (laid x.l) x.s.now x.slot) (sym c.slot_refusal.ensures ∙ c.in-Ok.is))

pub length_of-requires : goal.length_of-requires
length_of-requires c = let x = c.args in passed_range (laid x.l) x.s.now x.slot (outcome_passed (slot_refusal (laid x.l) x.s.now x.slot) (sym c.slot_refusal.ensures ∙ c.in-Ok.is))

pub returns-in-Ok : goal.returns-in-Ok
returns-in-Ok c =
    let x = c.args in
    let passed = outcome_passed (slot_refusal (laid x.l) x.s.now x.slot) (sym c.slot_refusal.ensures ∙ c.in-Ok.is) in
    let known = passed_kept (laid x.l) x.s.now x.slot passed in record { value = got_kept (laid x.l) x.s.now x.slot passed c.length_of.ensures.0 c.start_of.ensures.0; inside = omega (arith, kept_within (laid x.l) x.s.now x.slot known.0 known.1.0 known.1.1, c.length_of.ensures.0, c.start_of.ensures.0) }

pub returns-in-Err : goal.returns-in-Err
returns-in-Err c =
    let x = c.args in record { value = got_refused (laid x.l) x.s.now x.slot (outcome_failed (slot_refusal (laid x.l) x.s.now x.slot) (sym c.slot_refusal.ensures ∙ c.in-Err.is)); inside = omega arith }
