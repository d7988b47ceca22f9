-- `removing::take_text` meets its contract: 20, or the text is taken out. Assumes nothing.
use Rattle.answers.specs.Answers.{Stored}
use Rattle.std.specs.Prelude.{Err}
use Rattle.std.proofs.Common.{rules}
use native.Mathlib.Omega.{arith}
use mathlib.Core.Path.{◌≡◌, sym, ap, subst, ◌∙◌}
use mathlib.Core.Bool.{true}
use Rattle.shelves.specs.Layout.{Layout, version_two, length_of}
use Rattle.shelves.specs.Soundness.{sound}
use Rattle.shelves.specs.Operations.{slot_refusal}
use Rattle.shelves.proofs.Sound.{says_sound}
use Rattle.shelf.specs.Parts.{cleared, TakesText}
use Rattle.shelf.proofs.Refusing.{asked_here, outcome_passed, outcome_failed, passed_kept}
use Rattle.shelf.proofs.Lent.{heads_map, refused_slot, taken}
use Rattle.shelf.proofs.removing.take_text.Goals as goal

pub returns-in_err-check_slot : goal.returns-in_err-check_slot
returns-in_err-check_slot c =
    let x = c.args in
    let s = x.s.now in
    let known = c.requires in
    let e : c.from_residual.result ≡ Err c.in_err-check_slot.field-0.0 = search rules in
    let asked = asked_here version_two s x.slot known.0 (heads_map s x.u known.1) in
    subst (λ (r : Stored). TakesText version_two s x.slot r s) (sym e)
    (refused_slot version_two s x.u known.1 known.0 x.slot (outcome_failed (slot_refusal version_two s x.slot) (sym asked ∙ sym c.check_slot.ensures ∙ c.in_err-check_slot.was)))

pub length_of-size-requires : goal.length_of-size-requires
length_of-size-requires c =
    let x = c.args in
    let q = (says_sound version_two x.s.now).0 c.requires.0 in
    let pairs = ap (λ (l : Layout). l.pairs) c.version_two-l.ensures in
    let kept = passed_kept version_two x.s.now x.slot (outcome_passed (slot_refusal version_two x.s.now x.slot) (sym (asked_here version_two x.s.now x.slot c.requires.0 (heads_map x.s.now x.u c.requires.1)) ∙ sym c.check_slot.ensures ∙ c.in_ok-check_slot.was)) in
    (omega (arith, q.least, pairs), kept.1.0)

pub take_out-requires : goal.take_out-requires
take_out-requires c =
    let x = c.args in
    let known = c.requires in
    let two = c.version_two-l.ensures in
    let pairs = ap (λ (l : Layout). l.pairs) two in
    let kept = passed_kept version_two x.s.now x.slot (outcome_passed (slot_refusal version_two x.s.now x.slot) (sym (asked_here version_two x.s.now x.slot known.0 (heads_map x.s.now x.u known.1)) ∙ sym c.check_slot.ensures ∙ c.in_ok-check_slot.was)) in (
      (subst (λ (l : Layout). sound l x.s.now ≡ true) (sym two) known.0, (omega arith, omega arith), known.1),
      kept.1,
      c.length_of-size.ensures.0,
    )

pub returns : goal.returns
returns c =
    let x = c.args in
    let s = x.s.now in
    let known = c.requires in
    let two = c.version_two-l.ensures in
    let passed = outcome_passed (slot_refusal version_two s x.slot) (sym (asked_here version_two s x.slot known.0 (heads_map s x.u known.1)) ∙ sym c.check_slot.ensures ∙ c.in_ok-check_slot.was) in
    let kept = passed_kept version_two s x.slot passed in
    taken version_two s x.u known.1 known.0 (omega arith) x.slot kept.1.0 kept.1.1 passed
    (c.length_of-size.ensures.0 ∙ ap (λ (l : Layout). length_of l s x.slot) two)
    (c.take_out.ensures ∙ ap (λ (l : Layout). cleared l s x.slot) two)
