-- `acknowledge::try_acknowledge` meets its contract: 23 answers, or 15 for the first lent list that is bad, or what follows them does.
-- Assumes nothing.
use Rattle.std.proofs.Common.{rules}
use mathlib.Core.Path.{◌≡◌, refl, sym, ap, subst, ◌∙◌}
use mathlib.Core.Bool.{true}
use mathlib.Core.Option.{Option, some}
use lib.ListN.{length}
use Rattle.refusals.specs.declared.Refusal.{Refusal}
use Rattle.operations.specs.Judge.{stored_in}
use Rattle.write.specs.Writing.{Tried}
use Rattle.write.proofs.Writing.{tried_refused}
use Rattle.acknowledgements.specs.Lent.{any_bad_lent}
use Rattle.acknowledgements.specs.Acknowledgement.{acknowledgement_text}
use Rattle.acknowledgement_parts.specs.Parts.{lent_in}
use Rattle.reported.specs.Reporting.{Reports}
use Rattle.acknowledge.proofs.Stages.{bad_date, bad_reference, bad_message, none_bad, first_stage, lent_stage, report_told, report_failed}
use Rattle.acknowledge.proofs.try_acknowledge.Goals.{then-is_bad-via-then-is_bad, then-is_bad-via-else-is_bad+then-is_bad-2, then-is_bad-via-else-is_bad+else-is_bad-2+then-is_bad-3}
use Rattle.acknowledge.proofs.try_acknowledge.Goals as goal

pub returns-in_err-r : goal.returns-in_err-r
returns-in_err-r c =
    let x = c.args in
    let (none, same) = report_failed c.report_of.result _ (sym c.ok_or.ensures.value ∙ c.in_err-r.was) in
    tried_refused (first_stage x.s.now (lent_in x.lent.now) x.output.now (subst (Reports x.s.now) none c.report_of.ensures) ∙ ap some same) (search rules) refl

pub returns-then-is_bad : goal.returns-then-is_bad
returns-then-is_bad c =
    let x = c.args in
    let l = lent_in x.lent.now in
    let made = subst (Reports x.s.now) (report_told c.report_of.result _ (sym c.ok_or.ensures.value ∙ c.in_ok-r.was)) c.report_of.ensures in
    let bad : any_bad_lent l ≡ true = elim c.then-is_bad.branch [
      | then-is_bad-via-then-is_bad w ↦ bad_date l (sym c.is_bad.ensures ∙ w.if-is_bad.true)
      | then-is_bad-via-else-is_bad+then-is_bad-2 w ↦ bad_reference l (sym w.is_bad-else-is_bad.ensures ∙ w.if-is_bad-2.true)
      | then-is_bad-via-else-is_bad+else-is_bad-2+then-is_bad-3 w ↦ bad_message l (sym w.is_bad-else-is_bad-2.ensures ∙ w.if-is_bad-3.true)
    ] in
    tried_refused (first_stage x.s.now l x.output.now made.0 ∙ lent_stage x.s.now l x.output.now bad) c.failed.ensures refl

pub try_received-requires : goal.try_received-requires
try_received-requires c =
    let x = c.args in
    let l = lent_in x.lent.now in
    let made = subst (Reports x.s.now) (report_told c.report_of.result _ (sym c.ok_or.ensures.value ∙ c.in_ok-r.was)) c.report_of.ensures in
    (made.0, made.1, none_bad l (sym c.is_bad.ensures ∙ c.if-is_bad.false) (sym c.is_bad-else-is_bad.ensures ∙ c.if-is_bad-2.false) (sym c.is_bad-else-is_bad-2.ensures ∙ c.if-is_bad-3.false))

pub returns : goal.returns
returns c =
    let x = c.args in
    let l = lent_in x.lent.now in
    let made = subst (Reports x.s.now) (report_told c.report_of.result _ (sym c.ok_or.ensures.value ∙ c.in_ok-r.was)) c.report_of.ensures in
    let good = none_bad l (sym c.is_bad.ensures ∙ c.if-is_bad.false) (sym c.is_bad-else-is_bad.ensures ∙ c.if-is_bad-2.false) (sym c.is_bad-else-is_bad-2.ensures ∙ c.if-is_bad-3.false) in
    let text = acknowledgement_text x.s.now l in
    subst (λ (o : Option Refusal). Tried o (length text) (stored_in x.output.now text) x.output.now c.try_received.result c.try_received.new.output)
    (sym (first_stage x.s.now l x.output.now made.0 ∙ lent_stage x.s.now l x.output.now good)) c.try_received.ensures
