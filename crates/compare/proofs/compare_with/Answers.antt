-- `compare::compare_with` meets its contract: a second that is the normal form has it, and is accepted; of another the refusal answers, or the
-- two normal forms are compared. Assumes nothing.
use Rattle.std.proofs.Common.{◌≡◌, Ok, Err, rules, subst}
use Rattle.refusals.specs.declared.Refusal.{Refusal}
use Rattle.answers.specs.Answers.{Compared, told_compared}
use Rattle.answers.specs.declared.Unaccepted.TheVariants.{Second}
use Rattle.compare.specs.Forms.{compared_to}
use mathlib.Core.Path.{sym, ap, ◌∙◌}
use Rattle.lists.specs.Lists.{same}
use Rattle.compare.proofs.Compared.{form_stored, form_refused, bytes_form, text_refused, text_told}
use Rattle.compare.proofs.compare_with.Goals as goal

pub returns-then-equal : goal.returns-then-equal
returns-then-equal c =
    bytes_form c.args.text.now c.args.second.now c.requires.0 (sym c.equal.ensures ∙ c.if-equal.true)

pub slice_bounds-equal-end : goal.slice_bounds-equal-end
slice_bounds-equal-end c =
    let x = c.args in
    let e : c.normalise.result ≡ Ok c.in_ok-n.n = search rules in
    (form_stored x.buffer.now x.second.now c.normalise.ensures e).1

pub slice_bounds-equal-end-2 : goal.slice_bounds-equal-end-2
slice_bounds-equal-end-2 c =
    let x = c.args in
    let e : c.normalise.result ≡ Ok c.in_ok-n.n = search rules in
    (form_stored x.buffer.now x.second.now c.normalise.ensures e).2

pub returns-in_err-n : goal.returns-in_err-n
returns-in_err-n c =
    let second = c.args.second.now in
    let e : (r : Refusal) × (c.normalise.result ≡ Err r) × (c.from_residual.result ≡ Err (Second r)) = search rules in
    subst (λ (r : Compared). told_compared r ≡ compared_to c.args.text.now second) (sym e.2)
    (text_refused c.args.text.now second (form_refused c.args.buffer.now second c.normalise.ensures c.requires.1 e.1))

pub returns : goal.returns
returns c =
    let x = c.args in
    let e : c.normalise.result ≡ Ok c.in_ok-n.n = search rules in
    let (accepted, fits, long, form) = form_stored x.buffer.now x.second.now c.normalise.ensures e in
    text_told x.text.now x.second.now accepted _ (ap (same x.text.now) (sym form) ∙ sym c.equal-2.ensures)
