-- `parties::parties_of` meets its contract: Judge's refusal answers, or each of the three elements is the one of that number in UNB.
-- Assumes nothing.
use Rattle.std.specs.Prelude.{Err}
use mathlib.Core.Path.{◌≡◌, ◌∙◌}
use borrow.Author.Rules.{rules}
use Rattle.judge.proofs.Told.{told_accepted, told_refused}
use Rattle.parties.proofs.Finding.{element_past, whole_from, part_is, parties_found, parties_refused}
use Rattle.parties.proofs.parties_of.Goals as goal

pub first_value-requires : goal.first_value-requires
first_value-requires c =
    let x = c.args in
    let t = told_accepted x.s.now c.judge.ensures c.in_ok-figures.was in
    let body = c.body_start in
    let second = c.element_after-second in
    let sender = c.past_plain-sender in
    (whole_from x.s.now t.0 t.1 body.ensures second.result 2 second.ensures.0, sender.ensures)

pub first_value-requires-2 : goal.first_value-requires-2
first_value-requires-2 c =
    let x = c.args in
    let t = told_accepted x.s.now c.judge.ensures c.in_ok-figures.was in
    let body = c.body_start in
    let second = c.element_after-second in
    let sender = c.past_plain-sender in
    let third = c.next_element-third in
    let recipient = c.past_plain-recipient in
    let to-third = element_past c.in_ok-figures.figures.characters x.s.now body.result second.result sender.result third.result 0 2 second.ensures.0 sender.ensures third.ensures in
    (whole_from x.s.now t.0 t.1 body.ensures third.result 3 to-third, recipient.ensures)

pub first_value-requires-3 : goal.first_value-requires-3
first_value-requires-3 c =
    let x = c.args in
    let t = told_accepted x.s.now c.judge.ensures c.in_ok-figures.was in
    let body = c.body_start in
    let second = c.element_after-second in
    let sender = c.past_plain-sender in
    let third = c.next_element-third in
    let recipient = c.past_plain-recipient in
    let to-third = element_past c.in_ok-figures.figures.characters x.s.now body.result second.result sender.result third.result 0 2 second.ensures.0 sender.ensures third.ensures in
    let fifth = c.element_after-fifth in
    let reference = c.past_plain-reference in
    let to-fifth = element_past c.in_ok-figures.figures.characters x.s.now body.result third.result recipient.result fifth.result 1 3 to-third recipient.ensures fifth.ensures in
    (whole_from x.s.now t.0 t.1 body.ensures fifth.result 5 to-fifth, reference.ensures)

pub returns-in_err-figures : goal.returns-in_err-figures
returns-in_err-figures c =
    let x = c.args in
    let e : c.from_residual.result ≡ Err c.in_err-figures.field-0.0 = search rules in
    e ∙ parties_refused x.s.now (told_refused x.s.now c.judge.ensures c.in_err-figures.was)

pub returns : goal.returns
returns c =
    let x = c.args in
    let t = told_accepted x.s.now c.judge.ensures c.in_ok-figures.was in
    let body = c.body_start in
    let second = c.element_after-second in
    let sender = c.past_plain-sender in
    let third = c.next_element-third in
    let recipient = c.past_plain-recipient in
    let to-third = element_past c.in_ok-figures.figures.characters x.s.now body.result second.result sender.result third.result 0 2 second.ensures.0 sender.ensures third.ensures in
    let fifth = c.element_after-fifth in
    let reference = c.past_plain-reference in
    let to-fifth = element_past c.in_ok-figures.figures.characters x.s.now body.result third.result recipient.result fifth.result 1 3 to-third recipient.ensures fifth.ensures in
    parties_found x.s.now t.0 t.1 body.ensures
    (part_is x.s.now t.0 t.1 body.ensures second.result 1 second.ensures.0 c.first_value.ensures)
    (part_is x.s.now t.0 t.1 body.ensures third.result 2 to-third c.first_value-2.ensures)
    (part_is x.s.now t.0 t.1 body.ensures fifth.result 4 to-fifth c.first_value-3.ensures)
