-- `acknowledgement_parts::records_in` meets its contract: one case for each kind of part. Assumes nothing.
use mathlib.Core.Path.{sym, ap}
use native.Mathlib.Omega.{arith}
use lib.ListN.{length}
use Rattle.operations.specs.ValueList.{listed_in}
use Rattle.values.specs.Tokens.{tokens_at}
use Rattle.received_pieces.proofs.Trimmed.{values_counted}
use Rattle.lent_elements.proofs.Records.{leading_length}
use Rattle.acknowledgement_parts.specs.Parts.{lent_in}
use Rattle.acknowledgement_parts.proofs.Parts.{ranked}
use Rattle.acknowledgement_parts.proofs.Cases.{items_as, fine_as}
use Rattle.acknowledgement_parts.proofs.records_in.Goals as goal

pub values_in-requires : goal.values_in-requires
values_in-requires c = c.requires.1

pub returns-in-Word : goal.returns-in-Word
returns-in-Word c =
    let x = c.args in
    (sym (ap length (items_as x.s.now x.d (lent_in x.lent.now) c.in-Word.is)), omega arith)

pub returns-in-Syntax : goal.returns-in-Syntax
returns-in-Syntax c =
    let x = c.args in
    (sym (ap length (items_as x.s.now x.d (lent_in x.lent.now) c.in-Syntax.is)), omega arith)

pub returns-in-Element : goal.returns-in-Element
returns-in-Element c =
    let x = c.args in
    let e = c.in-Element.is in
    let from = c.in-Element.from in
    let counted = values_counted (tokens_at x.d x.s.now from) (fine_as x.s.now x.d (lent_in x.lent.now) e c.requires.0) (ranked x.d x.s.now from) in
    (omega (arith, counted, c.values_in.ensures.0, ap length (items_as x.s.now x.d (lent_in x.lent.now) e)), omega (arith, c.values_in.ensures.1, c.requires.1))

pub returns-in-Date : goal.returns-in-Date
returns-in-Date c =
    let x = c.args in
    let e = c.in-Date.is in
    let fine = fine_as x.s.now x.d (lent_in x.lent.now) e c.requires.0 in
    (omega (arith, fine.thirds, leading_length (listed_in x.lent.now.date.bytes.now x.lent.now.date.table.now), ap length (items_as x.s.now x.d (lent_in x.lent.now) e)), omega (arith, fine.short))

pub returns-in-Reference : goal.returns-in-Reference
returns-in-Reference c =
    let x = c.args in
    let e = c.in-Reference.is in
    let fine = fine_as x.s.now x.d (lent_in x.lent.now) e c.requires.0 in
    (omega (arith, fine.thirds, leading_length (listed_in x.lent.now.reference.bytes.now x.lent.now.reference.table.now), ap length (items_as x.s.now x.d (lent_in x.lent.now) e)), omega (arith, fine.short))

pub returns-in-Message : goal.returns-in-Message
returns-in-Message c =
    let x = c.args in
    let e = c.in-Message.is in
    let fine = fine_as x.s.now x.d (lent_in x.lent.now) e c.requires.0 in
    (omega (arith, fine.thirds, leading_length (listed_in x.lent.now.message.bytes.now x.lent.now.message.table.now), ap length (items_as x.s.now x.d (lent_in x.lent.now) e)), omega (arith, fine.short))
