-- `acknowledgement_parts::put_part` meets its contract: one case for each kind of part. Assumes nothing.
use native.Mathlib.Omega.{arith}
use Rattle.emission_laws.specs.Emission.{waiting}
use Rattle.value_list_text.specs.Composing.{record_tokens, item_of}
use Rattle.value_lists.specs.declared.Record.{Record}
use Rattle.lent_elements.proofs.Records.{record_most}
use Rattle.acknowledgement_parts.specs.Parts.{words, lent_in}
use Rattle.acknowledgement_parts.proofs.Parts.{advances_by, room_for, one_reaches, one_appended}
use Rattle.acknowledgement_parts.proofs.Cases.{fine_as, few_as, reaches_as, advances_as}
use Rattle.acknowledgement_parts.proofs.put_part.Goals as goal

pub put_record-requires : goal.put_record-requires
put_record-requires g c =
    let x = c.args in
    let known = c.requires in
    let e = c.in-Word.is in
    let fine = fine_as x.s.now x.d (lent_in x.lent.now) e known.0 in
    let word : Record = record { kind = c.in-Word.kind; start = c.in-Word.start; size = c.in-Word.size } in (
      fine.1,
      omega (arith, known.1, known.2),
      room_for g.S.Sink.room x.c x.m (record_tokens (item_of words word)) x.buffer.now (one_reaches g.S.Sink.room x.c x.m (item_of words word) x.buffer.now (reaches_as x.s.now x.d (lent_in x.lent.now) e g.S.Sink.room x.c x.m x.buffer.now known.4))
          (omega (arith, known.1, known.2, fine.1, record_most x.c x.m words word)),
    )

pub put_syntax-requires : goal.put_syntax-requires
put_syntax-requires g c =
    let x = c.args in
    let known = c.requires in
    (known.1, omega (arith, known.2), known.3, reaches_as x.s.now x.d (lent_in x.lent.now) c.in-Syntax.is g.S.Sink.room x.c x.m x.buffer.now known.4)

pub put_element-requires : goal.put_element-requires
put_element-requires g c =
    let x = c.args in
    let known = c.requires in
    let e = c.in-Element.is in
    (known.1, omega (arith, known.2), known.3, fine_as x.s.now x.d (lent_in x.lent.now) e known.0, reaches_as x.s.now x.d (lent_in x.lent.now) e g.S.Sink.room x.c x.m x.buffer.now known.4)

pub put_list-requires : goal.put_list-requires
put_list-requires g c =
    let x = c.args in
    let known = c.requires in
    let e = c.in-Date.is in
    let fine = fine_as x.s.now x.d (lent_in x.lent.now) e known.0 in
    (fine.good, fine.some, fine.short, known.1, few_as x.s.now x.d (lent_in x.lent.now) e (waiting x.m.held) known.2, reaches_as x.s.now x.d (lent_in x.lent.now) e g.S.Sink.room x.c x.m x.buffer.now known.4)

pub put_list-requires-in-Reference : goal.put_list-requires-in-Reference
put_list-requires-in-Reference g c =
    let x = c.args in
    let known = c.requires in
    let e = c.in-Reference.is in
    let fine = fine_as x.s.now x.d (lent_in x.lent.now) e known.0 in
    (fine.good, fine.some, fine.short, known.1, few_as x.s.now x.d (lent_in x.lent.now) e (waiting x.m.held) known.2, reaches_as x.s.now x.d (lent_in x.lent.now) e g.S.Sink.room x.c x.m x.buffer.now known.4)

pub put_list-requires-in-Message : goal.put_list-requires-in-Message
put_list-requires-in-Message g c =
    let x = c.args in
    let known = c.requires in
    let e = c.in-Message.is in
    let fine = fine_as x.s.now x.d (lent_in x.lent.now) e known.0 in
    (fine.good, fine.some, fine.short, known.1, few_as x.s.now x.d (lent_in x.lent.now) e (waiting x.m.held) known.2, reaches_as x.s.now x.d (lent_in x.lent.now) e g.S.Sink.room x.c x.m x.buffer.now known.4)

pub returns-in-Word : goal.returns-in-Word
returns-in-Word g c =
    let x = c.args in
    advances_as x.s.now x.d (lent_in x.lent.now) c.in-Word.is x.c x.m (advances_by x.c x.m _ (one_appended x.c x.m _ c.put_record.ensures))

pub returns-in-Syntax : goal.returns-in-Syntax
returns-in-Syntax g c =
    let x = c.args in
    advances_as x.s.now x.d (lent_in x.lent.now) c.in-Syntax.is x.c x.m (advances_by x.c x.m _ c.put_syntax.ensures)

pub returns-in-Element : goal.returns-in-Element
returns-in-Element g c =
    let x = c.args in
    advances_as x.s.now x.d (lent_in x.lent.now) c.in-Element.is x.c x.m (advances_by x.c x.m _ c.put_element.ensures)

pub returns-in-Date : goal.returns-in-Date
returns-in-Date g c =
    let x = c.args in
    advances_as x.s.now x.d (lent_in x.lent.now) c.in-Date.is x.c x.m c.put_list.ensures

pub returns-in-Reference : goal.returns-in-Reference
returns-in-Reference g c =
    let x = c.args in
    advances_as x.s.now x.d (lent_in x.lent.now) c.in-Reference.is x.c x.m c.put_list-in-Reference.ensures

pub returns-in-Message : goal.returns-in-Message
returns-in-Message g c =
    let x = c.args in
    advances_as x.s.now x.d (lent_in x.lent.now) c.in-Message.is x.c x.m c.put_list-in-Message.ensures
