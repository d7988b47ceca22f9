-- `export_columns::store_text` meets its contract: 14 answers, or the text is stored. Assumes nothing.
use mathlib.Core.Path.{sym, subst}
use native.Mathlib.Omega.{arith}
use Rattle.answers.specs.Answers.{Stored}
use Rattle.columns.specs.Promises.{Exports}
use Rattle.judge.proofs.Bodies.{accepted_short}
use Rattle.judge.proofs.Told.{characters_of_lem}
use Rattle.export_columns.proofs.Exporting.{text_needed, text_put, lines_fit, heading_fits, short_refused, text_stored}
use Rattle.export_columns.proofs.store_text.Goals as goal

pub text_length-n-requires : goal.text_length-n-requires
text_length-n-requires c = accepted_short c.args.s.now c.requires.0

pub returns-then-buffer-n : goal.returns-then-buffer-n
returns-then-buffer-n c =
    let args = c.args in
    let s = args.s.now in
    let accepted = c.requires.0 in
    let needed = text_needed s accepted (characters_of_lem s c.requires.1) c.body_start-start.ensures c.text_length-n.ensures in
    subst (λ (r : Stored). Exports args.buffer.now s r args.buffer.now) (sym c.failed.ensures)
    (short_refused args.buffer.now s accepted needed c.if-buffer-n.true)

pub put_heading-requires : goal.put_heading-requires
put_heading-requires c =
    let args = c.args in
    heading_fits args.s.now args.i.characters c.body_start-start.result args.buffer.now c.text_length-n.ensures c.if-buffer-n.false

pub put_lines-requires : goal.put_lines-requires
put_lines-requires c =
    let args = c.args in
    let fits = lines_fit args.s.now args.i.characters c.body_start-start.result args.buffer.now c.text_length-n.ensures c.if-buffer-n.false in
    (accepted_short args.s.now c.requires.0, omega (arith, fits))

pub returns : goal.returns
returns c =
    let args = c.args in
    let s = args.s.now in
    let buffer = args.buffer.now in
    let accepted = c.requires.0 in
    let d = characters_of_lem s c.requires.1 in
    let p = c.body_start-start.ensures in
    text_stored buffer s accepted (text_needed s accepted d p c.text_length-n.ensures) c.if-buffer-n.false
    (text_put s accepted d p buffer c.put_heading.ensures c.put_lines.ensures.0)
