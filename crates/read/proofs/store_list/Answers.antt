-- `read::store_list` meets its contract: 14 answers for the byte buffer, then for the table, or both are stored. Assumes nothing.
use mathlib.Core.Path.{ap, ◌∙◌}
use native.Mathlib.Omega.{arith}
use Rattle.answers.specs.Answers.{told_listed}
use Rattle.judge.proofs.Bodies.{accepted_short}
use Rattle.judge.proofs.Told.{characters_of_lem}
use Rattle.read.proofs.Reading.{bytes_are, table_is, bytes_needed, numbers_needed, bytes_refused, table_refused, list_stored}
use borrow.Author.Rules.{rules}
use Rattle.read.proofs.store_list.Goals as goal

pub tally_of-tally-requires : goal.tally_of-tally-requires
tally_of-tally-requires c = accepted_short c.args.s.now c.requires.0

pub returns-then-buffer-tally : goal.returns-then-buffer-tally
returns-then-buffer-tally c =
    let s = c.args.s.now in
    let a = c.requires.0 in
    let d = characters_of_lem s c.requires.1 in
    let p = c.body_start-start.ensures in
    let n = bytes_refused c.args.buffer.now c.args.table.now s a (bytes_needed s a d p c.tally_of-tally.ensures.0) c.if-buffer-tally.true in
    (ap told_listed c.failed.ensures ∙ n.0, n.1, n.2)

pub returns-then-table-tally : goal.returns-then-table-tally
returns-then-table-tally c =
    let s = c.args.s.now in
    let a = c.requires.0 in
    let d = characters_of_lem s c.requires.1 in
    let p = c.body_start-start.ensures in
    let t = c.tally_of-tally.ensures in
    let n =
    table_refused c.args.buffer.now c.args.table.now s a (bytes_needed s a d p t.0) c.if-buffer-tally.false
    (numbers_needed s a d p t.1) c.if-table-tally.true in
    (ap told_listed c.failed-then-table-tally.ensures ∙ n.0, n.1, n.2)

pub put_values-requires : goal.put_values-requires
put_values-requires c =
    let t = c.tally_of-tally.ensures in
    let short = accepted_short c.args.s.now c.requires.0 in
    (short, record { for_bytes = omega arith; for_table = omega arith })

pub returns : goal.returns
returns c =
    let s = c.args.s.now in
    let buffer = c.args.buffer.now in
    let table = c.args.table.now in
    let a = c.requires.0 in
    let d = characters_of_lem s c.requires.1 in
    let p = c.body_start-start.ensures in
    let t = c.tally_of-tally.ensures in
    let e = c.put_values.ensures.0 in
    list_stored buffer table s a (bytes_needed s a d p t.0) c.if-buffer-tally.false (numbers_needed s a d p t.1) c.if-table-tally.false
    (bytes_are s a d p) (table_is s a d p) e.0 e.1
