-- `read_stores::put_values` meets its contract. The loop's invariant: the values of the tokens from `at` on, put from here, give the whole,
-- in the byte buffer and in the table; it fits. What is left of the input falls. Assumes nothing.
use Prim.Native.Nat.{◌-◌, ◌≤◌}
use native.Mathlib.Omega.{arith}
use lib.ListN.{length}
use Rattle.values.specs.Tokens.{tokens_at}
use Rattle.scanner.proofs.Lexing.{lexes_as}
use Rattle.plain_runs.proofs.Runs.{run_inside}
use Rattle.read_counts.specs.Tally.{values, end}
use Rattle.read_stores.proofs.Storing.{listed_start, byte_fits, records_fit, separator_fits, listed_separator, listed_fault, listed_end}
use Rattle.read_stores.proofs.Runs.{listed_run, run_fits, run_told}
use Rattle.refusals.specs.Limits.{most_bytes}
use Rattle.read_stores.proofs.put_values.Goals as goal

pub loop-byte-init : goal.loop-byte-init
loop-byte-init g c =
    let s = c.args.s.now in
    let start = c.args.start in
    listed_start c.args.buffer.now c.args.table.now (tokens_at c.args.c s start) (length s - start) (length s) c.start_of_list-l.ensures
    c.requires.1.for_bytes c.requires.1.for_table (omega arith)

pub put_value_byte-begun-requires : goal.put_value_byte-begun-requires
put_value_byte-begun-requires g c =
    let l = lexes_as c.args.c c.args.s.now c.loop-byte.at c.lex.ensures c.in-Byte.is in
    let i = c.loop-byte.invariant in
    let short = c.requires.0 in
    let many : values c.loop-byte.l ≤ most_bytes = omega (arith, i.tally.enough.many) in
    let long : end c.loop-byte.l ≤ most_bytes = omega (arith, i.tally.enough.long) in
    (byte_fits g.met.S.Sink.laws c.loop-byte.l i l.0, records_fit g.met.S.Sink.laws c.loop-byte.l i l.0, many, long)

pub overflow_add-begun : goal.overflow_add-begun
overflow_add-begun g c =
    let args = c.args in
    let loop = c.loop-byte in
    let put = c.put_value_byte-begun.ensures in
    let run = c.past_plain-at.ensures in
    let lexed = lexes_as args.c args.s.now loop.at c.lex.ensures c.in-Byte.is in
    record { fits = omega (arith, (listed_run g.met.S.Sink.laws args.c args.s.now loop.l loop.invariant lexed.0 (omega arith) put.0 put.1 put.2 run).tally.enough.long, c.requires.0) }

pub put_plain-requires : goal.put_plain-requires
put_plain-requires g c =
    let args = c.args in
    let loop = c.loop-byte in
    let put = c.put_value_byte-begun.ensures in
    let run = c.past_plain-at.ensures in
    let lexed = lexes_as args.c args.s.now loop.at c.lex.ensures c.in-Byte.is in
    (run.0, run_inside args.c args.s.now run lexed.2, run_fits g.met.S.Sink.laws args.c args.s.now loop.l loop.invariant lexed.0 (omega arith) put.0 put.1 put.2 run)

pub overflow_sub-at : goal.overflow_sub-at
overflow_sub-at g c = c.past_plain-at.ensures.0

pub with_more-l-requires : goal.with_more-l-requires
with_more-l-requires g c =
    let args = c.args in
    let loop = c.loop-byte in
    let put = c.put_value_byte-begun.ensures in
    let run = c.past_plain-at.ensures in
    let lexed = lexes_as args.c args.s.now loop.at c.lex.ensures c.in-Byte.is in
    omega (arith, (listed_run g.met.S.Sink.laws args.c args.s.now loop.l loop.invariant lexed.0 (omega arith) put.0 put.1 put.2 run).tally.enough.long, c.requires.0)

pub loop-byte-smaller-in-Byte : goal.loop-byte-smaller-in-Byte
loop-byte-smaller-in-Byte g c =
    let lexed = lexes_as c.args.c c.args.s.now c.loop-byte.at c.lex.ensures c.in-Byte.is in
    omega (arith, c.past_plain-at.ensures.0)

pub loop-byte-preserved-in-Byte : goal.loop-byte-preserved-in-Byte
loop-byte-preserved-in-Byte g c =
    let args = c.args in
    let loop = c.loop-byte in
    let put = c.put_value_byte-begun.ensures in
    let run = c.past_plain-at.ensures in
    let lexed = lexes_as args.c args.s.now loop.at c.lex.ensures c.in-Byte.is in
    run_told g.met.S.Sink.laws args.c args.s.now loop.l loop.invariant lexed.0 (omega arith) put.0 put.1 put.2 run c.put_plain.ensures c.with_more-l.ensures

pub put_separator-l-requires : goal.put_separator-l-requires
put_separator-l-requires g c =
    let l = lexes_as c.args.c c.args.s.now c.loop-byte.at c.lex.ensures c.in-Separator.is in
    let i = c.loop-byte.invariant in
    let short = c.requires.0 in
    let many : values c.loop-byte.l ≤ most_bytes = omega (arith, i.tally.enough.many) in
    let long : end c.loop-byte.l ≤ most_bytes = omega (arith, i.tally.enough.long) in
    (separator_fits g.met.S.Sink.laws c.loop-byte.l i l.0, many, long)

pub loop-byte-smaller-in-Separator : goal.loop-byte-smaller-in-Separator
loop-byte-smaller-in-Separator g c = let l = lexes_as c.args.c c.args.s.now c.loop-byte.at c.lex.ensures c.in-Separator.is in omega arith

pub loop-byte-preserved-in-Separator : goal.loop-byte-preserved-in-Separator
loop-byte-preserved-in-Separator g c =
    let l = lexes_as c.args.c c.args.s.now c.loop-byte.at c.lex.ensures c.in-Separator.is in
    let e = c.put_separator-l.ensures in
    listed_separator g.met.S.Sink.laws c.loop-byte.l c.loop-byte.invariant l.0 e.0 e.1 (omega arith)

pub loop-byte-smaller : goal.loop-byte-smaller
loop-byte-smaller g c = let l = lexes_as c.args.c c.args.s.now c.loop-byte.at c.lex.ensures c.in-Stray.is in omega arith

pub loop-byte-preserved : goal.loop-byte-preserved
loop-byte-preserved g c =
    let l = lexes_as c.args.c c.args.s.now c.loop-byte.at c.lex.ensures c.in-Stray.is in
    listed_fault g.met.S.Sink.laws c.loop-byte.l c.loop-byte.invariant l.0 (omega arith)

pub returns-in-End : goal.returns-in-End
returns-in-End g c =
    let l = lexes_as c.args.c c.args.s.now c.loop-byte.at c.lex.ensures c.in-End.is in
    let (bytes, table, count, numbers) = listed_end g.met.S.Sink.laws c.loop-byte.l c.loop-byte.invariant l.0 in
    ((bytes, table), (count, numbers))
