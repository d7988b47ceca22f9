-- `export_columns::put_lines` meets its contract. The loop's invariant: the lines of the tokens from `at` on, put from here, give what those
-- of the whole, put at the start, give. What is left of the input falls. Assumes nothing.
use Prim.Native.Nat.{◌-◌}
use native.Mathlib.Omega.{arith}
use lib.ListN.{length}
use Rattle.values.specs.Tokens.{tokens_at}
use Rattle.scanner.proofs.Lexing.{lexes_as}
use Rattle.plain_runs.proofs.Runs.{run_inside}
use Rattle.export_columns.proofs.Lines.{room_less}
use Rattle.export_columns.proofs.Steps.{put_start, byte_fits, separator_fits, separator_put, fault_put, all_put_lem}
use Rattle.export_columns.proofs.Runs.{put_run, run_fits, run_told}
use Rattle.export_columns.proofs.put_lines.Goals as goal

pub loop-byte-init : goal.loop-byte-init
loop-byte-init g c =
    let args = c.args in
    let s = args.s.now in
    put_start args.buffer.now (tokens_at args.c s args.start) (length s - args.start) c.first_line-l.ensures (omega (arith, c.requires.0)) c.requires.1

pub put_byte-begun-requires : goal.put_byte-begun-requires
put_byte-begun-requires g c =
    let lexed = lexes_as _ _ _ c.lex.ensures c.in-Byte.is in
    let loop = c.loop-byte in
    (byte_fits g.met.S.Sink.laws loop.l loop.invariant lexed.0, room_less loop.l (omega arith) loop.invariant.counted.enough)

pub put_plain-requires : goal.put_plain-requires
put_plain-requires g c =
    let args = c.args in
    let s = args.s.now in
    let loop = c.loop-byte in
    let put = c.put_byte-begun.ensures in
    let run = c.past_plain-at.ensures in
    let lexed = lexes_as _ _ _ c.lex.ensures c.in-Byte.is in
    (run.0, run_inside args.c s run lexed.2, run_fits g.met.S.Sink.laws args.c s loop.l loop.invariant lexed.0 (omega arith) put.0 put.1 run)

pub overflow_sub-at : goal.overflow_sub-at
overflow_sub-at g c = c.past_plain-at.ensures.0

pub with_more-l-requires : goal.with_more-l-requires
with_more-l-requires g c =
    let args = c.args in
    let loop = c.loop-byte in
    let put = c.put_byte-begun.ensures in
    let lexed = lexes_as _ _ _ c.lex.ensures c.in-Byte.is in
    omega (arith, (put_run g.met.S.Sink.laws args.c args.s.now loop.l loop.invariant lexed.0 (omega arith) put.0 put.1 c.past_plain-at.ensures).counted.enough.most)

pub loop-byte-smaller-in-Byte : goal.loop-byte-smaller-in-Byte
loop-byte-smaller-in-Byte g c = let lexed = lexes_as _ _ _ c.lex.ensures c.in-Byte.is in omega (arith, c.past_plain-at.ensures.0)

pub loop-byte-preserved-in-Byte : goal.loop-byte-preserved-in-Byte
loop-byte-preserved-in-Byte g c =
    let args = c.args in
    let loop = c.loop-byte in
    let put = c.put_byte-begun.ensures in
    let lexed = lexes_as _ _ _ c.lex.ensures c.in-Byte.is in
    run_told g.met.S.Sink.laws args.c args.s.now loop.l loop.invariant lexed.0 (omega arith) put.0 put.1 c.past_plain-at.ensures c.put_plain.ensures c.with_more-l.ensures

pub put_separator-l-requires : goal.put_separator-l-requires
put_separator-l-requires g c =
    let lexed = lexes_as _ _ _ c.lex.ensures c.in-Separator.is in
    let loop = c.loop-byte in
    (separator_fits g.met.S.Sink.laws loop.l loop.invariant lexed.0, room_less loop.l (omega arith) loop.invariant.counted.enough)

pub loop-byte-smaller-in-Separator : goal.loop-byte-smaller-in-Separator
loop-byte-smaller-in-Separator g c = let lexed = lexes_as _ _ _ c.lex.ensures c.in-Separator.is in omega arith

pub loop-byte-preserved-in-Separator : goal.loop-byte-preserved-in-Separator
loop-byte-preserved-in-Separator g c =
    let lexed = lexes_as _ _ _ c.lex.ensures c.in-Separator.is in
    let loop = c.loop-byte in
    let put = c.put_separator-l.ensures in
    separator_put g.met.S.Sink.laws loop.l loop.invariant lexed.0 put.0 put.1 (omega arith)

pub loop-byte-smaller : goal.loop-byte-smaller
loop-byte-smaller g c = let lexed = lexes_as _ _ _ c.lex.ensures c.in-Stray.is in omega arith

pub loop-byte-preserved : goal.loop-byte-preserved
loop-byte-preserved g c =
    let lexed = lexes_as _ _ _ c.lex.ensures c.in-Stray.is in
    fault_put g.met.S.Sink.laws c.loop-byte.l c.loop-byte.invariant lexed.0 (omega arith)

pub returns-in-End : goal.returns-in-End
returns-in-End g c =
    let lexed = lexes_as _ _ _ c.lex.ensures c.in-End.is in
    all_put_lem g.met.S.Sink.laws c.loop-byte.l c.loop-byte.invariant lexed.0
