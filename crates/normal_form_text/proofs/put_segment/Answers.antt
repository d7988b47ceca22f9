-- `normal_form_text::put_segment` meets its contract. The loop's invariant: what is emitted from `at` on, put from the place reached, gives what is
-- emitted from the start on, put there; it fits, and it is measured. What is left of the input falls. Assumes nothing.
use mathlib.Core.Path.{refl, sym, subst}
use native.Mathlib.Omega.{arith}
use Rattle.values.specs.Tokens.{tokens_at}
use Rattle.storing.proofs.Putting.{Going}
use Rattle.emission_laws.specs.declared.Held.{Held}
use Rattle.emission_laws.specs.Emission.{emitted}
use Rattle.scanner.proofs.Lexing.{lexes_as}
use Rattle.held_separators.proofs.Steps.{byte_fits, byte_put, separator_fits, separator_put, fault_put}
use Rattle.ordinary_runs.proofs.Runs.{run_inside, none_held}
use Rattle.stretches.specs.Stretches.{emitted_at}
use Rattle.normal_form_text.proofs.Passing.{passing_none, passing_byte, passing_separator, passing_fault, passing_run, passing_end, passing_terminator}
use Rattle.normal_form_text.proofs.Parts.{run_fits, run_put, terminator_put, none_put}
use Rattle.normal_form_text.proofs.put_segment.Goals as goal

pub loop-byte-init : goal.loop-byte-init
loop-byte-init g c =
    let x = c.args in
    let (short, inside, low, calm, room) = c.requires in
    let ts = tokens_at x.by.c x.s.now x.from.at in (
      subst (λ (h : Held). Going g.S.Sink.holds g.S.Sink.room x.buffer.now x.buffer.now x.from.total x.from.total (emitted_at x.by.c x.by.n x.s.now x.from.at) (emitted x.by.n h ts))
          (sym c.nothing_held.ensures) (record { put = refl; fits = room; same_room = refl }),
      passing_none x.by.c x.by.n x.s.now x.from inside refl c.nothing_held.ensures,
    )

pub put_value_byte-m-requires : goal.put_value_byte-m-requires
put_value_byte-m-requires g c =
    let l = lexes_as _ _ _ c.lex.ensures c.in-Byte.is in
    byte_fits g.met.S.Sink.laws c.args.by.n c.loop-byte.m _ c.loop-byte.invariant.0 l.0

pub put_run-at-requires : goal.put_run-at-requires
put_run-at-requires g c =
    let x = c.args in
    let l = lexes_as _ _ _ c.lex.ensures c.in-Byte.is in
    let state = c.loop-byte in
    let put = c.put_value_byte-m.ensures in
    run_fits g.met.S.Sink.laws x.by.c x.by.n x.s.now c.requires.3 c.put_value_byte-m.result (none_held x.by.n state.m c.in-Byte.byte put.1) l.2
    (byte_put g.met.S.Sink.laws x.by.n state.m _ state.invariant.0 l.0 put)

pub overflow_sub-at : goal.overflow_sub-at
overflow_sub-at g c = omega (arith, c.put_run-at.ensures.0.0)

pub with_run-m-requires : goal.with_run-m-requires
with_run-m-requires g c =
    let x = c.args in
    let (short, inside, low, calm, room) = c.requires in
    let l = lexes_as _ _ _ c.lex.ensures c.in-Byte.is in
    let state = c.loop-byte in
    let run = c.put_run-at.ensures.0 in
    let p = passing_byte x.by.c x.by.n x.s.now state.m state.invariant.1 l.0 l.1 l.2 c.put_value_byte-m.ensures.1 in
    omega (arith, p.low, p.on, run.0, run_inside x.s.now run l.2)

pub loop-byte-smaller-in-Byte : goal.loop-byte-smaller-in-Byte
loop-byte-smaller-in-Byte g c =
    let l = lexes_as _ _ _ c.lex.ensures c.in-Byte.is in
    omega (arith, c.put_run-at.ensures.0.0)

pub loop-byte-preserved-in-Byte : goal.loop-byte-preserved-in-Byte
loop-byte-preserved-in-Byte g c =
    let x = c.args in
    let (short, inside, low, calm, room) = c.requires in
    let l = lexes_as _ _ _ c.lex.ensures c.in-Byte.is in
    let state = c.loop-byte in
    let m = c.put_value_byte-m.result in
    let put = c.put_value_byte-m.ensures in
    let (run, text) = c.put_run-at.ensures in
    let none = none_held x.by.n state.m c.in-Byte.byte put.1 in
    let p = passing_byte x.by.c x.by.n x.s.now state.m state.invariant.1 l.0 l.1 l.2 put.1 in (
      run_put g.met.S.Sink.laws x.by.c x.by.n x.s.now calm m none l.2 (byte_put g.met.S.Sink.laws x.by.n state.m _ state.invariant.0 l.0 put) run text c.with_run-m.ensures,
      passing_run x.by.c x.by.n x.s.now m p calm none run c.with_run-m.ensures,
    )

pub put_separator-m-requires : goal.put_separator-m-requires
put_separator-m-requires g c =
    let (short, inside, low, calm, room) = c.requires in
    let l = lexes_as _ _ _ c.lex.ensures c.in-Separator.is in
    let (so_far, p) = c.loop-byte.invariant in
    (separator_fits g.met.S.Sink.laws c.args.by.n c.loop-byte.m _ so_far l.0, omega (arith, p.low, p.on, p.inside))

pub returns-then-rank-eq0 : goal.returns-then-rank-eq0
returns-then-rank-eq0 g c =
    let x = c.args in
    let l = lexes_as _ _ _ c.lex.ensures c.in-Separator.is in
    let state = c.loop-byte in
    let put = c.put_separator-m.ensures in
    let all = terminator_put g.met.S.Sink.laws x.by.n state.m _ state.invariant.0 l.0 c.if-rank-eq0.true put in (
      record {
        same = all.put;
        same_room = all.same_room;
        measured = passing_terminator x.by.c x.by.n x.s.now state.m state.invariant.1 l.0 l.1 l.2 c.if-rank-eq0.true put.1;
      },
      λ i. omega (arith, state.invariant.1.on),
    )

pub loop-byte-smaller-else-rank-eq0 : goal.loop-byte-smaller-else-rank-eq0
loop-byte-smaller-else-rank-eq0 g c = let l = lexes_as _ _ _ c.lex.ensures c.in-Separator.is in omega arith

pub loop-byte-preserved-else-rank-eq0 : goal.loop-byte-preserved-else-rank-eq0
loop-byte-preserved-else-rank-eq0 g c =
    let x = c.args in
    let l = lexes_as _ _ _ c.lex.ensures c.in-Separator.is in
    let state = c.loop-byte in
    let put = c.put_separator-m.ensures in (
      separator_put g.met.S.Sink.laws x.by.n state.m _ state.invariant.0 l.0 put,
      passing_separator x.by.c x.by.n x.s.now state.m state.invariant.1 l.0 l.1 l.2 put.1,
    )

pub loop-byte-smaller : goal.loop-byte-smaller
loop-byte-smaller g c = let l = lexes_as _ _ _ c.lex.ensures c.in-Stray.is in omega arith

pub loop-byte-preserved : goal.loop-byte-preserved
loop-byte-preserved g c =
    let x = c.args in
    let l = lexes_as _ _ _ c.lex.ensures c.in-Stray.is in
    let state = c.loop-byte in (
      fault_put g.met.S.Sink.laws x.by.n state.m _ state.invariant.0 l.0,
      passing_fault x.by.c x.by.n x.s.now state.m state.invariant.1 l.0 l.1 l.2,
    )

pub returns-in-End : goal.returns-in-End
returns-in-End g c =
    let x = c.args in
    let l = lexes_as _ _ _ c.lex.ensures c.in-End.is in
    let state = c.loop-byte in
    let all = none_put g.met.S.Sink.laws x.by.n state.m _ state.invariant.0 l.0 in (
      record {
        same = all.put;
        same_room = all.same_room;
        measured = passing_end x.by.c x.by.n x.s.now state.m state.invariant.1 l.0;
      },
      λ i. omega (arith, l.1),
    )
