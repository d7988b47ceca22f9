-- `ordinary_runs::put_run` meets its contract. The loop's invariant: the bytes before `at` are a run, and are put. Assumes nothing.
use Prim.Native.Nat.{◌-◌}
use mathlib.Core.Path.{refl, sym, ◌∙◌}
use native.Mathlib.Omega.{arith}
use lib.ListN.{take, drop}
use Rattle.storing.proofs.Putting.{room_left}
use Rattle.ordinary_runs.proofs.Runs.{run_none, run_next_lem, run_room, empty_run_put, longer_run_put}
use Rattle.ordinary_runs.proofs.put_run.Goals as goal

pub loop-at-init : goal.loop-at-init
loop-at-init g c =
    let x = c.args in
    (run_none x.s.now x.from, empty_run_put g.met.S.Sink.laws x.s.now x.from x.into x.buffer.now, omega arith)

pub set-requires : goal.set-requires
set-requires g c =
    let x = c.args in
    let state = c.loop-at in
    let o = c.is_ordinary in
    let calm = c.if-not-calm.false in
    let run = run_next_lem x.s.now x.from calm state.invariant.0 (omega arith) (sym o.ensures ∙ c.if-not-is_ordinary.false) in
    let room = run_room x.s.now state.invariant.0.0 x.into (g.S.Sink.room x.buffer.now) c.requires run in
    omega (arith, room, room_left g.met.S.Sink.laws x.buffer.now x.into (take (state.at - x.from) (drop x.from x.s.now)) state.invariant.1)

pub loop-at-preserved : goal.loop-at-preserved
loop-at-preserved g c =
    let x = c.args in
    let state = c.loop-at in
    let o = c.is_ordinary in
    let calm = c.if-not-calm.false in (
      run_next_lem x.s.now x.from calm state.invariant.0 (omega arith) (sym o.ensures ∙ c.if-not-is_ordinary.false),
      longer_run_put g.met.S.Sink.laws x.s.now state.invariant.0.0 x.buffer.now x.into (omega arith) state.invariant.1 refl c.set.ensures,
      omega arith,
    )
