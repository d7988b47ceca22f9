-- `stretches::put_stretch` meets its contract. The loop's invariant: what is left of the stretch, stored from here, gives what the whole, stored
-- at the start, gives; and it fits. Assumes nothing.
use Prim.Native.Nat.{ℕ, ◌+◌, ◌-◌}
use mathlib.Core.Path.{◌≡◌, sym, ap₂, ◌∙◌}
use mathlib.Core.List.{List}
use native.Mathlib.Omega.{arith}
use lib.ListN.{set, length-set}
use lib.Seq.{sets}
use Rattle.stretches.specs.Stretches.{respelling}
use Rattle.stretches.proofs.Steps.{respelling_first, respelling_none}
use Rattle.stretches.proofs.put_stretch.Goals as goal

pub loop-at-preserved : goal.loop-at-preserved
loop-at-preserved c =
    let x = c.args in
    let state = c.loop-at in
    let to : ℕ = x.into + (state.at - x.from) in
    let rest : List ℕ = respelling x.c x.n x.s.now (state.at + 1) (x.end - (state.at + 1)) in
    let next : to + 1 ≡ x.into + (state.at + 1 - x.from) = omega arith in (
      state.invariant.0
          ∙ respelling_first x.c x.n x.s.now state.buffer to state.at x.end (omega arith)
          ∙ ap₂ (λ (b place : ℕ). sets (set state.buffer to b) place rest) (sym c.respelled.ensures) next,
      length-set state.buffer to c.respelled.result ∙ state.invariant.1,
    )

pub returns : goal.returns
returns c =
    let x = c.args in
    let state = c.loop-at in
    sym (state.invariant.0 ∙ respelling_none x.c x.n x.s.now state.buffer (x.into + (state.at - x.from)) state.at x.end (omega arith))
