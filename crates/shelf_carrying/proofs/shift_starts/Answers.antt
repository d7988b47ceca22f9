-- `shelf_carrying::shift_starts` meets its contract. The loop's invariant: the pairs of the slots passed are stored.
-- Assumes nothing.
use native.Mathlib.Omega.{arith}
use Prim.Native.Nat.{ℕ, ◌+◌}
use mathlib.Core.Path.{◌≡◌, refl, ap, ◌∙◌}
use lib.ListN.{length}
use lib.Seq.{sets, length-sets}
use Rattle.lists.specs.Lists.{gather}
use Rattle.shelves.specs.Layout.{below}
use Rattle.shelf_layout.specs.Laid.{laid}
use Rattle.shelf_carrying.specs.Parts.{shifted_pairs}
use Rattle.shelf_carrying.proofs.Pairs.{start_stays, pair_stored}
use Rattle.shelf_carrying.proofs.shift_starts.Goals as goal

pub loop-slot-init : goal.loop-slot-init
unfolding shifted_pairs below gather
loop-slot-init c = (refl, refl)

pub shift_start-requires : goal.shift_start-requires
shift_start-requires c =
    let x = c.args in
    let known = c.requires in
    let state = c.loop-slot in
    let stays = start_stays (laid x.from) (laid x.to) x.map x.s.now state.slot state.invariant.1 in
    (omega arith, (known.1.0, known.1.1), omega arith, λ e. omega (arith, stays, known.2 state.slot (omega arith) e))

pub loop-slot-preserved : goal.loop-slot-preserved
loop-slot-preserved c =
    let x = c.args in
    let state = c.loop-slot in
    let from = laid x.from in
    let to = laid x.to in
    let stored = pair_stored from to x.map x.s.now state.slot state.invariant.1 c.shift_start.ensures in
    (ap length stored ∙ length-sets x.s.now x.to.pairs (shifted_pairs from to x.map x.s.now (state.slot + 1)), stored)

pub shape_of-s : goal.shape_of-s
shape_of-s c = c.loop-slot.invariant.0

pub returns : goal.returns
returns c =
    let x = c.args in
    let state = c.loop-slot in
    let all : state.slot ≡ 64 = omega arith in
    state.invariant.1 ∙ ap (λ (n : ℕ). sets x.s.now x.to.pairs (shifted_pairs (laid x.from) (laid x.to) x.map x.s.now n)) all
