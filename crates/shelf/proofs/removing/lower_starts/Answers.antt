-- `removing::lower_starts` meets its contract. The loop's invariant: the pairs of the slots passed are stored. Assumes nothing.
use native.Mathlib.Omega.{arith}
use Prim.Native.Nat.{ℕ, ◌+◌}
use mathlib.Core.Path.{◌≡◌, refl, ap, ◌∙◌}
use Rattle.shelf_layout.specs.Laid.{laid}
use lib.ListN.{length}
use lib.Seq.{sets, length-sets}
use Rattle.lists.specs.Lists.{gather}
use Rattle.shelves.specs.Layout.{below}
use Rattle.shelf.proofs.Pairs.{pairs, pair_stored, can_lower}
use Rattle.shelf.proofs.removing.lower_starts.Goals as goal

pub loop-slot-init : goal.loop-slot-init
unfolding below gather
loop-slot-init c = (refl, refl)

pub lower_start-requires : goal.lower_start-requires
lower_start-requires c =
    let x = c.args in
    let known = c.requires in
    let state = c.loop-slot in
    (omega arith, omega arith, can_lower (laid x.l) x.s.now x.removed state.slot state.invariant.1 known.1.0 known.1.1 (known.2 state.slot (omega arith)))

pub loop-slot-preserved : goal.loop-slot-preserved
loop-slot-preserved c =
    let x = c.args in
    let known = c.requires in
    let state = c.loop-slot in
    let stored = pair_stored (laid x.l) x.s.now x.removed state.slot state.invariant.1 known.1.0 known.1.1 c.lower_start.ensures in
    (ap length stored ∙ length-sets x.s.now x.l.pairs (pairs (laid x.l) x.s.now x.removed (state.slot + 1)), stored)

pub shape_of-s : goal.shape_of-s
shape_of-s c = c.loop-slot.invariant.0

pub returns : goal.returns
returns c =
    let x = c.args in
    let state = c.loop-slot in
    let all : state.slot ≡ 64 = omega arith in
    state.invariant.1 ∙ ap (λ (n : ℕ). sets x.s.now x.l.pairs (pairs (laid x.l) x.s.now x.removed n)) all
