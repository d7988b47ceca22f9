-- `service_places::store_places` meets its contract. The loop's invariant: the places of the blocks before `start` are stored, and the place
-- at hand, unless it is passed, is that of the next block. Assumes nothing.
use Prim.Native.Nat.{◌+◌, ◌/◌}
use mathlib.Core.Path.{refl, ◌∙◌}
use native.Mathlib.Omega.{arith}
use lib.ListN.{length, length-set}
use Rattle.characters.specs.Characters.{is_service}
use Rattle.service_places.specs.Places.{blocks}
use Rattle.service_places.proofs.Blocks.{enough, block_more, stored_more, stored_all, still_next}
use Rattle.service_places.proofs.store_places.Goals as goal

pub returns-then-s-start : goal.returns-then-s-start
returns-then-s-start c =
    let x = c.args in
    let state = c.loop-k in
    let s = x.s.now in
    let size = length s / blocks + 1 in
    stored_all (is_service x.c) s size (state.k + 1) (omega arith) (enough (length s) size refl)
    (omega (arith, state.invariant.1, block_more state.k size, c.if-s-start.true))
    (stored_more (is_service x.c) s size state.k state.places (omega (arith, state.invariant.0, c.loop-k-test.true)) state.invariant.1 c.place_from-place.ensures state.invariant.4)

pub loop-k-preserved : goal.loop-k-preserved
loop-k-preserved c =
    let x = c.args in
    let state = c.loop-k in
    let s = x.s.now in
    let size = length s / blocks + 1 in (
      length-set state.places state.k c.place_from-place.result ∙ state.invariant.0,
      omega (arith, state.invariant.1, block_more state.k size),
      omega (arith, state.invariant.2, c.if-s-start.false),
      still_next (is_service x.c) s size state.start c.place_from-place.result c.place_from-place.ensures,
      stored_more (is_service x.c) s size state.k state.places (omega (arith, state.invariant.0, c.loop-k-test.true)) state.invariant.1 c.place_from-place.ensures state.invariant.4,
    )
