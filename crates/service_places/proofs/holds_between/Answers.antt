-- `service_places::holds_between` meets its contract: the block's place says it unless it is passed. Assumes nothing.
use native.Mathlib.Omega.{arith}
use Rattle.characters.specs.Characters.{is_service}
use Rattle.service_places.proofs.Blocks.{block_known, ahead_told}
use Rattle.service_places.proofs.holds_between.Goals as goal

pub offset_bounds-places-start : goal.offset_bounds-places-start
offset_bounds-places-start c =
    let x = c.args in
    let known = c.requires in
    omega (arith, block_known (is_service x.c) x.s.now x.size known.2 x.start x.end known.0 known.1)

pub bounds-places-start : goal.bounds-places-start
bounds-places-start c =
    let x = c.args in
    let known = c.requires in
    block_known (is_service x.c) x.s.now x.size known.2 x.start x.end known.0 known.1

pub returns-then-start-place : goal.returns-then-start-place
returns-then-start-place c =
    let x = c.args in
    let known = c.requires in
    ahead_told (is_service x.c) x.s.now x.size known.2 x.start x.end known.0 known.1 c.if-start-place.true
