-- `service_places::holds_behind` meets its contract: a part that ends in its block is asked whole, and one that goes beyond is the rest of the
-- block and what the next block's place says. Assumes nothing.
use mathlib.Core.Path.{◌∙◌}
use native.Mathlib.Nat.{mod-lt}
use native.Mathlib.Omega.{arith}
use Rattle.characters.specs.Characters.{is_service}
use Rattle.service_places.proofs.Blocks.{next_known, beyond_found, beyond_none}
use Rattle.service_places.proofs.holds_behind.Goals as goal

pub overflow_sub-left : goal.overflow_sub-left
overflow_sub-left c = omega (arith, mod-lt c.args.start c.requires.2.some)

pub overflow_add-start : goal.overflow_add-start
overflow_add-start c =
    let x = c.args in
    let known = c.requires in
    omega (arith, next_known (is_service x.c) x.s.now x.size known.2 x.start x.end known.0 known.1 c.if-end-start.false)

pub offset_bounds-places-start : goal.offset_bounds-places-start
offset_bounds-places-start c =
    let x = c.args in
    let known = c.requires in
    omega (arith, next_known (is_service x.c) x.s.now x.size known.2 x.start x.end known.0 known.1 c.if-end-start.false)

pub bounds-places-start : goal.bounds-places-start
bounds-places-start c =
    let x = c.args in
    let known = c.requires in
    next_known (is_service x.c) x.s.now x.size known.2 x.start x.end known.0 known.1 c.if-end-start.false

pub returns-then-places-start : goal.returns-then-places-start
returns-then-places-start c =
    let x = c.args in
    let known = c.requires in
    beyond_found (is_service x.c) x.s.now x.size known.2 x.start x.end known.0 known.1 c.if-end-start.false c.if-places-start.true

pub returns : goal.returns
returns c =
    let x = c.args in
    let known = c.requires in
    c.holds_service-2.ensures ∙ beyond_none (is_service x.c) x.s.now x.size known.2 x.start x.end known.0 known.1 c.if-end-start.false c.if-places-start.false
