-- `shelf_soundness::is_sound` meets its contract: one clause after another, and the last ones decide. Assumes nothing.
use native.Mathlib.Omega.{arith}
use mathlib.Core.Path.{refl, sym, ◌∙◌}
use borrow.Author.Tests.{not-true, not-false}
use Rattle.shelf_layout.specs.Laid.{laid}
use Rattle.shelf_soundness.proofs.Loops.{not_passed}
use Rattle.shelves.proofs.Sound.{says_sized, says_summed}
use Rattle.shelf_soundness.proofs.Whole.{sound_placed, ranged, not_sound, sound_by}
use Rattle.shelf_soundness.proofs.is_sound.Goals as goal

pub returns-then-not-is_sized : goal.returns-then-not-is_sized
returns-then-not-is_sized c =
    let x = c.args in
    not_sound (laid x.l) x.s.now
    (λ q. not_passed c.is_sized.ensures (not-true c.is_sized.result c.if-not-is_sized.true-raw) ((says_sized (laid x.l) x.s.now).1 (q.least, q.most)))

pub returns-then-not-has_heading : goal.returns-then-not-has_heading
returns-then-not-has_heading c =
    let x = c.args in
    not_sound (laid x.l) x.s.now
    (λ q. not_passed c.has_heading.ensures (not-true c.has_heading.result c.if-not-has_heading.true-raw) q.headed)

pub map_of-map-requires : goal.map_of-map-requires
map_of-map-requires c = let x = c.args in let size = (says_sized (laid x.l) x.s.now).0 (sym c.is_sized.ensures ∙ not-false c.is_sized.result c.if-not-is_sized.false-raw) in omega arith

pub end_of-end-requires : goal.end_of-end-requires
end_of-end-requires c = let x = c.args in let size = (says_sized (laid x.l) x.s.now).0 (sym c.is_sized.ensures ∙ not-false c.is_sized.result c.if-not-is_sized.false-raw) in (size.0, c.requires)

pub returns-then-s-end : goal.returns-then-s-end
returns-then-s-end c =
    let x = c.args in
    not_sound (laid x.l) x.s.now (λ q. omega (arith, q.room, c.end_of-end.ensures, c.if-s-end.true))

pub is_summed-requires : goal.is_summed-requires
is_summed-requires c = let x = c.args in let size = (says_sized (laid x.l) x.s.now).0 (sym c.is_sized.ensures ∙ not-false c.is_sized.result c.if-not-is_sized.false-raw) in (size.0, c.requires, c.end_of-end.ensures)

pub returns-then-not-is_summed : goal.returns-then-not-is_summed
returns-then-not-is_summed c =
    let x = c.args in
    let summed = c.is_summed in
    not_sound (laid x.l) x.s.now
    (λ q. not_passed summed.ensures (not-true summed.result c.if-not-is_summed.true-raw) ((says_summed (laid x.l) x.s.now).1 q.summed))

pub are_placed-requires : goal.are_placed-requires
are_placed-requires c = let x = c.args in let size = (says_sized (laid x.l) x.s.now).0 (sym c.is_sized.ensures ∙ not-false c.is_sized.result c.if-not-is_sized.false-raw) in (size.0, c.requires, c.map_of-map.ensures, c.end_of-end.ensures)

pub returns-then-not-are_placed : goal.returns-then-not-are_placed
returns-then-not-are_placed c =
    let x = c.args in
    let placed = c.are_placed in
    not_sound (laid x.l) x.s.now
    (λ q. not_passed refl (not-true placed.result c.if-not-are_placed.true-raw) (placed.ensures.1 (sound_placed (laid x.l) x.s.now q)))

pub is_kept_well-requires : goal.is_kept_well-requires
is_kept_well-requires c =
    let x = c.args in
    let size = (says_sized (laid x.l) x.s.now).0 (sym c.is_sized.ensures ∙ not-false c.is_sized.result c.if-not-is_sized.false-raw) in
    let places = c.are_placed.ensures.0 (not-false c.are_placed.result c.if-not-are_placed.false-raw) in
    (ranged (laid x.l) x.s.now places size (omega (arith, c.end_of-end.ensures, c.if-s-end.false)), c.map_of-map.ensures, c.end_of-end.ensures, c.if-s-end.false)

pub returns : goal.returns
returns c =
    let x = c.args in
    let size = (says_sized (laid x.l) x.s.now).0 (sym c.is_sized.ensures ∙ not-false c.is_sized.result c.if-not-is_sized.false-raw) in
    let placed = c.are_placed in
    let summed = c.is_summed in
    sound_by (laid x.l) x.s.now (placed.ensures.0 (not-false placed.result c.if-not-are_placed.false-raw)) size (sym c.has_heading.ensures ∙ not-false c.has_heading.result c.if-not-has_heading.false-raw) (omega (arith, c.end_of-end.ensures, c.if-s-end.false))
    (sym summed.ensures ∙ not-false summed.result c.if-not-is_summed.false-raw)
    c.is_kept_well.ensures
