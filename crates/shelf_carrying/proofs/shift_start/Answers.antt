-- `shelf_carrying::shift_start` meets its contract: one of two pairs. Assumes nothing.
use native.Mathlib.Omega.{arith}
use Prim.Native.Nat.{ℕ, ◌+◌, ◌-◌}
use mathlib.Core.Path.{sym, ap, ap₂, ◌∙◌}
use lib.Seq.{sets}
use Rattle.shelves.specs.Layout.{pair_place}
use Rattle.shelves.specs.Operations.{pair_of}
use Rattle.shelf_layout.specs.Laid.{laid}
use Rattle.shelf_carrying.proofs.Pairs.{shifted_kept, shifted_free}
use Rattle.shelf_carrying.proofs.shift_start.Goals as goal

pub overflow_sub-start : goal.overflow_sub-start
overflow_sub-start c =
    let known = c.requires in
    let a = c.start_of.ensures.0 in
    let b = c.base-then-is_occupied.ensures in
    let lies = known.3 (sym c.is_occupied.ensures ∙ c.if-is_occupied.true) in
    omega arith

pub returns-then-is_occupied : goal.returns-then-is_occupied
returns-then-is_occupied c =
    let x = c.args in
    let from = laid x.from in
    let to = laid x.to in
    let s = x.s.now in
    let start = c.start_of.ensures.0 in
    let size = c.length_of-size.ensures.0 in
    c.put_pair.ensures
    ∙ ap (sets s (pair_place to x.slot))
    (ap₂ pair_of
    (ap₂ (λ (a b : ℕ). a + b) c.base.ensures (ap₂ (λ (a b : ℕ). a - b) start c.base-then-is_occupied.ensures))
    size
    ∙ shifted_kept from to x.map s x.slot (sym c.is_occupied.ensures ∙ c.if-is_occupied.true))

pub returns-else-is_occupied : goal.returns-else-is_occupied
returns-else-is_occupied c =
    let x = c.args in
    c.put_pair-else-is_occupied.ensures
    ∙ ap (sets x.s.now (pair_place (laid x.to) x.slot))
    (shifted_free (laid x.from) (laid x.to) x.map x.s.now x.slot (sym c.is_occupied.ensures ∙ c.if-is_occupied.false))
