-- `removing::lower_start` meets its contract: one of three pairs. Assumes nothing.
use native.Mathlib.Omega.{arith}
use Prim.Native.Nat.{ℕ, ◌-◌}
use mathlib.Core.Path.{ap, ap₂, ◌∙◌}
use Rattle.shelf_layout.specs.Laid.{laid}
use lib.Seq.{sets}
use Rattle.shelves.specs.Layout.{pair_place, start_of, length_of}
use Rattle.shelves.specs.Operations.{pair_of}
use Rattle.shelf.proofs.Pairs.{lowered_removed, lowered_later, lowered_earlier}
use Rattle.shelf.proofs.removing.lower_start.Goals as goal

pub returns-then-slot-removed : goal.returns-then-slot-removed
returns-then-slot-removed c =
    let x = c.args in
    let l = laid x.l in
    let s = x.s.now in
    c.put_pair.ensures
    ∙ ap (sets s (pair_place l x.slot)) (lowered_removed x.removed x.start x.size x.slot (start_of l s x.slot) (length_of l s x.slot) c.if-slot-removed.true)

pub overflow_sub-at : goal.overflow_sub-at
overflow_sub-at c = omega (arith, c.start_of-at.ensures.0, c.requires.2 (omega (arith, c.start_of-at.ensures.0, c.if-start-at.true)))

pub returns-then-start-at : goal.returns-then-start-at
returns-then-start-at c =
    let x = c.args in
    let l = laid x.l in
    let s = x.s.now in
    let a = c.start_of-at.ensures.0 in
    let n = c.length_of-n.ensures.0 in
    c.put_pair-then-start-at.ensures
    ∙ ap (sets s (pair_place l x.slot))
    (ap₂ (λ (i j : ℕ). pair_of (i - x.size) j) a n
    ∙ lowered_later x.removed x.start x.size x.slot (start_of l s x.slot) (length_of l s x.slot) c.if-slot-removed.false (omega (arith, a, c.if-start-at.true)))

pub returns-else-start-at : goal.returns-else-start-at
returns-else-start-at c =
    let x = c.args in
    let l = laid x.l in
    let s = x.s.now in
    let a = c.start_of-at.ensures.0 in
    let n = c.length_of-n.ensures.0 in
    c.put_pair-else-start-at.ensures
    ∙ ap (sets s (pair_place l x.slot))
    (ap₂ pair_of a n
    ∙ lowered_earlier x.removed x.start x.size x.slot (start_of l s x.slot) (length_of l s x.slot) c.if-slot-removed.false (omega (arith, a, c.if-start-at.false)))
