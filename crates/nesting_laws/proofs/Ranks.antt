-- From ranks, which count from the outside, to depths, which count from the inside. Assumes nothing.
use Prim.Native.Nat.{ℕ, suc, ◌-◌, ◌≤◌}
use mathlib.Core.Path.{◌≡◌, refl, ap, ◌∙◌}
use mathlib.Core.Bool.{Bool, true, false, ◌&&◌}
use lib.Dec.{leb}
use native.Mathlib.Omega.{arith}
use borrow.Author.Tests.{le-leb, lt-leb, leb-true, leb-false}
use Rattle.lists.proofs.Texts.{and_left, and_right, and_both}
use Rattle.nesting.specs.Nesting.{by_depth}

module _ {T : Type 0} (top : ℕ) (ends : ℕ → T → Bool) where
  -- where what ends what one rank ends also ends what a lower one does, what ends a part ends the parts in it
  pub depth_less : ((low high : ℕ) → low ≤ high → (t : T) → ends low t ≡ true → ends high t ≡ true)
      → (n : ℕ) (t : T) → by_depth top ends (suc n) t ≡ true → by_depth top ends n t ≡ true
  depth_less more n t h =
      let low : suc n ≤ top = leb-true (suc n) top (and_left (leb (suc n) top) (ends (top - suc n) t) h) in
      and_both (leb n top) (ends (top - n) t) (le-leb n top (omega arith))
      (more (top - suc n) (top - n) (omega arith) t (and_right (leb (suc n) top) (ends (top - suc n) t) h))

  -- a token of a rank ends the parts up to a depth, and no deeper ones
  pub depth_exact : (end : ℕ) → end ≤ top → (t : T) → ((rank : ℕ) → ends rank t ≡ leb (top - end) rank) → (n : ℕ)
      → by_depth top ends n t ≡ leb n end
  depth_exact end k t h n = ap (λ (b : Bool). leb n top && b) (h (top - n)) ∙ step (leb n end) refl
    where
      step : (b : Bool) → leb n end ≡ b → (leb n top && leb (top - end) (top - n)) ≡ b
      step true e =
          let low : n ≤ end = leb-true n end e in
          and_both (leb n top) (leb (top - end) (top - n)) (le-leb n top (omega arith)) (le-leb (top - end) (top - n) (omega arith))
      step false e = deeper (leb n top) refl
        where
          deeper : (b : Bool) → leb n top ≡ b → (b && leb (top - end) (top - n)) ≡ false
          deeper true l =
              let low : n ≤ top = leb-true n top l in
              let high = leb-false n end e in
              lt-leb (top - end) (top - n) (omega arith)
          deeper false l = refl
