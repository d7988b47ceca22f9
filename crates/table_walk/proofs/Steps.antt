-- The walk one repeat and one entry at a time. Assumes nothing.
use Prim.Native.Nat.{ℕ, zero, suc, ◌-◌, ◌≤◌, ◌<◌}
use mathlib.Core.Path.{◌≡◌, refl, ap, ◌∙◌}
use mathlib.Core.Bool.{Bool, true, false, not, ◌&&◌}
use mathlib.Core.List.{List}
use native.Mathlib.Omega.{arith}
use lib.ListN.{drop}
use Rattle.lists.proofs.Texts.{if_true, if_false}
use Rattle.message_tables.specs.Structure.{Structure, entry}
use Rattle.message_structures.specs.Walking.{Walked, stopped, through, onward, leads, repeated, walk}

module _ {A : Type 0} (f : A → List ℕ) where
  -- ---- what comes behind

  pub onward_stopped : {w : Walked A} {left : List A} (next : List A → Walked A) → stopped left ≡ w → stopped left ≡ onward f w next
  unfolding onward
  onward_stopped next e = ap (λ w. onward f w next) e

  pub onward_through : {w : Walked A} {left : List A} (next : List A → Walked A) → through left ≡ w → next left ≡ onward f w next
  unfolding onward
  onward_through next e = ap (λ w. onward f w next) e

  -- ---- repeats

  module _ (inside : List A → Walked A) (tag : List ℕ) where
    -- the limit is reached
    pub repeats_end : (left : ℕ) (gs : List A) → left ≤ 0 → repeated f inside tag left gs ≡ through gs
    unfolding repeated
    repeats_end zero gs h = refl
    repeats_end (suc left) gs h = absurd (omega arith)

    -- the next segment has another tag
    pub repeats_stop : (left : ℕ) (gs : List A) → leads f tag gs ≡ false → repeated f inside tag left gs ≡ through gs
    unfolding repeated
    repeats_stop zero gs e = refl
    repeats_stop (suc left) gs e =
        if_false (leads f tag gs) (onward f (inside (drop 1 gs)) (repeated f inside tag left)) (through gs) e

    -- one repeat
    pub repeats_on : (left : ℕ) (gs : List A) → 0 < left → leads f tag gs ≡ true
        → repeated f inside tag left gs ≡ onward f (inside (drop 1 gs)) (repeated f inside tag (left - 1))
    unfolding repeated
    repeats_on zero gs h e = absurd (omega arith)
    repeats_on (suc left) gs h e =
        let less : left ≡ suc left - 1 = omega arith in
        if_true (leads f tag gs) (onward f (inside (drop 1 gs)) (repeated f inside tag left)) (through gs) e
        ∙ ap (λ (n : ℕ). onward f (inside (drop 1 gs)) (repeated f inside tag n)) less

  -- ---- entries

  module _ (mandatory : Bool) (most : ℕ) (tag : List ℕ) (inside following : Structure) (gs : List A) where
    pub entry_missed : (mandatory && not (leads f tag gs)) ≡ true → walk f (entry mandatory most tag inside following) gs ≡ stopped gs
    unfolding walk
    entry_missed e =
        if_true (mandatory && not (leads f tag gs)) (stopped gs) (onward f (repeated f (walk f inside) tag most gs) (walk f following)) e

    pub entry_met : (mandatory && not (leads f tag gs)) ≡ false
        → walk f (entry mandatory most tag inside following) gs ≡ onward f (repeated f (walk f inside) tag most gs) (walk f following)
    unfolding walk
    entry_met e =
        if_false (mandatory && not (leads f tag gs)) (stopped gs) (onward f (repeated f (walk f inside) tag most gs) (walk f following)) e
