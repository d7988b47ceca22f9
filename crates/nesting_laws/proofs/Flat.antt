-- The values of nested lists one after the other. Assumes nothing.
use Prim.Native.Nat.{ℕ, zero, suc, ◌+◌, ◌≤◌}
use mathlib.Core.Path.{◌≡◌, refl, sym, ap, ap₂, ◌∙◌}
use mathlib.Core.Bool.{Bool, true, ◌&&◌, and-true}
use mathlib.Core.List.{List, [], ◌∷◌, ◌++◌, map, append-nil}
use native.Mathlib.Omega.{arith}
use lib.ListN.{length, length-append}
use Rattle.lists.specs.Lists.{all, gather, joined, each_led_by}
use Rattle.lists.proofs.Texts.{all_append}
use Rattle.nesting.specs.Nesting.{Nest, shaped, every, spelled, flat}
use Rattle.nesting_laws.proofs.Shape.{shaped_some, shaped_first, shaped_rest}

module _ {A B : Type 0} (kinds : ℕ → ℕ) (item : ℕ → A → B) where
  -- the values of the first part, and those of the others
  pub flat_step : (n first : ℕ) (x : Nest A n) (xs : List (Nest A n))
      → flat kinds item (suc n) first (x ∷ xs) ≡ flat kinds item n first x ++ gather (flat kinds item n (kinds n)) xs
  unfolding gather
  flat_step zero first v vs = ap (λ (l : List B). item first v ∷ l) (each vs)
    where
      each : (vs : List A) → map (item (kinds 0)) vs ≡ gather (λ v. item (kinds 0) v ∷ []) vs
      each [] = refl
      each (v ∷ vs) = ap (λ (l : List B). item (kinds 0) v ∷ l) (each vs)
  flat_step (suc n) first x xs = refl

  pub flat_last : (n first : ℕ) (x : Nest A n) → flat kinds item (suc n) first (x ∷ []) ≡ flat kinds item n first x
  unfolding gather
  flat_last n first x = flat_step n first x [] ∙ append-nil (flat kinds item n first x)

  pub flat_next : (n first : ℕ) (x y : Nest A n) (ys : List (Nest A n))
      → flat kinds item (suc n) first (x ∷ y ∷ ys) ≡ flat kinds item n first x ++ flat kinds item (suc n) (kinds n) (y ∷ ys)
  unfolding gather
  flat_next n first x y ys =
      flat_step n first x (y ∷ ys) ∙ ap (λ (l : List B). flat kinds item n first x ++ l) (sym (flat_step n (kinds n) y ys))

  -- a test that goes by the value, where the kind is one that is allowed, is a test of every value
  module _ (allowed : ℕ → Type 0) (p : B → Bool) (q : A → Bool) (one : (kind : ℕ) (v : A) → allowed kind → p (item kind v) ≡ q v)
      (ours : (n : ℕ) → allowed (kinds n)) where
    pub all_flat : (n first : ℕ) → allowed first → (x : Nest A n) → all p (flat kinds item n first x) ≡ every q n x
    unfolding all
    all_flat zero first k v = ap (λ (b : Bool). b && true) (one first v k) ∙ and-true (q v)
    all_flat (suc zero) first k [] = refl
    all_flat (suc (suc n)) first k [] = refl
    all_flat (suc n) first k (x ∷ []) =
        ap (all p) (flat_last n first x) ∙ all_flat n first k x ∙ sym (and-true (every q n x))
    all_flat (suc n) first k (x ∷ y ∷ ys) =
        ap (all p) (flat_next n first x y ys)
        ∙ all_append p (flat kinds item n first x) (flat kinds item (suc n) (kinds n) (y ∷ ys))
        ∙ ap₂ ◌&&◌ (all_flat n first k x) (all_flat (suc n) (kinds n) (ours n) (y ∷ ys))

  -- there is a mark for each value
  pub flat_bound : (mark : ℕ → ℕ) (spell : A → List ℕ) (n first : ℕ) (x : Nest A n) → shaped A n x ≡ true
      → length (flat kinds item n first x) ≤ length (spelled mark spell n x) + 1
  unfolding joined each_led_by
  flat_bound mark spell zero first v s = omega arith
  flat_bound mark spell (suc n) first [] s = absurd (shaped_some A n s)
  flat_bound mark spell (suc n) first (x ∷ []) s =
      omega (
        arith,
        ap length (flat_last n first x),
        flat_bound mark spell n first x (shaped_first A n x [] s),
        length-append (spelled mark spell n x) [],
      )
  flat_bound mark spell (suc n) first (x ∷ y ∷ ys) s =
      omega (
        arith,
        ap length (flat_next n first x y ys),
        length-append (flat kinds item n first x) (flat kinds item (suc n) (kinds n) (y ∷ ys)),
        flat_bound mark spell n first x (shaped_first A n x (y ∷ ys) s),
        flat_bound mark spell (suc n) (kinds n) (y ∷ ys) (shaped_rest A n x y ys s),
        length-append (spelled mark spell n x) (mark n ∷ spelled mark spell (suc n) (y ∷ ys)),
      )
