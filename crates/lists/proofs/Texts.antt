-- Laws of tests and of texts. A test that passed is written `t ≡ true`. Assumes nothing.
use Rattle.std.specs.Prelude.{if◌then◌else◌}
use Prim.Native.Nat.{ℕ}
use mathlib.Core.Path.{◌≡◌, refl, sym, ap, ap₂, ◌∙◌}
use mathlib.Core.Bool.{Bool, true, false, ◌&&◌, ◌||◌, false≢true, and_assoc}
use mathlib.Core.List.{List, [], ◌∷◌, ◌++◌, map, append_assoc}
use mathlib.Core.Logic.{◌⊎◌, inl, inr}
use lib.Dec.{eqb}
use lib.ListN.{length}
use borrow.Author.Tests.{eqb-true, eq-eqb}
use Rattle.lists.specs.Lists.{same, all, gather}

-- ---- tests

pub and_left : (a b : Bool) → (a && b) ≡ true → a ≡ true
and_left true b h = refl
and_left false b h = h

pub and_right : (a b : Bool) → (a && b) ≡ true → b ≡ true
and_right true b h = h
and_right false b h = absurd (false≢true h)

pub and_both : (a b : Bool) → a ≡ true → b ≡ true → (a && b) ≡ true
and_both true b h k = k
and_both false b h k = h

pub or_cases : (a b : Bool) → (a || b) ≡ true → (a ≡ true) ⊎ (b ≡ true)
or_cases true b h = inl refl
or_cases false b h = inr h

pub or_none_left : (a b : Bool) → (a || b) ≡ false → a ≡ false
or_none_left true b h = h
or_none_left false b h = refl

pub or_none_right : (a b : Bool) → (a || b) ≡ false → b ≡ false
or_none_right true b h = absurd (false≢true (sym h))
or_none_right false b h = h

-- a test has one of two answers
pub decided : (t : Bool) → (t ≡ true) ⊎ (t ≡ false)
decided true = inl refl
decided false = inr refl

-- a passed test picks the first, a failed one the second
pub if_true : {A : Type 0} (t : Bool) (a b : A) → t ≡ true → (if t then a else b) ≡ a
if_true true a b h = refl
if_true false a b h = absurd (false≢true h)

pub if_false : {A : Type 0} (t : Bool) (a b : A) → t ≡ false → (if t then a else b) ≡ b
if_false true a b h = absurd (false≢true (sym h))
if_false false a b h = refl

-- ---- texts

pub same_eq : (xs ys : List ℕ) → same xs ys ≡ true → xs ≡ ys
unfolding same
same_eq [] [] h = refl
same_eq [] (y ∷ ys) h = absurd (false≢true h)
same_eq (x ∷ xs) [] h = absurd (false≢true h)
same_eq (x ∷ xs) (y ∷ ys) h =
    ap₂ ◌∷◌ (eqb-true x y (and_left (eqb x y) (same xs ys) h)) (same_eq xs ys (and_right (eqb x y) (same xs ys) h))

-- texts of different lengths are not the same
pub same_length : (xs ys : List ℕ) → (length xs ≡ length ys → ⊥) → same xs ys ≡ false
same_length xs ys h = step (same xs ys) refl
  where
    step : (t : Bool) → same xs ys ≡ t → t ≡ false
    step true e = absurd (h (ap length (same_eq xs ys e)))
    step false e = refl

pub same_refl : (xs : List ℕ) → same xs xs ≡ true
unfolding same
same_refl [] = refl
same_refl (x ∷ xs) = and_both (eqb x x) (same xs xs) (eq-eqb x x refl) (same_refl xs)

-- ---- tests of all, and what is gathered

module _ {A : Type 0} where
  pub all_append : (t : A → Bool) (xs ys : List A) → all t (xs ++ ys) ≡ (all t xs && all t ys)
  unfolding all
  all_append t [] ys = refl
  all_append t (x ∷ xs) ys =
      ap (λ (b : Bool). t x && b) (all_append t xs ys) ∙ sym (and_assoc (t x) (all t xs) (all t ys))

  -- all that a map gives pass a test
  pub all_mapped : {B : Type 0} (f : A → B) (t : B → Bool) (xs : List A) → all t (map f xs) ≡ all (λ x. t (f x)) xs
  unfolding all
  all_mapped f t [] = refl
  all_mapped f t (x ∷ xs) = ap (λ (b : Bool). t (f x) && b) (all_mapped f t xs)

  -- where f turns what passes one test into what passes another, it does so to all
  pub all_map : {B : Type 0} (f : A → B) (p : A → Bool) (q : B → Bool) → ((x : A) → p x ≡ true → q (f x) ≡ true)
      → (xs : List A) → all p xs ≡ true → all q (map f xs) ≡ true
  unfolding all
  all_map f p q h [] k = refl
  all_map f p q h (x ∷ xs) k =
      and_both (q (f x)) (all q (map f xs)) (h x (and_left (p x) (all p xs) k)) (all_map f p q h xs (and_right (p x) (all p xs) k))

  pub gather_append : {B : Type 0} (f : A → List B) (xs ys : List A) → gather f (xs ++ ys) ≡ gather f xs ++ gather f ys
  unfolding gather
  gather_append f [] ys = refl
  gather_append f (x ∷ xs) ys =
      ap (λ (l : List _). f x ++ l) (gather_append f xs ys) ∙ sym (append_assoc (f x) (gather f xs) (gather f ys))
