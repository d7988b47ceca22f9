-- What a test says, from what its parts say: it passes exactly where a statement holds. Assumes nothing.
use Prim.Native.Nat.{ℕ, zero, suc, ◌+◌, ◌≤◌, ◌<◌}
use mathlib.Core.Path.{◌≡◌, refl, sym, ap, ap₂, subst}
use mathlib.Core.Bool.{Bool, true, false, not, ◌&&◌, ◌||◌, false≢true, true≢false}
use mathlib.Core.List.Memᴰ
use mathlib.Core.List.{List, [], ◌∷◌, ◌++◌, head-eq_of_cons-eq, tail-eq_of_cons-eq, nil≢cons, cons≢nil, Memᴰ}
use mathlib.Core.Option.{Option, none, some, none-ne-some, some-injective}
use mathlib.Core.Logic.{◌⊎◌, inl, inr, ⊎_elim, ◌↔◌}
use native.Mathlib.Omega.{arith}
use lib.Dec.{eqb, leb, ltb}
use lib.ListN.{length}
use borrow.Author.Tests.{eqb-true, eq-eqb, leb-true, le-leb, ltb-true, lt-ltb}
use Rattle.lists.specs.Lists.{same, begins, member, all, any, at, through, first, last_or, gather, maybe}
use Rattle.lists.proofs.Texts.{and_left, and_right, and_both, same_eq, same_refl}

abbrev pub Says : Bool → Type 0 → Type 0
Says t P = (t ≡ true) ↔ P

-- ---- numbers

pub says_eq : (a b : ℕ) → Says (eqb a b) (a ≡ b)
says_eq a b = (eqb-true a b, eq-eqb a b)

pub says_le : (a b : ℕ) → Says (leb a b) (a ≤ b)
says_le a b = (leb-true a b, le-leb a b)

pub says_lt : (a b : ℕ) → Says (ltb a b) (a < b)
says_lt a b = (ltb-true a b, lt-ltb a b)

-- ---- tests of tests

module _ {P Q : Type 0} where
  pub says_both : (t u : Bool) → Says t P → Says u Q → Says (t && u) (P × Q)
  says_both t u p q = (
    λ h. (p.0 (and_left t u h), q.0 (and_right t u h)),
    λ h. and_both t u (p.1 h.0) (q.1 h.1),
  )

  pub says_either : (t u : Bool) → Says t P → Says u Q → Says (t || u) (P ⊎ Q)
  says_either true u p q = (λ h. inl (p.0 refl), λ h. refl)
  says_either false u p q = (λ h. inr (q.0 h), ⊎_elim (λ x. absurd (false≢true (p.1 x))) q.1)

  -- two ways to say it
  pub says_as : {t : Bool} → Says t P → (P → Q) → (Q → P) → Says t Q
  says_as p f g = (λ h. f (p.0 h), λ h. p.1 (g h))

pub says_not : {P : Type 0} (t : Bool) → Says t P → Says (not t) (P → ⊥)
says_not true p = (λ h. absurd (false≢true h), λ h. absurd (h (p.0 refl)))
says_not false p = (λ h x. false≢true (p.1 x), λ h. refl)

-- a test that fails
pub fails : {P : Type 0} (t : Bool) → Says t P → (t ≡ false) ↔ (P → ⊥)
fails true p = (λ h. absurd (true≢false h), λ h. absurd (h (p.0 refl)))
fails false p = (λ h x. false≢true (p.1 x), λ h. refl)

-- what a test says is so or not so
pub decides : {P : Type 0} (t : Bool) → Says t P → P ⊎ (P → ⊥)
decides true p = inl (p.0 refl)
decides false p = inr ((fails false p).0 refl)

-- ---- lists

pub says_same : (xs ys : List ℕ) → Says (same xs ys) (xs ≡ ys)
says_same xs ys = (same_eq xs ys, λ e. subst (λ (l : List ℕ). same xs l ≡ true) e (same_refl xs))

pub says_member : (x : ℕ) (xs : List ℕ) → Says (member x xs) (Memᴰ x xs)
unfolding member
says_member x [] = (λ h. absurd (false≢true h), λ m. absurd (Memᴰ.not-nil m))
says_member x (y ∷ ys) =
    says_as (says_either (eqb x y) (member x ys) (says_eq x y) (says_member x ys))
    (⊎_elim Memᴰ.head Memᴰ.tail)
    Memᴰ.cases_cons

pub says_begins : (ps xs : List ℕ) → Says (begins ps xs) ((rest : List ℕ) × (xs ≡ ps ++ rest))
unfolding begins
says_begins [] xs = (λ h. (xs, refl), λ h. refl)
says_begins (p ∷ ps) [] = (λ h. absurd (false≢true h), λ h. absurd (nil≢cons h.1))
says_begins (p ∷ ps) (x ∷ xs) =
    says_as (says_both (eqb p x) (begins ps xs) (says_eq p x) (says_begins ps xs))
    (λ h. (h.1.0, ap₂ ◌∷◌ (sym h.0) h.1.1))
    (λ h. (sym (head-eq_of_cons-eq h.1), (h.0, tail-eq_of_cons-eq h.1)))

module _ {A : Type 0} {P : A → Type 0} (t : A → Bool) (h : (x : A) → Says (t x) (P x)) where
  pub says_all : (xs : List A) → Says (all t xs) ((x : A) → Memᴰ x xs → P x)
  unfolding all
  says_all [] = (λ e x m. absurd (Memᴰ.not-nil m), λ k. refl)
  says_all (x ∷ xs) =
      says_as (says_both (t x) (all t xs) (h x) (says_all xs))
      (λ k y m. ⊎_elim (λ e. subst P (sym e) k.0) (k.1 y) (Memᴰ.cases_cons m))
      (λ k. (k x (Memᴰ.head refl), λ y m. k y (Memᴰ.tail m)))

  pub says_any : (xs : List A) → Says (any t xs) ((x : A) × Memᴰ x xs × P x)
  unfolding any
  says_any [] = (λ e. absurd (false≢true e), λ k. absurd (Memᴰ.not-nil k.1))
  says_any (x ∷ xs) =
      says_as (says_either (t x) (any t xs) (h x) (says_any xs))
      (⊎_elim (λ p. (x, Memᴰ.head refl, p)) (λ k. (k.0, Memᴰ.tail k.1, k.2)))
      (λ k. ⊎_elim (λ e. inl (subst P e k.2)) (λ m. inr (k.0, m, k.2)) (Memᴰ.cases_cons k.1))

-- the last of a list is what stands at its end
module _ {A : Type 0} where
  pub last_stands : (x : A) (xs : List A) → (before : List A) × (x ∷ xs ≡ before ++ last_or x xs ∷ [])
  unfolding last_or
  last_stands x [] = ([], refl)
  last_stands x (y ∷ ys) = let (before, e) = last_stands y ys in (x ∷ before, ap (λ (l : List A). x ∷ l) e)

  -- what has something at its end is not empty
  pub never_empty : (before : List A) (y : A) → [] ≡ before ++ y ∷ [] → ⊥
  never_empty [] y e = nil≢cons e
  never_empty (b ∷ before) y e = nil≢cons e

  pub last_is : (before : List A) (y x : A) (xs : List A) → x ∷ xs ≡ before ++ y ∷ [] → last_or x xs ≡ y
  unfolding last_or
  last_is [] y x [] e = head-eq_of_cons-eq e
  last_is [] y x (z ∷ zs) e = absurd (cons≢nil (tail-eq_of_cons-eq e))
  last_is (b ∷ before) y x [] e = absurd (never_empty before y (tail-eq_of_cons-eq e))
  last_is (b ∷ before) y x (z ∷ zs) e = last_is before y z zs (tail-eq_of_cons-eq e)

-- each of `count` numbers from `low` on passes the test
unfoldable pub all_from : (ℕ → Bool) → ℕ → ℕ → Bool
all_from t low zero = true
all_from t low (suc count) = t low && all_from t (suc low) count

-- what was tested of each holds of each
pub tested_from : (t : ℕ → Bool) (low count : ℕ) → all_from t low count ≡ true → (b : ℕ) → low ≤ b → b < low + count → t b ≡ true
unfolding all_from
tested_from t low zero h b l u = absurd (omega arith)
tested_from t low (suc count) h b l u =
    ⊎_elim
    (λ (e : low ≡ b). subst (λ (n : ℕ). t n ≡ true) e (and_left (t low) (all_from t (suc low) count) h))
    (λ (n : low ≡ b → ⊥). tested_from t (suc low) count (and_right (t low) (all_from t (suc low) count) h) b (omega arith) (omega arith))
    (decides (eqb low b) (says_eq low b))

-- a test of what may be there
pub says_maybe : {A : Type 0} {P : A → Type 0} (t : A → Bool) → ((x : A) → Says (t x) (P x)) → (o : Option A)
    → Says (maybe false t o) ((x : A) × (o ≡ some x) × P x)
unfolding maybe
says_maybe t h none = (λ e. absurd (false≢true e), λ k. absurd (none-ne-some k.0 k.1))
says_maybe {P = P} t h (some a) =
    says_as (h a) (λ p. (a, refl, p)) (λ k. subst P (sym (some-injective a k.0 k.1)) k.2)

-- the first that passes a test is the one before which none does
pub first_is : {A : Type 0} (t : A → Bool) (nearer : List A) (x : A) (farther : List A)
    → ((y : A) → Memᴰ y nearer → t y ≡ false) → t x ≡ true → first t (nearer ++ x ∷ farther) ≡ some x
unfolding first
first_is t [] x farther n h = rw h
first_is t (y ∷ ys) x farther n h = rw (n y (Memᴰ.head refl)) (first_is t ys x farther (λ z m. n z (Memᴰ.tail m)) h)

-- and those up to it are those before it, and it
pub through_is : {A : Type 0} (t : A → Bool) (nearer : List A) (x : A) (farther : List A)
    → ((y : A) → Memᴰ y nearer → t y ≡ false) → t x ≡ true → through t (nearer ++ x ∷ farther) ≡ nearer ++ x ∷ []
unfolding through
through_is t [] x farther n h = rw h
through_is t (y ∷ ys) x farther n h =
    rw (n y (Memᴰ.head refl)) (ap (λ (l : List _). y ∷ l) (through_is t ys x farther (λ z m. n z (Memᴰ.tail m)) h))

-- what is gathered is what f gives for one of them
pub gathered : {A B : Type 0} (f : A → List B) (y : B) (xs : List A)
    → Memᴰ y (gather f xs) ↔ ((x : A) × Memᴰ x xs × Memᴰ y (f x))
unfolding gather
gathered f y [] = (λ m. absurd (Memᴰ.not-nil m), λ h. absurd (Memᴰ.not-nil h.1))
gathered f y (x ∷ xs) = (
  λ m.
      ⊎_elim (λ k. (x, Memᴰ.head refl, k)) (λ k. let h = (gathered f y xs).0 k in (h.0, Memᴰ.tail h.1, h.2))
      (Memᴰ.append_cases (f x) m),
  λ h.
      ⊎_elim
      (λ e. Memᴰ.append_left (gather f xs) (subst (λ (z : _). Memᴰ y (f z)) e h.2))
      (λ m. Memᴰ.append_right (f x) ((gathered f y xs).1 (h.0, m, h.2)))
      (Memᴰ.cases_cons h.1),
)

-- numbers are counted from 0: as many as stand before it
pub at_is : {A : Type 0} (before : List A) (x : A) (after : List A) → at (before ++ x ∷ after) (length before) ≡ some x
unfolding at
at_is [] x after = refl
at_is (b ∷ before) x after = at_is before x after

-- what stands at a number stands within the list
pub at_within : {A : Type 0} (xs : List A) (n : ℕ) (x : A) → at xs n ≡ some x → n < length xs
unfolding at
at_within [] n x h = absurd (none-ne-some x h)
at_within (y ∷ ys) zero x h = omega arith
at_within (y ∷ ys) (suc n) x h = omega (arith, at_within ys n x h)
