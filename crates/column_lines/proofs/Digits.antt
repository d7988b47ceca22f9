-- The digits of a number from the last on, as they are stored and compared. Assumes nothing.
use Prim.Native.Nat.{ℕ, zero, suc, ◌+◌, ◌-◌, ◌/◌, ◌%◌, ◌≤◌, ◌<◌}
use mathlib.Core.Path.{◌≡◌, refl, sym, ap, ◌∙◌}
use mathlib.Core.Bool.{Bool, true, false, ◌&&◌, and_assoc, and-true, and-false}
use mathlib.Core.List.{List, [], ◌∷◌, ◌++◌}
use native.Mathlib.Nat.{add-zero, add-suc, suc-add}
use native.Mathlib.Numerals.{add-one}
use native.Mathlib.Omega.{arith}
use lib.Dec.{eqb, ltb}
use lib.ListN.{length, take, drop, get_or, set, length-append, length-drop}
use lib.Seq.{sets, take-suc, get_or-drop, length-take-le, set_comm}
use borrow.Author.Tests.{eq-eqb, ne_eqb, ltb-true, ltb-false}
use Rattle.lists.specs.Lists.{same, begins}
use Rattle.values.specs.Spelling.{Bytes}
use Rattle.columns.specs.Lines.{in_decimal}
use Rattle.column_laws.proofs.Decimals.{decimal_one, decimal_more, one_digit, more_digits}

-- so many digits of a number, of which the last is its last
unfoldable pub last_digits : ℕ → ℕ → Bytes
last_digits zero n = []
last_digits (suc k) n = last_digits k (n / 10) ++ (48 + n % 10) ∷ []

pub digits_long : (k n : ℕ) → length (last_digits k n) ≡ k
unfolding last_digits
digits_long zero n = refl
digits_long (suc k) n = omega (arith, length-append (last_digits k (n / 10)) ((48 + n % 10) ∷ []), digits_long k (n / 10))

-- all of them are the number in decimal
digits_below : (most n : ℕ) → n < most → in_decimal n ≡ last_digits (length (in_decimal n)) n
unfolding last_digits
digits_below zero n h = absurd (omega arith)
digits_below (suc most) n h = step (ltb 9 n) refl (λ (l : 9 < n). digits_below most (n / 10) (omega arith))
  where
    step : (t : Bool) → ltb 9 n ≡ t → (9 < n → in_decimal (n / 10) ≡ last_digits (length (in_decimal (n / 10))) (n / 10))
        → in_decimal n ≡ last_digits (length (in_decimal n)) n
    step true e more =
        let l = ltb-true 9 n e in
        decimal_more n l
        ∙ ap (λ (front : Bytes). front ++ (48 + n % 10) ∷ []) (more l)
        ∙ ap (λ (k : ℕ). last_digits k n) (sym (more_digits n l ∙ add-one (length (in_decimal (n / 10)))))
    step false e more =
        let l = ltb-false 9 n e in
        decimal_one n l ∙ ap (λ (k : ℕ). last_digits k n) (sym (one_digit n l))

pub digits_all : (n : ℕ) → in_decimal n ≡ last_digits (length (in_decimal n)) n
digits_all n = digits_below (suc n) n (omega arith)

-- ---- stored

module _ {A : Type 0} where
  -- the last of a text is stored first
  sets_last : (l : List A) (i : ℕ) (xs : List A) (x : A) → sets l i (xs ++ x ∷ []) ≡ sets (set l (i + length xs) x) i xs
  sets_last l i [] x = ap (λ (k : ℕ). set l k x) (sym (add-zero i))
  sets_last l i (y ∷ ys) x =
      sets_last (set l i y) (suc i) ys x
      ∙ ap (λ (k : ℕ). sets (set (set l i y) k x) (suc i) ys) (suc-add i (length ys) ∙ sym (add-suc i (length ys)))
      ∙ ap (λ (m : List A). sets m (suc i) ys) (set_comm l i (i + suc (length ys)) y x (λ e. omega arith))

-- the digits that are left are stored after the last of them
pub digits_stored : (l : List ℕ) (place to next n : ℕ) → suc next ≡ to → place ≤ next
    → sets l place (last_digits (to - place) n) ≡ sets (set l next (48 + n % 10)) place (last_digits (next - place) (n / 10))
unfolding last_digits
digits_stored l place to next n e h =
    let k : ℕ = next - place in
    let more : to - place ≡ suc k = omega arith in
    let stands : place + length (last_digits k (n / 10)) ≡ next = omega (arith, digits_long k (n / 10)) in
    ap (λ (m : ℕ). sets l place (last_digits m n)) more
    ∙ sets_last l place (last_digits k (n / 10)) (48 + n % 10)
    ∙ ap (λ (m : ℕ). sets (set l m (48 + n % 10)) place (last_digits k (n / 10))) stands

pub none_stored : (l : List ℕ) (place to n : ℕ) → to ≤ place → sets l place (last_digits (to - place) n) ≡ l
unfolding last_digits
none_stored l place to n h =
    let none : to - place ≡ 0 = omega arith in
    ap (λ (m : ℕ). sets l place (last_digits m n)) none

-- ---- compared

same_last : (xs ys : Bytes) (x y : ℕ) → length xs ≡ length ys → same (xs ++ x ∷ []) (ys ++ y ∷ []) ≡ (same xs ys && eqb x y)
unfolding same
same_last [] [] x y e = and-true (eqb x y)
same_last [] (b ∷ ys) x y e = absurd (omega arith)
same_last (a ∷ xs) [] x y e = absurd (omega arith)
same_last (a ∷ xs) (b ∷ ys) x y e =
    ap (λ (t : Bool). eqb a b && t) (same_last xs ys x y (omega arith)) ∙ sym (and_assoc (eqb a b) (same xs ys) (eqb x y))

-- bytes stand in front of a text exactly where they are as many of its first
begins_same : (ps xs : Bytes) → begins ps xs ≡ same ps (take (length ps) xs)
unfolding begins same
begins_same [] xs = refl
begins_same (p ∷ ps) [] = refl
begins_same (p ∷ ps) (x ∷ xs) = ap (λ (t : Bool). eqb p x && t) (begins_same ps xs)

-- so many digits of a number stand at a place
unfoldable pub digits_stand : List ℕ → ℕ → ℕ → ℕ → Bool
digits_stand s place k n = same (last_digits k n) (take k (drop place s))

module _ (s : List ℕ) (place : ℕ) where
  pub stand_all : (n : ℕ) → begins (in_decimal n) (drop place s) ≡ digits_stand s place (length (in_decimal n)) n
  unfolding digits_stand
  stand_all n =
      begins_same (in_decimal n) (drop place s)
      ∙ ap (λ (digits : Bytes). same digits (take (length (in_decimal n)) (drop place s))) (digits_all n)

  stand_more : (k n : ℕ) → place + suc k ≤ length s
      → digits_stand s place (suc k) n ≡ (digits_stand s place k (n / 10) && eqb (48 + n % 10) (get_or s (place + k) 0))
  unfolding digits_stand last_digits
  stand_more k n h =
      let within : k < length (drop place s) = omega (arith, length-drop place s) in
      ap (same (last_digits (suc k) n)) (take-suc (drop place s) k 0 within)
      ∙ same_last (last_digits k (n / 10)) (take k (drop place s)) (48 + n % 10) (get_or (drop place s) k 0)
      (digits_long k (n / 10) ∙ sym (length-take-le k (drop place s) (omega arith)))
      ∙ ap (λ (b : ℕ). digits_stand s place k (n / 10) && eqb (48 + n % 10) b) (get_or-drop place s k 0)

  -- from the last on: one differs, or the others are left, or none is left
  module _ (from next n : ℕ) (e : suc next ≡ from) (h : place ≤ next) (m : from ≤ length s) where
    stand_last : digits_stand s place (from - place) n ≡ (digits_stand s place (next - place) (n / 10) && eqb (48 + n % 10) (get_or s next 0))
    stand_last =
        let k : ℕ = next - place in
        let more : from - place ≡ suc k = omega arith in
        let stands : place + k ≡ next = omega arith in
        ap (λ (i : ℕ). digits_stand s place i n) more
        ∙ stand_more k n (omega arith)
        ∙ ap (λ (i : ℕ). digits_stand s place k (n / 10) && eqb (48 + n % 10) (get_or s i 0)) stands

    pub stand_differs : (get_or s next 0 ≡ 48 + n % 10 → ⊥) → digits_stand s place (from - place) n ≡ false
    stand_differs d =
        stand_last
        ∙ ap (λ (t : Bool). digits_stand s place (next - place) (n / 10) && t) (ne_eqb (48 + n % 10) (get_or s next 0) (λ q. d (sym q)))
        ∙ and-false (digits_stand s place (next - place) (n / 10))

    pub stand_next : get_or s next 0 ≡ 48 + n % 10 → digits_stand s place (from - place) n ≡ digits_stand s place (next - place) (n / 10)
    stand_next d =
        stand_last
        ∙ ap (λ (t : Bool). digits_stand s place (next - place) (n / 10) && t) (eq-eqb (48 + n % 10) (get_or s next 0) (sym d))
        ∙ and-true (digits_stand s place (next - place) (n / 10))

  pub stand_none : (from n : ℕ) → from ≤ place → digits_stand s place (from - place) n ≡ true
  unfolding digits_stand last_digits same
  stand_none from n h =
      let none : from - place ≡ 0 = omega arith in
      ap (λ (k : ℕ). digits_stand s place k n) none
