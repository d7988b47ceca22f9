-- The bits of a number: the one worth 2 ^ k is the remainder by 2 of the number divided by 2 ^ k. Setting a bit that is 0, or clearing one
-- that is 1, leaves every other; and so many bits of a number are those of its remainder. Assumes nothing.
use Prim.Native.Nat.{ℕ, zero, suc, ◌+◌, ◌-◌, ◌*◌, ◌/◌, ◌%◌, ◌^◌, ◌≤◌, ◌<◌}
use mathlib.Core.Path.{◌≡◌, refl, sym, ap, ◌∙◌}
use mathlib.Core.Bool.{true, false}
use mathlib.Core.Logic.{⊎_elim}
use native.Mathlib.Nat.{pow-succ', div-div-eq-div-mul, div-add-mod', mod-lt, div-eq_of_lt, one-le-pow}
use native.Mathlib.Omega.{arith}
use lib.Dec.{eqb, ltb}
use borrow.Author.Tests.{eqb-true, eqb-false, ltb-true, ltb-false, eq-eqb, ne_eqb}
use Rattle.lists.proofs.Texts.{decided}
use Rattle.numbers.proofs.Numbers.{remainder_is}
use Rattle.shelves.specs.Layout.{bit}

-- the digit of a number that is worth 2 ^ k
abbrev digit : ℕ → ℕ → ℕ
digit m k = m / 2 ^ k % 2

-- a higher digit is one of half the number
digit_half : (m k : ℕ) → digit m (suc k) ≡ digit (m / 2) k
digit_half m k = ap (λ (d : ℕ). d % 2) (ap (λ (p : ℕ). m / p) (pow-succ' 2 k) ∙ sym (div-div-eq-div-mul m 2 (2 ^ k)))

-- ---- a digit set

half_more : (m k : ℕ) → (m + 2 ^ suc k) / 2 ≡ m / 2 + 2 ^ k
half_more m k = let e = pow-succ' 2 k in omega arith

set_this : (k m : ℕ) → digit m k ≡ 0 → digit (m + 2 ^ k) k ≡ 1
set_this zero m h = omega arith
set_this (suc k) m h =
    digit_half (m + 2 ^ suc k) k ∙ ap (λ (n : ℕ). digit n k) (half_more m k) ∙ set_this k (m / 2) (sym (digit_half m k) ∙ h)

set_other : (k j m : ℕ) → digit m k ≡ 0 → (j ≡ k → ⊥) → digit (m + 2 ^ k) j ≡ digit m j
set_other zero zero m h d = absurd (d refl)
set_other zero (suc j) m h d =
    digit_half (m + 1) j ∙ ap (λ (n : ℕ). digit n j) (omega arith) ∙ sym (digit_half m j)
set_other (suc k) zero m h d = let e = pow-succ' 2 k in omega arith
set_other (suc k) (suc j) m h d =
    digit_half (m + 2 ^ suc k) j
    ∙ ap (λ (n : ℕ). digit n j) (half_more m k)
    ∙ set_other k j (m / 2) (sym (digit_half m k) ∙ h) (λ e. d (ap suc e))
    ∙ sym (digit_half m j)

-- ---- a digit cleared

half_less : (m k : ℕ) → (m - 2 ^ suc k) / 2 ≡ m / 2 - 2 ^ k
half_less m k = let e = pow-succ' 2 k in omega arith

clear_this : (k m : ℕ) → digit m k ≡ 1 → digit (m - 2 ^ k) k ≡ 0
clear_this zero m h = omega arith
clear_this (suc k) m h =
    digit_half (m - 2 ^ suc k) k ∙ ap (λ (n : ℕ). digit n k) (half_less m k) ∙ clear_this k (m / 2) (sym (digit_half m k) ∙ h)

-- a number with a digit is at least what the digit is worth
pub worth_least : (k m : ℕ) → digit m k ≡ 1 → 2 ^ k ≤ m
worth_least k m h = ⊎_elim (λ (e : ltb m (2 ^ k) ≡ true). absurd (none e)) (λ e. ltb-false m (2 ^ k) e) (decided (ltb m (2 ^ k)))
  where
    none : ltb m (2 ^ k) ≡ true → ⊥
    none e = let z : m / 2 ^ k ≡ 0 = div-eq_of_lt (ltb-true m (2 ^ k) e) in omega arith

clear_other : (k j m : ℕ) → digit m k ≡ 1 → (j ≡ k → ⊥) → digit (m - 2 ^ k) j ≡ digit m j
clear_other k j m h d =
    sym (set_other k j (m - 2 ^ k) (clear_this k m h) d) ∙ ap (λ (n : ℕ). digit n j) (let l = worth_least k m h in omega arith)

-- ---- so many digits

half_remainder : (m p : ℕ) → 0 < p → m % (2 * p) / 2 ≡ m / 2 % p
half_remainder m p h =
    let q = m / (2 * p) in
    let r = m % (2 * p) in
    let whole : q * (2 * p) + r ≡ m = div-add-mod' m (2 * p) in
    let less : r < 2 * p = mod-lt m (omega arith) in
    let half : m / 2 ≡ q * p + r / 2 = omega arith in
    sym (ap (λ (n : ℕ). n % p) half ∙ remainder_is q p (r / 2) (omega arith))

remainder_digit : (w j m : ℕ) → j < w → digit (m % 2 ^ w) j ≡ digit m j
remainder_digit zero j m h = absurd (omega arith)
remainder_digit (suc w) zero m h =
    let p = 2 ^ w in
    let e : 2 ^ suc w ≡ 2 * p = pow-succ' 2 w in
    let whole : m / (2 * p) * (2 * p) + m % (2 * p) ≡ m = div-add-mod' m (2 * p) in
    ap (λ (n : ℕ). digit (m % n) 0) e ∙ omega arith
remainder_digit (suc w) (suc j) m h =
    digit_half (m % 2 ^ suc w) j
    ∙ ap (λ (n : ℕ). digit n j) (ap (λ (n : ℕ). m % n / 2) (pow-succ' 2 w) ∙ half_remainder m (2 ^ w) (one-le-pow w 2 (omega arith)))
    ∙ remainder_digit w j (m / 2) (omega arith)
    ∙ sym (digit_half m j)

-- ---- as tests

-- a bit that is no 1 is a 0
pub bit_one : (m k : ℕ) → bit m k ≡ true → m / 2 ^ k % 2 ≡ 1
unfolding bit
bit_one m k e = eqb-true (digit m k) 1 e

pub bit_zero : (m k : ℕ) → bit m k ≡ false → m / 2 ^ k % 2 ≡ 0
unfolding bit
bit_zero m k e = let n = eqb-false (digit m k) 1 e in omega arith

same_bit : (m n k : ℕ) → digit m k ≡ digit n k → bit m k ≡ bit n k
unfolding bit
same_bit m n k e = ap (λ (d : ℕ). eqb d 1) e

pub bit_set_lem : (k m : ℕ) → bit m k ≡ false → bit (m + 2 ^ k) k ≡ true
unfolding bit
bit_set_lem k m h = eq-eqb (digit (m + 2 ^ k) k) 1 (set_this k m (bit_zero m k h))

pub bit_set_other : (k j m : ℕ) → bit m k ≡ false → (j ≡ k → ⊥) → bit (m + 2 ^ k) j ≡ bit m j
bit_set_other k j m h d = same_bit (m + 2 ^ k) m j (set_other k j m (bit_zero m k h) d)

pub bit_clear : (k m : ℕ) → bit m k ≡ true → bit (m - 2 ^ k) k ≡ false
unfolding bit
bit_clear k m h = ne_eqb (digit (m - 2 ^ k) k) 1 (let z = clear_this k m (bit_one m k h) in omega arith)

pub bit_clear_other : (k j m : ℕ) → bit m k ≡ true → (j ≡ k → ⊥) → bit (m - 2 ^ k) j ≡ bit m j
bit_clear_other k j m h d = same_bit (m - 2 ^ k) m j (clear_other k j m (bit_one m k h) d)

pub bit_remainder : (w j m : ℕ) → j < w → bit (m % 2 ^ w) j ≡ bit m j
bit_remainder w j m h = same_bit (m % 2 ^ w) m j (remainder_digit w j m h)
