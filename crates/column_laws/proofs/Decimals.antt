-- A number in decimal holds neither a tab nor a line feed, and is `0` exactly where it is 0; how many digits it has. Assumes nothing.
use Rattle.std.specs.Prelude.{if◌then◌else◌}
use Prim.Native.Nat.{ℕ, zero, suc, ◌+◌, ◌*◌, ◌/◌, ◌%◌, ◌≤◌, ◌<◌}
use mathlib.Core.Path.{◌≡◌, refl, ap, ap₂, ◌∙◌}
use mathlib.Core.Bool.{Bool, true, false, not, ◌&&◌, ◌||◌}
use mathlib.Core.List.{[], ◌∷◌, ◌++◌}
use native.Mathlib.Omega.{arith}
use lib.Dec.{ltb}
use lib.ListN.{length, length-append}
use borrow.Author.Tests.{ne_eqb, ltb-true, ltb-false}
use Rattle.lists.specs.Lists.{text, same, all}
use Rattle.lists.proofs.Texts.{all_append, same_length}
use Rattle.lists.proofs.Pieces.{None}
use Rattle.values.specs.Spelling.{Bytes}
use Rattle.columns.specs.Lines.{digits_up_to, in_decimal}
use Rattle.columns.specs.Reading.{ends_line, ends_column, is_zero}
pub use Rattle.columns.proofs.Decimals.{decimal_one, decimal_more}

-- no digit ends a column
digit_plain : (d : ℕ) → None ends_column ((48 + d) ∷ [])
unfolding all ends_column ends_line
digit_plain d =
    ap₂ (λ (a b : Bool). not (a || b) && true)
    (ne_eqb (48 + d) 9 (λ e. omega arith))
    (ne_eqb (48 + d) 10 (λ e. omega arith))

digits_plain : (most n : ℕ) → None ends_column (digits_up_to most n)
unfolding digits_up_to all
digits_plain zero n = refl
digits_plain (suc most) n =
    all_append (λ b. not (ends_column b)) (if ltb n 10 then [] else digits_up_to most (n / 10)) ((48 + n % 10) ∷ [])
    ∙ ap₂ ◌&&◌ (step (ltb n 10) (digits_plain most (n / 10))) (digit_plain (n % 10))
  where
    step : (t : Bool) → None ends_column (digits_up_to most (n / 10)) → None ends_column (if t then [] else digits_up_to most (n / 10))
    step true h = refl
    step false h = h

pub decimal_plain : (n : ℕ) → None ends_column (in_decimal n)
unfolding in_decimal
decimal_plain n = digits_plain (suc n) n

pub zero_is : is_zero (in_decimal 0) ≡ true
unfolding is_zero in_decimal digits_up_to same
zero_is = refl

-- there is a last digit
digits_some : (most n : ℕ) → 1 ≤ length (digits_up_to (suc most) n)
unfolding digits_up_to
digits_some most n = omega (arith, length-append (if ltb n 10 then [] else digits_up_to most (n / 10)) ((48 + n % 10) ∷ []))

pub other_is : (n : ℕ) → 1 ≤ n → is_zero (in_decimal n) ≡ false
unfolding is_zero in_decimal digits_up_to same
other_is zero h = absurd (omega arith)
other_is (suc n) h = step (ltb (suc n) 10) refl
  where
    step : (t : Bool) → ltb (suc n) 10 ≡ t
        → same ((if t then [] else digits_up_to (suc n) (suc n / 10)) ++ (48 + suc n % 10) ∷ []) (text "0") ≡ false
    step true e =
        ap (λ (b : Bool). b && true) (ne_eqb (48 + suc n % 10) 48 (λ d. omega (arith, ltb-true (suc n) 10 e)))
    step false e =
        let front : Bytes = digits_up_to (suc n) (suc n / 10) in
        same_length (front ++ (48 + suc n % 10) ∷ []) (text "0")
        (λ d. omega (arith, length-append front ((48 + suc n % 10) ∷ []), digits_some n (suc n / 10)))

-- ---- how many digits

-- a number of one digit, and one of more
pub one_digit : (n : ℕ) → n ≤ 9 → length (in_decimal n) ≡ 1
one_digit n h = ap length (decimal_one n h)

pub more_digits : (n : ℕ) → 9 < n → length (in_decimal n) ≡ length (in_decimal (n / 10)) + 1
more_digits n h = ap length (decimal_more n h) ∙ length-append (in_decimal (n / 10)) ((48 + n % 10) ∷ [])

-- a number of 64 bits has at most twenty digits
abbrev tens : ℕ → ℕ
tens zero = 1
tens (suc k) = tens k * 10

few : (k n : ℕ) → n < tens (suc k) → length (in_decimal n) ≤ suc k
few zero n h = omega (arith, one_digit n (omega arith))
few (suc k) n h = step (ltb 9 n) refl (few k (n / 10))
  where
    step : (t : Bool) → ltb 9 n ≡ t → (n / 10 < tens (suc k) → length (in_decimal (n / 10)) ≤ suc k) → length (in_decimal n) ≤ suc (suc k)
    step true e more = omega (arith, more_digits n (ltb-true 9 n e), more (omega arith))
    step false e more = omega (arith, one_digit n (ltb-false 9 n e))

pub few_digits : (n : ℕ) → n < 18446744073709551616 → length (in_decimal n) ≤ 20
few_digits n h = few 19 n (omega arith)
