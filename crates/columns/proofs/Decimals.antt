-- A number in decimal, digit by digit. Assumes nothing.
use Rattle.std.specs.Prelude.{if◌then◌else◌}
use Prim.Native.Nat.{ℕ, zero, suc, ◌+◌, ◌*◌, ◌/◌, ◌%◌, ◌≤◌, ◌<◌}
use mathlib.Core.Path.{◌≡◌, refl, ap, ap₂, ◌∙◌}
use mathlib.Core.Bool.{Bool, true, false}
use mathlib.Core.List.{[], ◌∷◌, ◌++◌}
use native.Mathlib.Omega.{arith}
use lib.Dec.{ltb}
use borrow.Author.Tests.{ltb-false, lt-ltb, le-ltb}
use Rattle.values.specs.Spelling.{Bytes}
use Rattle.columns.specs.Lines.{digits_up_to, in_decimal}

-- where there may be digits enough, more of them change nothing
digits_enough : (a b n : ℕ) → suc n ≤ a → suc n ≤ b → digits_up_to a n ≡ digits_up_to b n
unfolding digits_up_to
digits_enough zero b n h k = absurd (omega arith)
digits_enough (suc a) zero n h k = absurd (omega arith)
digits_enough (suc a) (suc b) n h k =
    step (ltb n 10) refl (λ (l : 10 ≤ n). digits_enough a b (n / 10) (omega arith) (omega arith))
  where
    step : (t : Bool) → ltb n 10 ≡ t → (10 ≤ n → digits_up_to a (n / 10) ≡ digits_up_to b (n / 10))
        → (if t then [] else digits_up_to a (n / 10)) ++ (48 + n % 10) ∷ [] ≡ (if t then [] else digits_up_to b (n / 10)) ++ (48 + n % 10) ∷ []
    step true e more = refl
    step false e more = ap (λ (l : Bytes). l ++ (48 + n % 10) ∷ []) (more (ltb-false n 10 e))

-- a number of one digit, and one of more
pub decimal_one : (n : ℕ) → n ≤ 9 → in_decimal n ≡ (48 + n % 10) ∷ []
unfolding in_decimal digits_up_to
decimal_one n h = ap (λ (t : Bool). (if t then [] else digits_up_to n (n / 10)) ++ (48 + n % 10) ∷ []) (lt-ltb n 10 (omega arith))

pub decimal_more : (n : ℕ) → 9 < n → in_decimal n ≡ in_decimal (n / 10) ++ (48 + n % 10) ∷ []
unfolding in_decimal digits_up_to
decimal_more n h =
    ap (λ (t : Bool). (if t then [] else digits_up_to n (n / 10)) ++ (48 + n % 10) ∷ []) (le-ltb n 10 (omega arith))
    ∙ ap (λ (l : Bytes). l ++ (48 + n % 10) ∷ []) (digits_enough n (suc (n / 10)) (n / 10) (omega arith) (omega arith))

-- "in decimal without leading zeros": a digit is itself, and one behind a number that is not 0 is its last. This leaves one way to write each.
pub in_decimal_lem : (n d : ℕ) → d < 10
    → (in_decimal d ≡ (48 + d) ∷ []) × (0 < n → in_decimal (n * 10 + d) ≡ in_decimal n ++ (48 + d) ∷ [])
in_decimal_lem n d h =
    let tenth : (n * 10 + d) / 10 ≡ n = omega arith in
    let last : (n * 10 + d) % 10 ≡ d = omega arith in
    let itself : d % 10 ≡ d = omega arith in (
      decimal_one d (omega arith) ∙ ap (λ (k : ℕ). (48 + k) ∷ []) itself,
      λ k. decimal_more (n * 10 + d) (omega arith) ∙ ap₂ (λ (m l : ℕ). in_decimal m ++ (48 + l) ∷ []) tenth last,
    )
