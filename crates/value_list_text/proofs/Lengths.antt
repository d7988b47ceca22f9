-- A length that a text may have: it is told, or it is over. Assumes nothing.
use Rattle.std.specs.Prelude.{if◌then◌else◌, Option, Some, None}
use Rattle.std.specs.Bool.{then_some}
use Prim.Native.Nat.{ℕ, ◌≤◌, ◌<◌}
use mathlib.Core.Path.{◌≡◌, refl, sym, ◌∙◌}
use mathlib.Core.Bool.{Bool, true, false}
use lib.Dec.{leb, ltb}
use borrow.Author.Tests.{leb-true, leb-false, ltb-true, ltb-false, lt-ltb, le-ltb}
use Rattle.lists.proofs.Texts.{if_true, if_false}
use Rattle.value_list_text.specs.Composing.{short_length}
use Rattle.refusals.specs.Limits.{most_bytes}

pub short_over : (n : ℕ) → most_bytes < n → None ≡ short_length n
unfolding short_length
short_over n h = sym (if_true (ltb most_bytes n) None (Some n) (lt-ltb most_bytes n h))

pub short_is : (n : ℕ) → n ≤ most_bytes → Some n ≡ short_length n
unfolding short_length
short_is n h = sym (if_false (ltb most_bytes n) None (Some n) (le-ltb most_bytes n h))

-- what is told is the length, and short
pub short_tells : (n : ℕ) {o : Option ℕ} {m : ℕ} → o ≡ short_length n → o ≡ Some m → (m ≡ n) × (n ≤ most_bytes)
unfolding short_length
short_tells n {o} {m} e d = step (ltb most_bytes n) refl (sym d ∙ e)
  where
    step : (b : Bool) → ltb most_bytes n ≡ b → Some m ≡ (if b then None else Some n) → (m ≡ n) × (n ≤ most_bytes)
    step true t h = cc
    step false t h = (cc, ltb-false most_bytes n t)

-- what is not told is over
pub short_tells_over : (n : ℕ) {o : Option ℕ} → o ≡ short_length n → o ≡ None → most_bytes < n
unfolding short_length
short_tells_over n {o} e d = step (ltb most_bytes n) refl (sym d ∙ e)
  where
    step : (b : Bool) → ltb most_bytes n ≡ b → None ≡ (if b then None else Some n) → most_bytes < n
    step true t h = ltb-true most_bytes n t
    step false t h = cc

-- the code's test
pub short_then : (n : ℕ) → then_some (leb n most_bytes) n ≡ short_length n
unfolding short_length
short_then n = step (leb n most_bytes) refl
  where
    step : (b : Bool) → leb n most_bytes ≡ b → then_some b n ≡ (if ltb most_bytes n then None else Some n)
    step true t = short_is n (leb-true n most_bytes t)
    step false t = short_over n (leb-false n most_bytes t)
