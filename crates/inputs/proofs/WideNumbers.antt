-- The number of a text of any that 64 bits hold, a byte at a time: what the byte at a place does to the number of those before it. Assumes nothing.
use Rattle.std.specs.Prelude.{Some, None, if◌then◌else◌}
use Prim.Native.Nat.{ℕ, ◌+◌, ◌*◌, ◌-◌, ◌≤◌, ◌<◌}
use mathlib.Core.Path.{◌≡◌, refl, ap, ◌∙◌}
use mathlib.Core.Bool.{◌||◌}
use mathlib.Core.List.{List, [], ◌∷◌}
use native.Mathlib.Omega.{arith}
use lib.Dec.{ltb}
use lib.ListN.{length, get_or, drop, drop_of_length-le}
use borrow.Author.Tests.{lt-ltb, le-ltb}
use Rattle.lists.proofs.Numbers.{drop_next}
use Rattle.inputs.specs.WideNumber.{wide_number_from, wide_number_of}

module _ (text : List ℕ) (n i : ℕ) where
  next : i < length text
      → wide_number_from n (drop i text)
      ≡ (if ltb (get_or text i 0) 48 || ltb 57 (get_or text i 0) || ltb 18446744073709551615 (10 * n + (get_or text i 0 - 48)) then None else wide_number_from (10 * n + (get_or text i 0 - 48)) (drop (i + 1) text))
  unfolding wide_number_from
  next inside = ap (wide_number_from n) (drop_next text i inside)

  pub no_more : length text ≤ i → wide_number_from n (drop i text) ≡ Some n
  unfolding wide_number_from
  no_more h = ap (wide_number_from n) (drop_of_length-le text h)

  pub too_low : i < length text → get_or text i 0 < 48 → wide_number_from n (drop i text) ≡ None
  too_low inside low = next inside ∙ simp (lt-ltb (get_or text i 0) 48 low)

  pub too_high : i < length text → 48 ≤ get_or text i 0 → 57 < get_or text i 0 → wide_number_from n (drop i text) ≡ None
  too_high inside fits high = next inside ∙ simp (le-ltb (get_or text i 0) 48 fits, lt-ltb 57 (get_or text i 0) high)

  module _ (inside : i < length text) (low : 48 ≤ get_or text i 0) (high : get_or text i 0 ≤ 57) where
    pub too_many : 18446744073709551615 < 10 * n + (get_or text i 0 - 48) → wide_number_from n (drop i text) ≡ None
    too_many over =
        next inside
        ∙ simp (le-ltb (get_or text i 0) 48 low, le-ltb 57 (get_or text i 0) high, lt-ltb 18446744073709551615 (10 * n + (get_or text i 0 - 48)) over)

    pub one_more : 10 * n + (get_or text i 0 - 48) ≤ 18446744073709551615
        → wide_number_from n (drop i text) ≡ wide_number_from (10 * n + (get_or text i 0 - 48)) (drop (i + 1) text)
    one_more room =
        next inside
        ∙ simp (le-ltb (get_or text i 0) 48 low, le-ltb 57 (get_or text i 0) high, le-ltb 18446744073709551615 (10 * n + (get_or text i 0 - 48)) room)

-- a text of one byte or more is its number from 0 on
pub from_none : (text : List ℕ) → 0 < length text → wide_number_of text ≡ wide_number_from 0 text
unfolding wide_number_of
from_none [] h = absurd (omega (arith, h))
from_none (b ∷ text) h = refl

pub none_empty : (text : List ℕ) → length text ≡ 0 → wide_number_of text ≡ None
unfolding wide_number_of
none_empty [] h = refl
none_empty (b ∷ text) h = absurd (omega (arith, h))
