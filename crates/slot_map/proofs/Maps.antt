-- The numbers that a map's bits give: how many are 1, and the lowest that is 0. Assumes nothing.
use Prim.Native.Nat.{ℕ, zero, suc, ◌+◌, ◌-◌, ◌*◌, ◌/◌, ◌%◌, ◌^◌, ◌≤◌, ◌<◌}
use mathlib.Core.Path.{◌≡◌, refl, sym, ap, ap₂, subst, ◌∙◌}
use mathlib.Core.Bool.{Bool, true, false, not}
use mathlib.Core.List.{List, [], ◌∷◌, ◌++◌}
use mathlib.Core.Logic.{◌⊎◌, inl, inr, ⊎_elim}
use mathlib.Core.Option.{Option, none, some}
use native.Mathlib.Nat.{pow-suc, pow-succ', div-div-eq-div-mul, mod-eq_of_lt, mod-lt, one-le-pow, mod-one}
use native.Mathlib.Omega.{arith}
use lib.Bits.{bit_or, bit_and, or_disjoint, and_high}
use lib.Count.{ones, ones_cat, ones-ones, under, count_trailing_zeros, trailing_le}
use lib.Dec.{eqb}
use lib.ListN.{length, length-append}
use lib.Pow.{mod-pow-add, shl_exact}
use borrow.Author.Tests.{eq-eqb, ne_eqb}
use Rattle.lists.specs.Lists.{those, at, maybe}
use Rattle.lists.proofs.Texts.{decided}
use Rattle.lists.proofs.Tests.{says_eq, decides}
use Rattle.shelves.specs.Layout.{bit, below, slot_count}
use Rattle.shelves.proofs.Bits.{bit_zero, bit_one}
use Rattle.shelves.proofs.Passing.{passing_next, passing_skip}
use Rattle.slot_map.specs.Slots.{occupied_count, lowest_free_in}

-- ---- a bit set

-- 1 shifted is a power of 2
pub shifted : (k : ℕ) → k < 64 → (1 * 2 ^ k) % 18446744073709551616 ≡ 2 ^ k
shifted k h = shl_exact 1 k 64 (omega arith) (omega arith) ∙ omega arith

-- a map and a bit that it lacks share nothing
pub bit_added : (m k : ℕ) → bit m k ≡ false → bit_or m (2 ^ k) ≡ m + 2 ^ k
bit_added m k e =
    or_disjoint m (2 ^ k) (ap (bit_and m) worth ∙ and_high m 1 k ∙ ap (λ (d : ℕ). d * 2 ^ k) (bit_zero m k e) ∙ omega arith)
  where
    more : 1 + k ≡ suc k
    more = omega arith

    worth : 2 ^ k ≡ 2 ^ (1 + k) - 2 ^ k
    worth = omega (arith, pow-succ' 2 k, ap (λ (n : ℕ). 2 ^ n) more)

-- ---- how many are 1

-- the bits of a number that are 1, one bit after another
ones_next : (m n : ℕ) → ones (m % 2 ^ suc n) ≡ ones (m / 2 ^ n % 2) + ones (m % 2 ^ n)
ones_next m n =
    ap ones (ap (λ (k : ℕ). m % 2 ^ k) more ∙ mod-pow-add m 1 n)
    ∙ ones_cat n (m / 2 ^ n % 2) (m % 2 ^ n) (mod-lt m (one-le-pow n 2 (omega arith)))
  where
    more : suc n ≡ 1 + n
    more = omega arith

counted_next : (m n : ℕ) → length (those (bit m) (below n)) ≡ ones (m % 2 ^ n) → length (those (bit m) (below (suc n))) ≡ ones (m % 2 ^ suc n)
unfolding ones
counted_next m n ih = ⊎_elim with_it without_it (decided (bit m n))
  where
    with_it : bit m n ≡ true → length (those (bit m) (below (suc n))) ≡ ones (m % 2 ^ suc n)
    with_it e =
        ap length (passing_next (bit m) n e)
        ∙ length-append (those (bit m) (below n)) (n ∷ [])
        ∙ omega (arith, ih, ones_next m n, ap ones (bit_one m n e))

    without_it : bit m n ≡ false → length (those (bit m) (below (suc n))) ≡ ones (m % 2 ^ suc n)
    without_it e = ap length (passing_skip (bit m) n e) ∙ omega (arith, ih, ones_next m n, ap ones (bit_zero m n e))

counted : (m n : ℕ) → length (those (bit m) (below n)) ≡ ones (m % 2 ^ n)
unfolding below those ones
counted m zero = sym (ap ones (mod-one m))
counted m (suc n) = counted_next m n (counted m n)

pub count_is : (m : ℕ) → m < 18446744073709551616 → ones m ≡ occupied_count m
unfolding occupied_count
count_is m h = sym (counted m slot_count ∙ ap ones (mod-eq_of_lt h))

-- ---- the lowest that is 0

-- the digit of a number that is worth 2 ^ k
abbrev digit : ℕ → ℕ → ℕ
digit m k = m / 2 ^ k % 2

digit_half : (m k : ℕ) → digit m (suc k) ≡ digit (m / 2) k
digit_half m k = ap (λ (d : ℕ). d % 2) (ap (λ (p : ℕ). m / p) (pow-succ' 2 k) ∙ sym (div-div-eq-div-mul m 2 (2 ^ k)))

-- the trailing zeros of a complemented number of w bits
abbrev lowest : ℕ → ℕ → ℕ
lowest w m = count_trailing_zeros w ((2 ^ w - 1) - m)

-- a number and its complement, halved
half_complement : (w m : ℕ) → m < 2 ^ suc w → ((2 ^ suc w - 1) - m) / 2 ≡ (2 ^ w - 1) - m / 2
half_complement w m h = let e = pow-succ' 2 w in omega arith

odd_complement : (w m : ℕ) → m < 2 ^ suc w → ((2 ^ suc w - 1) - m) % 2 ≡ 1 - m % 2
odd_complement w m h = let e = pow-succ' 2 w in omega arith

lowest_more : (w m : ℕ) → m < 2 ^ suc w → m % 2 ≡ 1 → lowest (suc w) m ≡ suc (lowest w (m / 2))
unfolding count_trailing_zeros
lowest_more w m h e =
    ap₂ (λ (d t : ℕ). under d t) even (ap (count_trailing_zeros w) (half_complement w m h))
  where
    even : ((2 ^ suc w - 1) - m) % 2 ≡ 0
    even = omega (arith, odd_complement w m h)

lowest_here : (w m : ℕ) → m < 2 ^ suc w → m % 2 ≡ 0 → lowest (suc w) m ≡ 0
unfolding count_trailing_zeros
lowest_here w m h e = ap (λ (d : ℕ). under d (count_trailing_zeros w (((2 ^ suc w - 1) - m) / 2))) odd
  where
    odd : ((2 ^ suc w - 1) - m) % 2 ≡ 1
    odd = omega (arith, odd_complement w m h)

-- all digits below t are 1, and the one at t is 0 where t is one of the w
record Lowest (w m t : ℕ) : Type 0 where
  full : (j : ℕ) → j < t → digit m j ≡ 1
  open_at : t < w → digit m t ≡ 0

lowest_next : (w m : ℕ) → m < 2 ^ suc w → Lowest w (m / 2) (lowest w (m / 2)) → Lowest (suc w) m (lowest (suc w) m)
lowest_next w m h ih = ⊎_elim odd even (decides (eqb (m % 2) 1) (says_eq (m % 2) 1))
  where
    full_too : m % 2 ≡ 1 → (j : ℕ) → j < suc (lowest w (m / 2)) → digit m j ≡ 1
    full_too e zero i = omega arith
    full_too e (suc j) i = digit_half m j ∙ ih.full j (omega arith)

    odd : m % 2 ≡ 1 → Lowest (suc w) m (lowest (suc w) m)
    odd e =
        subst (Lowest (suc w) m) (sym (lowest_more w m h e))
        (record { full = full_too e; open_at = λ i. digit_half m (lowest w (m / 2)) ∙ ih.open_at (omega arith) })

    even : (m % 2 ≡ 1 → ⊥) → Lowest (suc w) m (lowest (suc w) m)
    even d =
        subst (Lowest (suc w) m) (sym (lowest_here w m h (omega arith)))
        (record { full = λ j i. absurd (omega arith); open_at = λ i. omega arith })

lowest_is : (w m : ℕ) → m < 2 ^ w → Lowest w m (lowest w m)
unfolding count_trailing_zeros
lowest_is zero m h = record { full = λ j i. absurd (omega arith); open_at = λ i. absurd (omega arith) }
lowest_is (suc w) m h = lowest_next w m h (lowest_is w (m / 2) (let e = pow-succ' 2 w in omega arith))

-- what stands first stays first
front : (t : ℕ) (xs ys : List ℕ) → at xs 0 ≡ some t → at (xs ++ ys) 0 ≡ some t
unfolding at
front t [] ys q = let z : ◌≡◌ {A = ℕ} 0 1 = cc in absurd (omega arith)
front t (x ∷ xs) ys q = q

module _ (p : ℕ → Bool) where
  pub none_pass : (n : ℕ) → ((j : ℕ) → j < n → p j ≡ false) → those p (below n) ≡ []
  unfolding below those
  none_pass zero h = refl
  none_pass (suc n) h = passing_skip p n (h n (omega arith)) ∙ none_pass n (λ j i. h j (omega arith))

  last_passes : (n : ℕ) → p n ≡ true → ((j : ℕ) → j < n → p j ≡ false) → at (those p (below (suc n))) 0 ≡ some n
  unfolding at
  last_passes n e h = ap (λ (l : List ℕ). at l 0) (passing_next p n e ∙ ap (λ (l : List ℕ). l ++ n ∷ []) (none_pass n h))

  still_first : (n t : ℕ) → at (those p (below n)) 0 ≡ some t → at (those p (below (suc n))) 0 ≡ some t
  still_first n t q =
      ⊎_elim
      (λ (b : p n ≡ true). ap (λ (l : List ℕ). at l 0) (passing_next p n b) ∙ front t (those p (below n)) (n ∷ []) q)
      (λ (b : p n ≡ false). ap (λ (l : List ℕ). at l 0) (passing_skip p n b) ∙ q)
      (decided (p n))

  -- the first that passes stands first
  pub first_passes : (n t : ℕ) → t < n → p t ≡ true → ((j : ℕ) → j < t → p j ≡ false) → at (those p (below n)) 0 ≡ some t
  first_passes zero t i e h = absurd (omega arith)
  first_passes (suc n) t i e h =
      ⊎_elim
      (λ (q : t ≡ n). last_passes n (ap p (sym q) ∙ e) (λ j k. h j (omega arith)) ∙ ap some (sym q))
      (λ (q : t ≡ n → ⊥). still_first n t (first_passes n t (omega arith) e h))
      (decides (eqb t n) (says_eq t n))

-- the first number that is not in the map
module _ (m t : ℕ) (known : Lowest slot_count m t) where
  taken : (j : ℕ) → j < t → not (bit m j) ≡ false
  unfolding bit
  taken j i = ap not (eq-eqb (digit m j) 1 (known.full j i))

  free_here : t < slot_count → not (bit m t) ≡ true
  unfolding bit
  free_here i = ap not (ne_eqb (digit m t) 1 (λ e. let z = known.open_at i in omega arith))

  first_free : t ≤ slot_count → t ≡ lowest_free_in m
  unfolding lowest_free_in maybe at
  first_free h = ⊎_elim none_free some_free (decides (eqb t slot_count) (says_eq t slot_count))
    where
      none_free : t ≡ slot_count → t ≡ maybe slot_count (λ k. k) (at (those (λ k. not (bit m k)) (below slot_count)) 0)
      none_free e =
          e ∙ sym (ap (λ (l : List ℕ). maybe slot_count (λ k. k) (at l 0)) (none_pass (λ k. not (bit m k)) slot_count (λ j i. taken j (omega arith))))

      some_free : (t ≡ slot_count → ⊥) → t ≡ maybe slot_count (λ k. k) (at (those (λ k. not (bit m k)) (below slot_count)) 0)
      some_free d =
          sym (ap (maybe slot_count (λ k. k)) (first_passes (λ k. not (bit m k)) slot_count t (omega arith) (free_here (omega arith)) taken))

pub lowest_free_is : (m : ℕ) → m < 18446744073709551616 → count_trailing_zeros 64 (18446744073709551615 - m) ≡ lowest_free_in m
lowest_free_is m h = first_free m (lowest 64 m) (lowest_is 64 m h) (trailing_le 64 (18446744073709551615 - m))
