-- Laws of the next place at which a test passes: byte by byte, from a later place on, and what it says of a part of the list.
-- Assumes nothing.
use Rattle.std.specs.Prelude.{if◌then◌else◌, Option, None, Some, MatchOption}
use Rattle.std.specs.Option.{unwrap_or}
use Prim.Native.Nat.{ℕ, zero, suc, max, ◌+◌, ◌-◌, ◌≤◌, ◌<◌}
use mathlib.Core.Path.{◌≡◌, refl, sym, ap, ◌∙◌}
use mathlib.Core.Bool.{Bool, true, false, ◌||◌}
use mathlib.Core.List.{List, [], ◌∷◌, ◌++◌}
use native.Mathlib.Omega.{arith}
use lib.ListN.{length, take, drop, get_or, length-drop, drop_of_length-le}
use lib.Seq.{drop-drop, take-add}
use lib.Dec.{ltb}
use borrow.Author.Tests.{ltb-true, ltb-false, lt-ltb, le-ltb}
use Rattle.lists.specs.Lists.{any}
use Rattle.lists.proofs.Texts.{if_true, if_false}
use Rattle.lists.proofs.Numbers.{drop_next}
use Rattle.service_places.specs.Places.{ahead, next_place}

-- two comparisons that say the same
same_test : (a b c d : ℕ) → (a < b → c < d) → (c < d → a < b) → ltb a b ≡ ltb c d
same_test a b c d f g = step (ltb a b) (ltb c d) refl refl
  where
    step : (x y : Bool) → ltb a b ≡ x → ltb c d ≡ y → x ≡ y
    step true true p q = refl
    step false false p q = refl
    step true false p q = absurd (omega (arith, f (ltb-true a b p), ltb-false c d q))
    step false true p q = absurd (omega (arith, g (ltb-true c d q), ltb-false a b p))

module _ (t : ℕ → Bool) where
  -- ---- one of them passes

  -- those up to a place, and those from it on
  any_append : (xs ys : List ℕ) → any t (xs ++ ys) ≡ (any t xs || any t ys)
  unfolding any
  any_append [] ys = refl
  any_append (x ∷ xs) ys = step (t x) (any_append xs ys)
    where
      step : (b : Bool) → any t (xs ++ ys) ≡ (any t xs || any t ys) → (b || any t (xs ++ ys)) ≡ ((b || any t xs) || any t ys)
      step true ih = refl
      step false ih = ih

  -- one of those in front passes where the first is one of them
  any_ahead : (n : ℕ) (xs : List ℕ) → n ≤ length xs → any t (take n xs) ≡ ltb (ahead t xs) n
  unfolding any ahead
  any_ahead zero xs h = sym (le-ltb (ahead t xs) 0 (omega arith))
  any_ahead (suc n) [] h = absurd (omega arith)
  any_ahead (suc n) (x ∷ xs) h = step (t x) (any_ahead n xs (omega arith))
    where
      step : (b : Bool) → any t (take n xs) ≡ ltb (ahead t xs) n → (b || any t (take n xs)) ≡ ltb (if b then 0 else ahead t xs + 1) (suc n)
      step true ih = sym (lt-ltb 0 (suc n) (omega arith))
      step false ih = ih ∙ same_test (ahead t xs) n (ahead t xs + 1) (suc n) (λ l. omega arith) (λ l. omega arith)

  -- so many of those in front of the first passed over
  ahead_on : (n : ℕ) (xs : List ℕ) → n ≤ ahead t xs → n + ahead t (drop n xs) ≡ ahead t xs
  unfolding ahead
  ahead_on zero xs h = omega arith
  ahead_on (suc n) [] h = absurd (omega arith)
  ahead_on (suc n) (x ∷ xs) h = step (t x) h (ahead_on n xs)
    where
      step : (b : Bool) → suc n ≤ (if b then 0 else ahead t xs + 1) → (n ≤ ahead t xs → n + ahead t (drop n xs) ≡ ahead t xs)
          → suc n + ahead t (drop n xs) ≡ (if b then 0 else ahead t xs + 1)
      step true k ih = absurd (omega arith)
      step false k ih = omega (arith, ih (omega arith))

  module _ (s : List ℕ) where
    -- ---- byte by byte

    -- one of those from a place on passes, by the one that stands there
    pub any_next : (i : ℕ) → i < length s → any t (drop i s) ≡ (t (get_or s i 0) || any t (drop (i + 1) s))
    unfolding any
    any_next i h = ap (any t) (drop_next s i h)

    pub any_end : (i : ℕ) → length s ≤ i → any t (drop i s) ≡ false
    unfolding any
    any_end i h = ap (any t) (drop_of_length-le s h)

    -- what was found before a place, and what stands from there on
    abbrev pub Found : Bool → ℕ → Type 0
    Found found i = any t s ≡ (found || any t (drop i s))

    pub found_more : (found : Bool) (i : ℕ) {here : Bool} → i < length s → here ≡ t (get_or s i 0) → Found found i → Found (found || here) (i + 1)
    found_more found i {here} h d g =
        g
        ∙ ap (λ (b : Bool). found || b) (any_next i h ∙ ap (λ (b : Bool). b || any t (drop (i + 1) s)) (sym d))
        ∙ grouped found here (any t (drop (i + 1) s))
      where
        grouped : (a b c : Bool) → (a || (b || c)) ≡ ((a || b) || c)
        grouped true b c = refl
        grouped false b c = refl

    pub found_all : (found : Bool) (i : ℕ) → length s ≤ i → Found found i → found ≡ any t s
    found_all found i h g = sym (g ∙ ap (λ (b : Bool). found || b) (any_end i h) ∙ neither found)
      where
        neither : (b : Bool) → (b || false) ≡ b
        neither true = refl
        neither false = refl

    module _ (i : ℕ) (h : i < length s) where
      next_hit : t (get_or s i 0) ≡ true → i ≡ next_place t s i
      unfolding next_place ahead
      next_hit e = sym (ap (λ (l : List ℕ). i + ahead t l) (drop_next s i h) ∙ ap (λ (n : ℕ). i + n) (if_true (t (get_or s i 0)) 0 (ahead t (drop (i + 1) s) + 1) e) ∙ none)
        where
          none : i + 0 ≡ i
          none = omega arith

      next_miss : t (get_or s i 0) ≡ false → next_place t s i ≡ next_place t s (i + 1)
      unfolding next_place ahead
      next_miss e = ap (λ (l : List ℕ). i + ahead t l) (drop_next s i h) ∙ ap (λ (n : ℕ). i + n) (if_false (t (get_or s i 0)) 0 (ahead t (drop (i + 1) s) + 1) e) ∙ one
        where
          one : i + (ahead t (drop (i + 1) s) + 1) ≡ i + 1 + ahead t (drop (i + 1) s)
          one = omega arith

    next_end : (i : ℕ) → length s ≤ i → i ≡ next_place t s i
    unfolding next_place ahead
    next_end i h = sym (ap (λ (l : List ℕ). i + ahead t l) (drop_of_length-le s h) ∙ none)
      where
        none : i + 0 ≡ i
        none = omega arith

    next_over : (n i : ℕ) {j : ℕ} → i + n ≡ j → ((k : ℕ) → i ≤ k → k < j → (k < length s) × (t (get_or s k 0) ≡ false))
        → next_place t s i ≡ next_place t s j
    next_over zero i {j} e none = let there : i ≡ j = omega arith in ap (next_place t s) there
    next_over (suc n) i e none =
        let here = none i (omega arith) (omega arith) in
        next_miss i here.0 here.1 ∙ next_over n (i + 1) (omega arith) (λ k l m. none k (omega arith) m)

    -- the one that `find` finds among the places from one on is the next
    pub next_found : (i : ℕ) (r : Option ℕ)
        → MatchOption r ((k : ℕ) → i ≤ k → k < length s → t (get_or s k 0) ≡ false) (λ j. (i ≤ j) × (j < length s) × (t (get_or s j 0) ≡ true) × ((k : ℕ) → i ≤ k → k < j → t (get_or s k 0) ≡ false))
        → unwrap_or r (max i (length s)) ≡ next_place t s i
    next_found i None none =
        let end : ℕ = max i (length s) in
        next_end end (omega arith) ∙ sym (next_over (end - i) i (omega arith) (λ k l m. (omega (arith, m), none k l (omega (arith, m)))))
    next_found i (Some j) found =
        next_hit j found.1 found.2 ∙ sym (next_over (j - i) i (omega (arith, found.0)) (λ k l m. (omega (arith, m, found.1), found.3 k l m)))

    -- ---- from a later place on

    -- a place that is not passed yet is still the next one
    pub next_later : (i j : ℕ) → i ≤ j → j ≤ next_place t s i → next_place t s i ≡ next_place t s j
    unfolding next_place
    next_later i j h k =
        let n : ℕ = j - i in
        let there : i + n ≡ j = omega arith in
        let on : n + ahead t (drop n (drop i s)) ≡ ahead t (drop i s) = ahead_on n (drop i s) (omega arith) in
        let same : ahead t (drop n (drop i s)) ≡ ahead t (drop j s) = ap (ahead t) (drop-drop n i s ∙ ap (λ (m : ℕ). drop m s) there) in
        omega (arith, on, same, there)

    -- ---- a part of the list

    module _ (i j : ℕ) (h : i ≤ j) where
      -- one passes in a part exactly if the next place is before its end
      pub part_next : j ≤ length s → any t (take (j - i) (drop i s)) ≡ ltb (next_place t s i) j
      unfolding next_place
      part_next k =
          any_ahead (j - i) (drop i s) (omega (arith, length-drop i s))
          ∙ same_test (ahead t (drop i s)) (j - i) (i + ahead t (drop i s)) j (λ l. omega arith) (λ l. omega arith)

      -- a part is its front and its rest
      pub part_split : (m : ℕ) → i ≤ m → m ≤ j → any t (take (j - i) (drop i s)) ≡ (any t (take (m - i) (drop i s)) || any t (take (j - m) (drop m s)))
      part_split m a b =
          ap (λ (n : ℕ). any t (take n (drop i s))) whole
          ∙ ap (any t) (take-add (m - i) (j - m) (drop i s))
          ∙ any_append (take (m - i) (drop i s)) (take (j - m) (drop (m - i) (drop i s)))
          ∙ ap (λ (l : List ℕ). any t (take (m - i) (drop i s)) || any t (take (j - m) l)) (drop-drop (m - i) i s ∙ ap (λ (n : ℕ). drop n s) there)
        where
          whole : j - i ≡ m - i + (j - m)
          whole = omega arith

          there : i + (m - i) ≡ m
          there = omega arith
