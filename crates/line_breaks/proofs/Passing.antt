-- The breaks that stand at a place, one by one. Assumes nothing.
use Rattle.std.specs.Prelude.{if◌then◌else◌, Option, None, Some, MatchOption}
use Rattle.std.specs.Option.{unwrap_or}
use Prim.Native.Nat.{ℕ, zero, suc, ◌+◌, ◌-◌, ◌≤◌, ◌<◌}
use mathlib.Core.Path.{◌≡◌, sym, ap, ◌∙◌}
use mathlib.Core.Bool.{Bool, true, false}
use mathlib.Core.List.{List, [], ◌∷◌}
use native.Mathlib.Omega.{arith}
use lib.ListN.{length, get_or, drop, length-drop, drop_of_length-le}
use borrow.Author.Tests.{ne_eqb}
use Rattle.lists.specs.Lists.{member}
use Rattle.lists.proofs.Numbers.{drop_next}
use Rattle.characters.specs.Characters.{is_break, breaks, after_breaks}

-- there are no more breaks than bytes
breaks_most : (bytes : List ℕ) → breaks bytes ≤ length bytes
unfolding breaks
breaks_most [] = omega arith
breaks_most (b ∷ bs) = step (is_break b) (breaks_most bs)
  where
    step : (t : Bool) → breaks bs ≤ length bs → (if t then suc (breaks bs) else zero) ≤ length (b ∷ bs)
    step true h = omega arith
    step false h = omega arith

module _ (s : List ℕ) (at : ℕ) where
  pub after_least : at ≤ after_breaks s at
  unfolding after_breaks
  after_least = omega arith

  -- those at a place inside the input end there too
  pub after_most : at ≤ length s → after_breaks s at ≤ length s
  unfolding after_breaks
  after_most h = omega (arith, breaks_most (drop at s), length-drop at s)

  -- by what stands there
  after_by : (t : Bool) → at < length s → is_break (get_or s at 0) ≡ t
      → after_breaks s at ≡ at + (if t then suc (breaks (drop (at + 1) s)) else zero)
  unfolding after_breaks breaks
  after_by t h e =
      ap (λ (l : List ℕ). at + breaks l) (drop_next s at h)
      ∙ ap (λ (u : Bool). at + (if u then suc (breaks (drop (at + 1) s)) else zero)) e

  -- a break is passed over,
  pub after_break : at < length s → is_break (get_or s at 0) ≡ true → after_breaks s at ≡ after_breaks s (at + 1)
  unfolding after_breaks
  after_break h e = after_by true h e ∙ omega arith

  -- another byte is not,
  pub after_none : at < length s → is_break (get_or s at 0) ≡ false → at ≡ after_breaks s at
  after_none h e = sym (after_by false h e ∙ omega arith)

  -- and so of a byte above both,
  pub after_high : at < length s → 13 < get_or s at 0 → at ≡ after_breaks s at
  unfolding is_break member
  after_high h k = after_none h (simp (ne_eqb (get_or s at 0) 13 (λ e. omega arith), ne_eqb (get_or s at 0) 10 (λ e. omega arith)))

  -- and after the last byte there is none
  pub after_all_lem : length s ≤ at → at ≡ after_breaks s at
  unfolding after_breaks breaks
  after_all_lem h = sym (ap (λ (l : List ℕ). at + breaks l) (drop_of_length-le s h) ∙ omega arith)

module _ (s : List ℕ) where
  -- breaks are passed over, however many,
  after_over : (n from : ℕ) {to : ℕ} → from + n ≡ to → to ≤ length s → ((k : ℕ) → from ≤ k → k < to → is_break (get_or s k 0) ≡ true)
      → after_breaks s from ≡ after_breaks s to
  after_over zero from {to} e h all = let there : from ≡ to = omega arith in ap (after_breaks s) there
  after_over (suc n) from e h all =
      after_break s from (omega arith) (all from (omega arith) (omega arith))
      ∙ after_over n (from + 1) (omega arith) h (λ k l m. all k (omega arith) m)

  -- up to the first byte that is none, which `find` finds
  pub after_found : (from : ℕ) (r : Option ℕ) → from ≤ length s
      → MatchOption r ((k : ℕ) → from ≤ k → k < length s → is_break (get_or s k 0) ≡ true) (λ i. (from ≤ i) × (i < length s) × (is_break (get_or s i 0) ≡ false) × ((k : ℕ) → from ≤ k → k < i → is_break (get_or s k 0) ≡ true))
      → unwrap_or r (length s) ≡ after_breaks s from
  after_found from None h all =
      after_all_lem s (length s) (omega arith) ∙ sym (after_over (length s - from) from (omega arith) (omega arith) all)
  after_found from (Some i) h found =
      after_none s i found.1 found.2 ∙ sym (after_over (i - from) from (omega (arith, found.0)) (omega (arith, found.1)) found.3)
