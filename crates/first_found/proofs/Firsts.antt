-- What holds of each byte before the first at which something is found, byte by byte. Assumes nothing.
use Prim.Native.Nat.{ℕ, max, ◌+◌, ◌-◌, ◌≤◌, ◌<◌}
use mathlib.Core.Path.{◌≡◌, refl, subst}
use mathlib.Core.Bool.{Bool, true, false}
use native.Mathlib.Omega.{arith}
use native.Mathlib.Decide.{dec_le}
use native.Mathlib.Nat.{lt_of_not-le}
use Rattle.std.specs.Prelude.{Option, None, Some, MatchOption}
use Rattle.std.specs.Option.{unwrap_or}
use Rattle.first_found.specs.First.{Upto}

module _ (holds : ℕ → Type 0) {from : ℕ} where
  -- of each place between two, where it is known of each that stands so many after the first
  pub told_between : {count : ℕ} → ((j : ℕ) → j < count → holds (from + j)) → (k : ℕ) → from ≤ k → k < from + count → holds k
  told_between told k l m =
      let there : from + (k - from) ≡ k = omega arith in
      subst holds there (told (k - from) (omega arith))

  -- of each place before the one that `find` finds among those up to an end, where it is known of each that it passes over
  pub told_found : {end to most : ℕ} (found : ℕ → Type 0) (r : Option ℕ)
      → MatchOption r ((k : ℕ) → from ≤ k → k < end → holds k) (λ i. (from ≤ i) × (i < end) × found i × ((k : ℕ) → from ≤ k → k < i → holds k))
      → to ≡ unwrap_or r most → most ≡ max from end → (from ≤ to) × ((k : ℕ) → from ≤ k → k < to → (k < end) × holds k)
  told_found found None told e f = (omega (arith, e, f), λ k l m. (omega (arith, e, f, m), told k l (omega (arith, e, f, m))))
  told_found found (Some i) told e f =
      (omega (arith, e, told.0), λ k l m. (omega (arith, e, m, told.1), told.3 k l (omega (arith, e, m))))

  -- one byte more, at which nothing is found or before which the number ends
  pub upto_next : (found : Bool) (first less : ℕ) {at : ℕ} → Upto holds from at first → (found ≡ false → holds at) → less ≤ first
      → (found ≡ true → from + less ≤ at) → Upto holds from (at + 1) less
  upto_next found first less {at} u none l some k low high near =
      elim (dec_le (k + 1) at) [
        | yes q ↦ u k low (omega arith) (omega arith)
        | no q ↦
            let there : at ≡ k = omega (arith, lt_of_not-le q) in
            subst holds there (none (not_found found (λ t. omega (arith, some t))))
      ]
    where
      not_found : (t : Bool) → (t ≡ true → ⊥) → t ≡ false
      not_found true f = absurd (f refl)
      not_found false f = refl
