-- The number and the values of an answer determine it. Assumes nothing.
use Rattle.refusals.specs.declared.Refusal.{Refusal}
use Rattle.refusals.specs.Refusals.{Outcome}
use Rattle.std.specs.Prelude.{Ok, Err, Result}
use Prim.Native.Nat.{ℕ}
use mathlib.Core.Path.{◌≡◌, refl, sym, ap, ap₂}
use mathlib.Core.List.{[], ◌∷◌}
use native.Mathlib.Omega.{arith}
use lib.ListN.{get_or}
use Rattle.answers.specs.Answers.{Answer, given}
use Rattle.contracts.proofs.Told.{given_refused, refused_tells}
use Rattle.shelves.specs.declared.Shelved.{Shelved}
use Rattle.shelves.specs.declared.Shelved.TheVariants as shelved
use Rattle.shelves.specs.declared.Slots.{Slots}
use Rattle.shelves.specs.declared.TwoSums.{TwoSums}
use Rattle.shelves.specs.Answers.{new_at, copy_at, told_shelved, told_slots, told_sums, told_outcome}

-- the value of an answer at a number
abbrev value : ℕ → Answer → ℕ
value k a = get_or a.values k 0

pub outcome_tells : (a b : Outcome) → told_outcome a ≡ told_outcome b → a ≡ b
unfolding told_outcome
outcome_tells (Ok _) (Ok _) e = refl
outcome_tells (Ok _) (Err r) e = absurd (given_refused [] r e)
outcome_tells (Err r) (Ok _) e = absurd (given_refused [] r (sym e))
outcome_tells (Err r) (Err q) e = ap Err (refused_tells r q e)

pub shelved_tells : (a b : Result Shelved Refusal) → told_shelved a ≡ told_shelved b → a ≡ b
unfolding told_shelved new_at copy_at given
shelved_tells (Ok (shelved.New k)) (Ok (shelved.New m)) e = ap (λ x. Ok (shelved.New x)) (ap (value 0) e)
shelved_tells (Ok (shelved.New k)) (Ok (shelved.Copy m)) e = absurd (omega (arith, ap (value 1) e))
shelved_tells (Ok (shelved.New k)) (Err r) e = absurd (given_refused (k ∷ 1 ∷ []) r e)
shelved_tells (Ok (shelved.Copy k)) (Ok (shelved.New m)) e = absurd (omega (arith, ap (value 1) e))
shelved_tells (Ok (shelved.Copy k)) (Ok (shelved.Copy m)) e = ap (λ x. Ok (shelved.Copy x)) (ap (value 0) e)
shelved_tells (Ok (shelved.Copy k)) (Err r) e = absurd (given_refused (k ∷ 0 ∷ []) r e)
shelved_tells (Err r) (Ok (shelved.New m)) e = absurd (given_refused (m ∷ 1 ∷ []) r (sym e))
shelved_tells (Err r) (Ok (shelved.Copy m)) e = absurd (given_refused (m ∷ 0 ∷ []) r (sym e))
shelved_tells (Err r) (Err q) e = ap Err (refused_tells r q e)

pub slots_tells : (a b : Result Slots Refusal) → told_slots a ≡ told_slots b → a ≡ b
unfolding told_slots given
slots_tells (Ok v) (Ok w) e = ap₂ (λ (n m : ℕ). Ok (record { occupied = n; lowest_free = m })) (ap (value 0) e) (ap (value 1) e)
slots_tells (Ok v) (Err r) e = absurd (given_refused (v.occupied ∷ v.lowest_free ∷ []) r e)
slots_tells (Err r) (Ok v) e = absurd (given_refused (v.occupied ∷ v.lowest_free ∷ []) r (sym e))
slots_tells (Err r) (Err q) e = ap Err (refused_tells r q e)

pub sums_tells : (a b : Result TwoSums Refusal) → told_sums a ≡ told_sums b → a ≡ b
unfolding told_sums given
sums_tells (Ok v) (Ok w) e = ap₂ (λ (n m : ℕ). Ok (record { held = n; duplicates = m })) (ap (value 0) e) (ap (value 1) e)
sums_tells (Ok v) (Err r) e = absurd (given_refused (v.held ∷ v.duplicates ∷ []) r e)
sums_tells (Err r) (Ok v) e = absurd (given_refused (v.held ∷ v.duplicates ∷ []) r (sym e))
sums_tells (Err r) (Err q) e = ap Err (refused_tells r q e)
