-- What the definitions say in numbers: the number of each refusal, and which of two is lower. Assumes nothing.
use Rattle.std.specs.Prelude.{Ok, Err}
use Prim.Native.Nat.{ℕ, ◌+◌, ◌*◌, ◌≤◌, ◌<◌}
use mathlib.Core.Path.{◌≡◌, refl, ap}
use mathlib.Core.Bool.{Bool, true, false, ◌&&◌, false≢true}
use mathlib.Core.List.{List, [], ◌∷◌, map, Memᴰ}
use mathlib.Core.Option.{Option, none, some}
use mathlib.Core.Logic.{◌⊎◌, ⊎_elim, ◌↔◌}
use native.Mathlib.Omega.{arith}
use lib.Dec.{eqb, ltb}
use Rattle.lists.proofs.Tests.{Says, says_eq, says_lt, says_both, says_either, fails}
use Rattle.refusals.specs.declared.Fault.{Fault}
use Rattle.refusals.specs.declared.Fault.TheVariants.{TooLong, UnusableAdvice, NoOpening, StrayRelease, UnendedSegment, BrokenTag, ForeignLevel, OutsideLevel, MisplacedSegment, BadControl, ReferenceDiffers, CountWrong, NormalTooLong, BufferShort, BadList, NeedsRelease, NoFreeSlot, NoRoom, UnsoundShelf, FreeSlot, UnsoundTable, UnmatchedBody, NoAcknowledgement, NoColumns}
use Rattle.refusals.specs.declared.Refusal.{Refusal}
use Rattle.refusals.specs.Limits.{most_bytes, most_numbers, most_spelled}
use Rattle.refusals.specs.Refusals.{number, Stage, met, is_lower, lowest, or_else, answering, outcome, failed_at, place_if}
use Rattle.refusals.proofs.Lowest.{lowest_answers}
use Rattle.refusals.proofs.Stages.{met_member}

-- "Refusals by number", in the order of the table
abbrev pub by_number : List Fault
by_number =
    TooLong ∷ UnusableAdvice ∷ NoOpening ∷ StrayRelease ∷ UnendedSegment ∷ BrokenTag ∷ ForeignLevel ∷ OutsideLevel ∷ MisplacedSegment
    ∷ BadControl ∷ ReferenceDiffers ∷ CountWrong ∷ NormalTooLong ∷ BufferShort ∷ BadList ∷ NeedsRelease
    ∷ NoFreeSlot ∷ NoRoom ∷ UnsoundShelf ∷ FreeSlot ∷ UnsoundTable ∷ UnmatchedBody ∷ NoAcknowledgement ∷ NoColumns ∷ []

pub numbers_are : map number by_number ≡ 1 ∷ 2 ∷ 3 ∷ 4 ∷ 5 ∷ 6 ∷ 7 ∷ 8 ∷ 9 ∷ 10 ∷ 11 ∷ 12 ∷ 13 ∷ 14 ∷ 15 ∷ 16 ∷ 17 ∷ 18 ∷ 19 ∷ 20 ∷ 21 ∷ 22 ∷ 23 ∷ 24 ∷ []
numbers_are = refl

-- "the lowest place, then the lowest number"
pub lower_says : (r q : Refusal)
    → Says (is_lower r q) ((r.place < q.place) ⊎ ((r.place ≡ q.place) × (number r.fault < number q.fault)))
unfolding is_lower
lower_says r q =
    let place : Bool = eqb r.place q.place in
    let fault : Bool = ltb (number r.fault) (number q.fault) in
    says_either (ltb r.place q.place) (place && fault) (says_lt r.place q.place)
    (says_both place fault (says_eq r.place q.place) (says_lt (number r.fault) (number q.fault)))

-- the place, exactly where the test passes
pub place_says : {P : Type 0} (t : Bool) (p q : ℕ) → Says t P → Memᴰ q (place_if t p) ↔ (P × (q ≡ p))
unfolding place_if
place_says true p q s = (λ m. (s.0 refl, mathlib.Core.List.Memᴰ.eq_of_singleton m), λ h. mathlib.Core.List.Memᴰ.head h.1)
place_says false p q s = (λ m. absurd (mathlib.Core.List.Memᴰ.not-nil m), λ h. absurd (false≢true (s.1 h.0)))

-- what a stage answers, as an outcome
pub outcome_is : (f : Fault) (p : ℕ)
    → (outcome none ≡ Ok tt)
    × (outcome (some (record { fault = f; place = p })) ≡ Err (record { fault = f; place = p }))
    × (failed_at f p ≡ Err (record { fault = f; place = p }))
unfolding outcome
outcome_is f p = (refl, refl, refl)

-- ---- a stage of one number

module _ (f : Fault) (places : List ℕ) (later : List Stage) where
  -- it answers with the lowest place at which it is met, whatever comes later,
  pub place_answers : (p : ℕ) → Memᴰ p places → ((q : ℕ) → Memᴰ q places → p ≤ q)
      → answering (met f places ∷ later) ≡ some (record { fault = f; place = p })
  unfolding answering or_else
  place_answers p m least =
      let r : Refusal = record { fault = f; place = p } in
      ap (λ (o : Option Refusal). or_else o (answering later))
      (lowest_answers (met f places) r (record { met = (met_member f r places).1 (refl, m); least = below }))
    where
      below : (q : Refusal) → Memᴰ q (met f places) → is_lower q (record { fault = f; place = p }) ≡ false
      below q n =
          let own : (q.fault ≡ f) × Memᴰ q.place places = (met_member f q places).0 n in
          let far : p ≤ q.place = least q.place own.1 in
          let same : number q.fault ≡ number f = ap number own.0 in
          (fails (is_lower q (record { fault = f; place = p })) (lower_says q (record { fault = f; place = p }))).1
          (⊎_elim (λ l. omega arith) (λ l. omega arith))

  -- and leaves it to those where it is met nowhere
  pub nowhere_answers : ((q : ℕ) → Memᴰ q places → ⊥) → answering (met f places ∷ later) ≡ answering later
  unfolding answering or_else met lowest
  nowhere_answers h = ap (λ (ps : List ℕ). answering (met f ps ∷ later)) (nothing places h)
    where
      nothing : (ps : List ℕ) → ((q : ℕ) → Memᴰ q ps → ⊥) → ps ≡ []
      nothing [] h = refl
      nothing (p ∷ ps) h = absurd (h p (mathlib.Core.List.Memᴰ.head refl))

-- "over 32,000 bytes", "table over 96,000 numbers"
pub limits_are : (most_bytes ≡ 32000) × (most_numbers ≡ 96000) × (most_spelled ≡ 2 * 32000 + 9)
limits_are = (refl, refl, refl)
