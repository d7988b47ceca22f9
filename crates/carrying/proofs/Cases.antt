-- What each contract allows, case by case: which answer, and which bytes of the shelf at exit. Assumes nothing.
use Rattle.refusals.specs.Refusals.{Outcome}
use Rattle.std.specs.Prelude.{Ok, Err}
use Prim.Native.Nat.{ℕ, ◌+◌, ◌≤◌, ◌<◌}
use mathlib.Core.Path.{◌≡◌, ◌∙◌}
use mathlib.Core.Bool.{true, false}
use mathlib.Core.List.{List}
use lib.ListN.{length}
use Rattle.shelves.specs.Layout.{version_one, version_two, end_of}
use Rattle.shelves.specs.Soundness.{sound}
use Rattle.shelves.specs.Answers.{told_outcome}
use Rattle.shelves.proofs.Answered.{nineteen}
use Rattle.shelf_contracts.proofs.Told.{outcome_tells}
use Rattle.carrying.specs.Carrying.{carried, carried_back}
use Rattle.carrying.specs.Promises.{Carries, CarriesBack}
use Rattle.carrying.proofs.Answered.{eighteen, refusal_unsound, refusal_roomless, refusal_none, carry_refused, carry_done, back_unsound, back_none, back_refused, back_done}

module _ (s : List ℕ) (r : Outcome) (after : List ℕ) where
  -- the shelf as version 2; or 18 at 8 or 19 at 0, and the shelf as it was
  pub carries : Carries s r after
      → (sound version_one s ≡ true → end_of version_one s + 8 ≤ length s → (r ≡ Ok tt) × (after ≡ carried s))
      × (sound version_one s ≡ true → length s < end_of version_one s + 8 → (r ≡ Err eighteen) × (after ≡ s))
      × (sound version_one s ≡ false → (r ≡ Err nineteen) × (after ≡ s))
  unfolding told_outcome
  carries h = (
    λ e fits. let told = carry_done s (refusal_none s e fits) in (outcome_tells r (Ok tt) (h.0 ∙ told.0), h.1 ∙ told.1),
    λ e short. let told = carry_refused s (refusal_roomless s e short) in (outcome_tells r (Err eighteen) (h.0 ∙ told.0), h.1 ∙ told.1),
    λ e. let told = carry_refused s (refusal_unsound s e) in (outcome_tells r (Err nineteen) (h.0 ∙ told.0), h.1 ∙ told.1),
  )

  -- the shelf as version 1; or 19 at 0, and the shelf as it was
  pub carries_back : CarriesBack s r after
      → (sound version_two s ≡ true → (r ≡ Ok tt) × (after ≡ carried_back s))
      × (sound version_two s ≡ false → (r ≡ Err nineteen) × (after ≡ s))
  unfolding told_outcome
  carries_back h = (
    λ e. let told = back_done s (back_none s e) in (outcome_tells r (Ok tt) (h.0 ∙ told.0), h.1 ∙ told.1),
    λ e. let told = back_refused s (back_unsound s e) in (outcome_tells r (Err nineteen) (h.0 ∙ told.0), h.1 ∙ told.1),
  )
