-- What each direction answers, from what was found. Assumes nothing.
use Rattle.std.specs.Prelude.{Ok}
use Prim.Native.Nat.{ℕ, ◌+◌, ◌≤◌, ◌<◌}
use mathlib.Core.Path.{◌≡◌, sym, ap, ◌∙◌}
use mathlib.Core.Bool.{true, false}
use mathlib.Core.List.{List}
use lib.ListN.{length}
use Rattle.refusals.specs.declared.Fault.TheVariants.{UnsoundShelf, NoRoom}
use Rattle.refusals.specs.Refusals.{failed_at, Outcome}
use Rattle.shelves.specs.Layout.{version_one, version_two, end_of}
use Rattle.shelves.specs.Soundness.{sound}
use Rattle.shelves.specs.Answers.{told_outcome}
use Rattle.carrying.specs.Carrying.{carried, carried_back}
use Rattle.carrying.specs.Promises.{Carries, CarriesBack}
use Rattle.carrying.proofs.Answered.{refusal_unsound, refusal_roomless, refusal_none, carry_refused, carry_done, back_unsound, back_none, back_refused, back_done}

module _ (s : List ℕ) {r : Outcome} where
  pub carries-unsound : r ≡ failed_at UnsoundShelf 0 → sound version_one s ≡ false → Carries s r s
  unfolding told_outcome
  carries-unsound e h = let d = carry_refused s (refusal_unsound s h) in (ap told_outcome e ∙ sym d.0, sym d.1)

  pub carries-roomless : r ≡ failed_at NoRoom 8 → sound version_one s ≡ true → length s < end_of version_one s + 8 → Carries s r s
  unfolding told_outcome
  carries-roomless e h k = let d = carry_refused s (refusal_roomless s h k) in (ap told_outcome e ∙ sym d.0, sym d.1)

  pub back-unsounded : r ≡ failed_at UnsoundShelf 0 → sound version_two s ≡ false → CarriesBack s r s
  unfolding told_outcome
  back-unsounded e h = let d = back_refused s (back_unsound s h) in (ap told_outcome e ∙ sym d.0, sym d.1)

module _ (s : List ℕ) {after : List ℕ} where
  pub carries-done : sound version_one s ≡ true → end_of version_one s + 8 ≤ length s → after ≡ carried s → Carries s (Ok tt) after
  unfolding told_outcome
  carries-done h k e = let d = carry_done s (refusal_none s h k) in (sym d.0, e ∙ sym d.1)

  pub back-carried : sound version_two s ≡ true → after ≡ carried_back s → CarriesBack s (Ok tt) after
  unfolding told_outcome
  back-carried h e = let d = back_done s (back_none s h) in (sym d.0, e ∙ sym d.1)
