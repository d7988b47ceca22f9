-- What each direction answers and leaves in the shelf, by what its tests say, in the order in which they are asked. Assumes nothing.
use Prim.Native.Nat.{ℕ, ◌+◌, ◌≤◌, ◌<◌}
use mathlib.Core.Path.{◌≡◌, ap, ◌∙◌}
use mathlib.Core.Bool.{true, false}
use mathlib.Core.List.{List, [], ◌∷◌}
use mathlib.Core.Option.{Option, none, some}
use lib.ListN.{length}
use borrow.Author.Tests.{lt-ltb, le-ltb}
use Rattle.lists.specs.Lists.{maybe}
use Rattle.refusals.specs.declared.Fault.TheVariants.{NoRoom}
use Rattle.refusals.specs.declared.Refusal.{Refusal}
use Rattle.refusals.specs.Refusals.{answering}
use Rattle.refusals.proofs.Stages.{one_place}
use Rattle.answers.specs.Answers.{given, refused}
use Rattle.operations.specs.Judge.{unless_refused}
use Rattle.shelves.specs.Layout.{version_one, version_two, end_of}
use Rattle.shelves.specs.Soundness.{sound}
use Rattle.shelves.proofs.Answered.{nineteen, unsound_answers, sound_answers}
use Rattle.carrying.specs.Carrying.{carried, no_room_for_sums, carry_refusal, carry, carry_shelf, carried_back, carry_back_refusal, carry_back, carry_back_shelf}

-- 18 at 8
abbrev pub eighteen : Refusal
eighteen = record { fault = NoRoom; place = 8 }

module _ (s : List ℕ) where
  -- ---- version 1 into version 2

  -- "19 if not sound in its version (place 0)": it comes first
  pub refusal_unsound : sound version_one s ≡ false → carry_refusal s ≡ some nineteen
  unfolding carry_refusal
  refusal_unsound e = unsound_answers version_one s (no_room_for_sums s ∷ []) e

  -- "then 18 if old to new finds fewer than 8 free bytes (place 8)"
  pub refusal_roomless : sound version_one s ≡ true → length s < end_of version_one s + 8 → carry_refusal s ≡ some eighteen
  unfolding carry_refusal no_room_for_sums
  refusal_roomless e h =
      sound_answers version_one s (no_room_for_sums s ∷ []) e ∙ one_place NoRoom 8 [] (lt-ltb (length s) (end_of version_one s + 8) h)

  pub refusal_none : sound version_one s ≡ true → end_of version_one s + 8 ≤ length s → carry_refusal s ≡ none
  unfolding carry_refusal no_room_for_sums answering
  refusal_none e h =
      sound_answers version_one s (no_room_for_sums s ∷ []) e ∙ one_place NoRoom 8 [] (le-ltb (length s) (end_of version_one s + 8) h)

  pub carry_refused : {r : Refusal} → carry_refusal s ≡ some r → (carry s ≡ refused r) × (carry_shelf s ≡ s)
  unfolding carry carry_shelf maybe unless_refused
  carry_refused e = (ap (maybe (given []) refused) e, ap (λ (o : Option Refusal). unless_refused o (carried s) s) e)

  pub carry_done : carry_refusal s ≡ none → (carry s ≡ given []) × (carry_shelf s ≡ carried s)
  unfolding carry carry_shelf maybe unless_refused
  carry_done e = (ap (maybe (given []) refused) e, ap (λ (o : Option Refusal). unless_refused o (carried s) s) e)

  -- ---- version 2 into version 1

  pub back_unsound : sound version_two s ≡ false → carry_back_refusal s ≡ some nineteen
  unfolding carry_back_refusal
  back_unsound e = unsound_answers version_two s [] e

  pub back_none : sound version_two s ≡ true → carry_back_refusal s ≡ none
  unfolding carry_back_refusal answering
  back_none e = sound_answers version_two s [] e

  pub back_refused : {r : Refusal} → carry_back_refusal s ≡ some r → (carry_back s ≡ refused r) × (carry_back_shelf s ≡ s)
  unfolding carry_back carry_back_shelf maybe unless_refused
  back_refused e = (ap (maybe (given []) refused) e, ap (λ (o : Option Refusal). unless_refused o (carried_back s) s) e)

  pub back_done : carry_back_refusal s ≡ none → (carry_back s ≡ given []) × (carry_back_shelf s ≡ carried_back s)
  unfolding carry_back carry_back_shelf maybe unless_refused
  back_done e = (ap (maybe (given []) refused) e, ap (λ (o : Option Refusal). unless_refused o (carried_back s) s) e)
