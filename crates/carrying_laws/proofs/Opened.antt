-- Where each direction is not refused, the shelf is sound in the version that it asks for, and has the eight free bytes. Assumes nothing.
use Prim.Native.Nat.{ℕ, ◌+◌, ◌-◌, ◌≤◌, ◌<◌}
use mathlib.Core.Path.{◌≡◌, sym, ap, ◌∙◌}
use mathlib.Core.Bool.{true, false}
use mathlib.Core.List.{List, []}
use mathlib.Core.Logic.{⊎_elim, ◌↔◌}
use native.Mathlib.Omega.{arith}
use lib.Dec.{ltb}
use lib.ListN.{length}
use borrow.Author.Tests.{ltb-true, ltb-false}
use Rattle.lists.proofs.Texts.{decided}
use Rattle.refusals.specs.declared.Fault.TheVariants.{NoRoom, UnsoundShelf}
use Rattle.refusals.specs.declared.Refusal.{Refusal}
use Rattle.answers.specs.Answers.{given, refused}
use Rattle.contracts.proofs.Told.{given_refused, refused_tells}
use Rattle.shelves.specs.Layout.{version_one, version_two, end_of}
use Rattle.shelves.specs.Soundness.{sound}
use Rattle.shelves.proofs.Answered.{nineteen}
use Rattle.shelf_laws.specs.Shelf.{refused_at, Sound}
use Rattle.carrying.specs.Carrying.{carry, carry_shelf, carry_back, carry_back_shelf}
use Rattle.carrying.proofs.Answered.{eighteen, refusal_unsound, refusal_roomless, refusal_none, carry_refused, carry_done, back_unsound, back_none, back_refused, back_done}

-- 18 is not 19
eighteen_not_nineteen : refused eighteen ≡ refused nineteen → ⊥
eighteen_not_nineteen e = omega (arith, ap (λ (r : Refusal). r.place) (refused_tells eighteen nineteen e))

module _ (s : List ℕ) where
  -- ---- version 1 into version 2

  unsound_carry : sound version_one s ≡ false → (carry s ≡ refused nineteen) × (carry_shelf s ≡ s)
  unsound_carry e = carry_refused s (refusal_unsound s e)

  roomless_carry : sound version_one s ≡ true → length s < end_of version_one s + 8 → (carry s ≡ refused eighteen) × (carry_shelf s ≡ s)
  roomless_carry e h = carry_refused s (refusal_roomless s e h)

  pub roomy_carry : sound version_one s ≡ true → end_of version_one s + 8 ≤ length s → carry s ≡ given []
  roomy_carry e h = (carry_done s (refusal_none s e h)).0

  -- what is not refused
  pub record Open : Type 0 where
    pub sane : Sound version_one s
    pub room : end_of version_one s + 8 ≤ length s

  pub carry_open : carry s ≡ given [] → Open
  carry_open e =
      ⊎_elim
      (λ (q : sound version_one s ≡ true).
      ⊎_elim
      (λ (h : ltb (length s) (end_of version_one s + 8) ≡ true).
      absurd (given_refused [] eighteen (sym e ∙ (roomless_carry q (ltb-true (length s) (end_of version_one s + 8) h)).0)))
      (λ (h : ltb (length s) (end_of version_one s + 8) ≡ false). record { sane = q; room = ltb-false (length s) (end_of version_one s + 8) h })
      (decided (ltb (length s) (end_of version_one s + 8))))
      (λ (q : sound version_one s ≡ false). absurd (given_refused [] nineteen (sym e ∙ (unsound_carry q).0)))
      (decided (sound version_one s))

  pub nineteen_carry : (carry s ≡ refused_at UnsoundShelf 0) ↔ (Sound version_one s → ⊥)
  nineteen_carry = (
    λ e q.
        ⊎_elim
        (λ (h : ltb (length s) (end_of version_one s + 8) ≡ true).
        eighteen_not_nineteen (sym (roomless_carry q (ltb-true (length s) (end_of version_one s + 8) h)).0 ∙ e))
        (λ (h : ltb (length s) (end_of version_one s + 8) ≡ false).
        given_refused [] nineteen (sym (roomy_carry q (ltb-false (length s) (end_of version_one s + 8) h)) ∙ e))
        (decided (ltb (length s) (end_of version_one s + 8))),
    λ n.
        ⊎_elim (λ (q : sound version_one s ≡ true). absurd (n q)) (λ (q : sound version_one s ≡ false). (unsound_carry q).0)
        (decided (sound version_one s)),
  )

  pub eighteen_carry : Sound version_one s → (carry s ≡ refused_at NoRoom 8) ↔ (length s - end_of version_one s < 8)
  eighteen_carry q = (
    λ e.
        ⊎_elim
        (λ (h : ltb (length s) (end_of version_one s + 8) ≡ true). let k = ltb-true (length s) (end_of version_one s + 8) h in omega arith)
        (λ (h : ltb (length s) (end_of version_one s + 8) ≡ false).
        absurd (given_refused [] eighteen (sym (roomy_carry q (ltb-false (length s) (end_of version_one s + 8) h)) ∙ e)))
        (decided (ltb (length s) (end_of version_one s + 8))),
    λ h. (roomless_carry q (omega arith)).0,
  )

  pub carry_keeps : (r : Refusal) → carry s ≡ refused r → carry_shelf s ≡ s
  carry_keeps r e =
      ⊎_elim
      (λ (q : sound version_one s ≡ true).
      ⊎_elim
      (λ (h : ltb (length s) (end_of version_one s + 8) ≡ true). (roomless_carry q (ltb-true (length s) (end_of version_one s + 8) h)).1)
      (λ (h : ltb (length s) (end_of version_one s + 8) ≡ false).
      absurd (given_refused [] r (sym (roomy_carry q (ltb-false (length s) (end_of version_one s + 8) h)) ∙ e)))
      (decided (ltb (length s) (end_of version_one s + 8))))
      (λ (q : sound version_one s ≡ false). (unsound_carry q).1)
      (decided (sound version_one s))

  -- ---- version 2 into version 1

  unsound_back : sound version_two s ≡ false → (carry_back s ≡ refused nineteen) × (carry_back_shelf s ≡ s)
  unsound_back e = back_refused s (back_unsound s e)

  pub sound_back : sound version_two s ≡ true → carry_back s ≡ given []
  sound_back e = (back_done s (back_none s e)).0

  pub back_open : carry_back s ≡ given [] → Sound version_two s
  back_open e =
      ⊎_elim (λ (q : sound version_two s ≡ true). q)
      (λ (q : sound version_two s ≡ false). absurd (given_refused [] nineteen (sym e ∙ (unsound_back q).0)))
      (decided (sound version_two s))

  pub nineteen_back : (carry_back s ≡ refused_at UnsoundShelf 0) ↔ (Sound version_two s → ⊥)
  nineteen_back = (
    λ e q. given_refused [] nineteen (sym (sound_back q) ∙ e),
    λ n.
        ⊎_elim (λ (q : sound version_two s ≡ true). absurd (n q)) (λ (q : sound version_two s ≡ false). (unsound_back q).0)
        (decided (sound version_two s)),
  )

  pub back_keeps : (r : Refusal) → carry_back s ≡ refused r → carry_back_shelf s ≡ s
  back_keeps r e =
      ⊎_elim (λ (q : sound version_two s ≡ true). absurd (given_refused [] r (sym (sound_back q) ∙ e)))
      (λ (q : sound version_two s ≡ false). (unsound_back q).1)
      (decided (sound version_two s))
