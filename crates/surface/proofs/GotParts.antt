-- The part of a shelf that Get hands back, from what its companion answered. Assumes nothing.
use Rattle.std.specs.Prelude.{Ok, Err}
use Prim.Native.Nat.{ℕ, ◌≤◌, ◌<◌}
use mathlib.Core.Path.{◌≡◌, sym, ap, ap₂, subst, ◌∙◌}
use mathlib.Core.List.{List, [], ◌∷◌}
use mathlib.Core.Option.{none, some}
use lib.ListN.{length, get_or}
use Rattle.refusals.specs.declared.Refusal.{Refusal}
use Rattle.answers.specs.Answers.{Answer, given, refused, told_stored, Stored}
use Rattle.contracts.proofs.Told.{given_is, refused_is}
use Rattle.shelves.specs.Layout as shelf
use Rattle.shelves.specs.Layout.{version_two, base, start_of, length_of}
use Rattle.shelves.specs.Operations.{slot_refusal, length_answer, got_offset, got_length}
use Rattle.shelves.proofs.Answered.{slot_given, slot_refused}
use Rattle.shelf_contracts.specs.Promises.{Measures}
use Rattle.shelf_layout.specs.declared.Layout.{Layout}
use Rattle.shelf_layout.specs.Laid.{laid}
use Rattle.shelf.proofs.Refusing.{passed_range}
use Rattle.surface.specs.OfShelf.{got_of}

module _ (s : List ℕ) (slot : ℕ) {answer : Stored} where
  -- nothing refuses it, where a length was told, and this is the length
  told_length : {n : ℕ} → Measures version_two s slot answer → answer ≡ Ok n
      → (slot_refusal version_two s slot ≡ none) × (n ≡ length_of version_two s slot)
  unfolding told_stored length_answer
  told_length {n} e d =
      let h = given_is (length_of version_two s slot ∷ []) (n ∷ []) (slot_refusal version_two s slot) (sym (ap told_stored d) ∙ e) in
      (h.0, ap (λ (l : List ℕ). get_or l 0 0) h.1)

  -- its pair lies in the shelf
  pub told_range : {l : Layout} {n : ℕ} → laid l ≡ version_two → Measures version_two s slot answer → answer ≡ Ok n
      → (base (laid l) ≤ length s) × (slot < 64)
  told_range {l} v e d =
      let h = passed_range version_two s slot (told_length e d).0 in
      (subst (λ (m : shelf.Layout). base m ≤ length s) (sym v) h.0, h.1)

  pub told_part : {l : Layout} {a n : ℕ} → laid l ≡ version_two → a ≡ start_of (laid l) s slot → Measures version_two s slot answer → answer ≡ Ok n
      → got_of (given (n ∷ [])) a n ≡ got_of (length_answer version_two s slot) (got_offset version_two s slot) (got_length version_two s slot)
  told_part {l} {a} {n} v p e d =
      let h = told_length e d in
      let g = slot_given version_two s slot h.0 in
      ap₂ (λ (i k : ℕ). got_of (given (k ∷ [])) i k) (p ∙ ap (λ (m : shelf.Layout). start_of m s slot) v ∙ sym g.1) (h.1 ∙ sym g.2)
      ∙ ap (λ (x : Answer). got_of x (got_offset version_two s slot) (got_length version_two s slot)) (ap (λ (k : ℕ). given (k ∷ [])) g.2 ∙ sym g.0)

  pub told_refused : {r : Refusal} → Measures version_two s slot answer → answer ≡ Err r
      → got_of (refused r) 0 0 ≡ got_of (length_answer version_two s slot) (got_offset version_two s slot) (got_length version_two s slot)
  unfolding told_stored length_answer
  told_refused {r} e d =
      let h = refused_is (length_of version_two s slot ∷ []) r (slot_refusal version_two s slot) (sym (ap told_stored d) ∙ e) in
      let g = slot_refused version_two s slot h in
      sym (ap (λ (x : Answer). got_of x (got_offset version_two s slot) (got_length version_two s slot)) g.0 ∙ ap₂ (got_of (refused r)) g.1 g.2)
