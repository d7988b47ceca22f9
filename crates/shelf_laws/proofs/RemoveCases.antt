-- Remove refuses or takes a text out: there is no third case. And what Get hands back. Assumes nothing.
use Prim.Native.Nat.{ℕ, ◌≤◌}
use mathlib.Core.Path.{◌≡◌, sym, ap, ap₂, subst}
use mathlib.Core.Bool.{true, false, ◌&&◌}
use mathlib.Core.List.{List, [], ◌∷◌}
use mathlib.Core.Option.{some}
use mathlib.Core.Logic.{◌⊎◌, inl, inr, ⊎_elim}
use lib.Dec.{ltb}
use lib.ListN.{take, drop, get_or}
use borrow.Author.Tests.{ltb-true, lt-ltb}
use Rattle.lists.proofs.Texts.{decided, and_left, and_right, and_both}
use Rattle.refusals.specs.declared.Refusal.{Refusal}
use Rattle.answers.specs.Answers.{Answer, given, refused}
use Rattle.shelves.specs.Layout.{Layout, slot_count, is_occupied, Occupied, length_of, text_of}
use Rattle.shelves.specs.Soundness.{sound}
use Rattle.shelves.specs.Operations.{slot_refusal, got_offset, got_length, remove, without, remove_shelf}
use Rattle.shelves.proofs.Sound.{Sound, says_sound}
use Rattle.shelves.proofs.Answered.{slot_unsound, slot_free, slot_there, slot_refused, slot_given}
use Rattle.shelf_laws.specs.Shelf.{got}
use Rattle.shelves.proofs.Removed.{Removed, without_text}

module _ (l : Layout) (s : List ℕ) (slot : ℕ) where
  pub record Refusing : Type 0 where
    pub refusal : Refusal
    pub answer : remove l s slot ≡ refused refusal
    pub stays : remove_shelf l s slot ≡ s
    pub nothing : (got_offset l s slot ≡ 0) × (got_length l s slot ≡ 0)

  pub record Taking : Type 0 where
    pub was : Sound l s
    pub there : Occupied s slot
    pub answer : remove l s slot ≡ given (length_of l s slot ∷ [])
    pub stores : remove_shelf l s slot ≡ without l s slot
    pub takes : Removed l s slot (remove_shelf l s slot)
    pub text : got l s slot ≡ text_of l s slot

  abbrev pub Cases : Type 0
  Cases = Refusing ⊎ Taking

  refusing : (r : Refusal) → slot_refusal l s slot ≡ some r → Cases
  unfolding remove
  refusing r e =
      let d = slot_refused l s slot e in
      inl (record {
        refusal = r;
        answer = d.0;
        stays = d.3;
        nothing = (d.1, d.2);
      })

  module _ (head : 13 ≤ l.pairs) where
    taking : sound l s ≡ true → Occupied s slot → Cases
    unfolding remove text_of
    taking sane o =
        let there = and_both (ltb slot slot_count) (is_occupied s slot) (lt-ltb slot slot_count o.0) o.1 in
        let d = slot_given l s slot (slot_there l s slot sane there) in
        let was = (says_sound l s).0 sane in
        inr (record {
          was = was;
          there = o;
          answer = d.0;
          stores = d.3;
          takes = subst (Removed l s slot) (sym d.3) (without_text l head s slot was o);
          text = ap₂ (λ (w n : ℕ). take w (drop n s)) d.2 d.1;
        })

    for_sound : sound l s ≡ true → Cases
    for_sound sane =
        ⊎_elim
        (λ (e : (ltb slot slot_count && is_occupied s slot) ≡ true).
        taking sane (
          ltb-true slot slot_count (and_left (ltb slot slot_count) (is_occupied s slot) e),
          and_right (ltb slot slot_count) (is_occupied s slot) e,
        ))
        (λ (e : (ltb slot slot_count && is_occupied s slot) ≡ false). refusing _ (slot_free l s slot sane e))
        (decided (ltb slot slot_count && is_occupied s slot))

    pub remove_cases : Cases
    remove_cases =
        ⊎_elim for_sound (λ (e : sound l s ≡ false). refusing _ (slot_unsound l s slot e)) (decided (sound l s))

    -- Get hands back the text of an occupied slot of a sound shelf
    pub got_text : Sound l s → Occupied s slot → got l s slot ≡ text_of l s slot
    unfolding text_of
    got_text was o =
        let there = and_both (ltb slot slot_count) (is_occupied s slot) (lt-ltb slot slot_count o.0) o.1 in
        let d = slot_given l s slot (slot_there l s slot ((says_sound l s).1 was) there) in
        ap₂ (λ (w n : ℕ). take w (drop n s)) d.2 d.1

pub given_length : (n m : ℕ) → given (n ∷ []) ≡ given (m ∷ []) → n ≡ m
unfolding given
given_length n m e = ap (λ (a : Answer). get_or a.values 0 0) e
