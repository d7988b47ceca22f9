-- The summary that an operation is lent, and the shelf that it leaves, all but its head: with the summary stored back, Put and Remove.
-- Assumes nothing.
use Rattle.std.specs.Prelude.{Ok, Err, Result}
use Prim.Native.Nat.{ℕ, ◌+◌, ◌≤◌, ◌<◌}
use mathlib.Core.Path.{◌≡◌, refl, sym, ap, ap₂, subst, ◌∙◌}
use mathlib.Core.Bool.{true, false}
use mathlib.Core.List.{List, [], ◌∷◌}
use mathlib.Core.Option.{none, some}
use native.Mathlib.Omega.{arith}
use lib.ListN.{length, take, drop}
use lib.Seq.{sets, length-sets}
use Rattle.lists.specs.Lists.{gather}
use Rattle.numbers.proofs.Stores.{part_before}
use Rattle.refusals.specs.declared.Refusal.{Refusal}
use Rattle.answers.specs.Answers.{given, Stored}
use Rattle.shelves.specs.declared.Summary.{Summary}
use Rattle.shelves.specs.Layout.{Layout, version_two, slot_count, below, map_of, held_figure, duplicates_of, is_occupied, base, pair_place, start_of, length_of, end_of}
use Rattle.shelves.specs.Soundness.{sound}
use Rattle.shelves.specs.Summary.{summary_of, put_new, put_copy, removed, map_and_held}
use Rattle.shelves.specs.Answers.{told_shelved, told_sums}
use Rattle.shelves.specs.Operations.{pair_of, lowest_free, put_refusal, with_text, with_copy, slot_refusal, pair_without, texts_without, without}
use Rattle.shelves.proofs.Answered.{nineteen, sums_refused, sums_given, put_refused}
use Rattle.shelves.proofs.Sound.{Sound, says_sound}
use Rattle.shelves.proofs.Held.{held_least}
use Rattle.shelf_contracts.specs.Promises.{Puts, Removes, Sums}
use Rattle.shelf_summary.specs.declared.Placed.{Placed}
use Rattle.shelf_summary.specs.declared.Placed.TheVariants as placed
use Rattle.shelf_summary.specs.Steps.{Heads, stored_back, shelved_of, after_put, PutFits, after_remove, RemoveFits}
use Rattle.shelf_summary.proofs.Backs.{back_same, back_copy, back_moved}
use Rattle.shelf.specs.Parts.{stowed, cleared, PutsText, TakesText, PutsLent, RemovesLent}
use Rattle.shelf.proofs.Spans.{removes_refused, removes_kept}

-- ---- what the summary says

module _ (s : List ℕ) (u : Summary) (h : Heads s u) where
  pub heads_map : u.map ≡ map_of s
  unfolding summary_of
  heads_map = ap (λ (v : Summary). v.map) h.0

  pub heads_held : u.held ≡ held_figure s
  unfolding summary_of
  heads_held = ap (λ (v : Summary). v.held) h.0

  pub heads_duplicates : u.duplicates ≡ duplicates_of s
  unfolding summary_of
  heads_duplicates = ap (λ (v : Summary). v.duplicates) h.0

  -- where the free bytes begin
  pub heads_end : (l : Layout) → 21 ≤ l.pairs → sound l s ≡ true → {a : ℕ} → a ≡ base l → a + u.held ≡ end_of l s
  unfolding end_of
  heads_end l sums sane e = omega (arith, e, heads_held, ((says_sound l s).0 sane).summed sums)

-- ---- with the summary stored back

module _ (l : Layout) (s : List ℕ) (u : Summary) (h : Heads s u) (sane : sound l s ≡ true) where
  abbrev was : Sound l s
  was = (says_sound l s).0 sane

  long : 21 ≤ length s
  long = omega (arith, was.least)

  -- a refused call: the summary is as it was, and the shelf stays
  stays : stored_back s (summary_of s) ≡ s
  stays = ap (stored_back s) (sym h.0) ∙ back_same s u h long

  pub refused_text : (input : List ℕ) {r : Refusal} → put_refusal l s input ≡ some r → PutsText l s input (Err r) s
  unfolding told_shelved shelved_of after_put PutFits
  refused_text input e = let d = put_refused l s input e in ((sym d.0, stays ∙ sym d.1), tt)

  pub refused_slot : (slot : ℕ) {r : Refusal} → slot_refusal l s slot ≡ some r → TakesText l s slot (Err r) s
  unfolding after_remove RemoveFits
  refused_slot slot e = let d = removes_refused l s slot e in ((d.0, stays ∙ d.1), tt)

  module _ (sums : 21 ≤ l.pairs) where
    -- a copy
    pub copied : stored_back s (put_copy (summary_of s)) ≡ with_copy l s
    copied = back_copy s u h long l sums

    -- texts and pairs are stored behind the summary
    untouched : (texts pairs : List ℕ) (a b : ℕ) → 21 ≤ a → 21 ≤ b → take 4 (drop 17 (sets (sets s a texts) b pairs)) ≡ take 4 (drop 17 s)
    untouched texts pairs a b p q = part_before pairs (sets s a texts) b 17 4 (omega arith) ∙ part_before texts s a 17 4 (omega arith)

    -- what is stored back where the duplicates stay
    backed : (texts pairs : List ℕ) (a b : ℕ) (v : Summary) → 21 ≤ a → 21 ≤ b → v.duplicates ≡ duplicates_of s
        → stored_back (sets (sets s a texts) b pairs) v ≡ sets (sets (sets s a texts) b pairs) 5 (map_and_held l v)
    backed texts pairs a b v p q e =
        back_moved s u h l sums (sets (sets s a texts) b pairs) v (omega (arith, long, length-sets (sets s a texts) b pairs, length-sets s a texts))
        (untouched texts pairs a b p q)
        (e ∙ sym (heads_duplicates s u h))

    -- a new text
    pub added : (form : List ℕ) {slot : ℕ} {after : List ℕ} → slot ≡ lowest_free l s → after ≡ stowed l s form
        → stored_back after (put_new (summary_of s) slot (length form)) ≡ with_text l s form
    unfolding stowed with_text put_new summary_of end_of pair_place
    added form {slot} e g =
        ap₂ (λ (t : List ℕ) (k : ℕ). stored_back t (put_new (summary_of s) k (length form))) g e
        ∙ backed form (pair_of (end_of l s) (length form)) (end_of l s) (pair_place l (lowest_free l s)) (put_new (summary_of s) (lowest_free l s) (length form))
        (omega arith) (omega arith) refl

    pub new_fits : (form : List ℕ) {slot : ℕ} → end_of l s + length form ≤ length s → (slot < slot_count) × (is_occupied s slot ≡ false)
        → PutFits (summary_of s) (Ok (placed.New slot (length form)))
    unfolding PutFits summary_of is_occupied end_of
    new_fits form room free = ((free.0, free.1), omega (arith, was.summed sums, was.most, room))

    -- a text taken out
    pub taken : (slot : ℕ) → slot < slot_count → is_occupied s slot ≡ true → slot_refusal l s slot ≡ none → {n : ℕ} → n ≡ length_of l s slot
        → {after : List ℕ} → after ≡ cleared l s slot → TakesText l s slot (Ok n) after
    unfolding cleared without removed summary_of after_remove RemoveFits is_occupied
    taken slot i o e {n} q g =
        let lies = (was.lie slot (i, o)).0 in
        let back =
        ap₂ (λ (t : List ℕ) (k : ℕ). stored_back t (removed (summary_of s) slot k)) g q
        ∙ backed (texts_without l s slot) (gather (pair_without l s slot) (below slot_count)) (start_of l s slot) l.pairs
        (removed (summary_of s) slot (length_of l s slot)) (omega arith) sums refl in
        (removes_kept l s slot e q back, ((i, o), omega (arith, q, held_least l s slot (i, o), was.summed sums)))

-- ---- the two sums

module _ (l : Layout) (s : List ℕ) where
  pub sums_unsound : sound l s ≡ false → Sums l s (Err nineteen)
  unfolding told_sums
  sums_unsound e = sym (sums_refused l s e)

  pub sums_sound : (u : Summary) → Heads s u → 21 ≤ l.pairs → sound l s ≡ true → Sums l s (Ok (record { held = u.held; duplicates = u.duplicates }))
  unfolding told_sums
  sums_sound u h room sane =
      ap₂ (λ (n d : ℕ). given (n ∷ d ∷ [])) (heads_held s u h ∙ ((says_sound l s).0 sane).summed room) (heads_duplicates s u h) ∙ sym (sums_given l s sane)

-- ---- the operations that are lent the summary

module _ (s : List ℕ) (u : Summary) (h : Heads s u) where
  -- what is done to the summary can be done to the one that is lent
  pub lent_fits : (r : Result Placed Refusal) → PutFits (summary_of s) r → PutFits u r
  lent_fits r f = subst (λ (w : Summary). PutFits w r) (sym h.0) f

  pub lent_takes : (slot : ℕ) (r : Stored) → RemoveFits (summary_of s) slot r → RemoveFits u slot r
  lent_takes slot r f = subst (λ (w : Summary). RemoveFits w slot r) (sym h.0) f

  -- and with it stored back they are Put and Remove
  pub lent_puts : (input : List ℕ) (r : Result Placed Refusal) (after : List ℕ) (v : Summary)
      → Puts version_two s input (shelved_of r) (stored_back after (after_put (summary_of s) r)) → v ≡ after_put u r → PutsLent s input r after v
  lent_puts input r after v p e =
      subst (λ (w : Summary). Puts version_two s input (shelved_of r) (stored_back after w)) (sym (e ∙ ap (λ (w : Summary). after_put w r) h.0)) p

  pub lent_removes : (slot : ℕ) (r : Stored) (after : List ℕ) (v : Summary)
      → Removes version_two s slot r (stored_back after (after_remove (summary_of s) slot r)) → v ≡ after_remove u slot r → RemovesLent s slot r after v
  lent_removes slot r after v p e =
      subst (λ (w : Summary). Removes version_two s slot r (stored_back after w)) (sym (e ∙ ap (λ (w : Summary). after_remove w slot r) h.0)) p
