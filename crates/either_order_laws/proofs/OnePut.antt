-- What one Put of an accepted interchange does to a sound shelf that keeps its normal form or has room for it. Assumes nothing.
use Rattle.std.specs.Prelude.{if◌then◌else◌}
use Prim.Native.Nat.{ℕ, zero, suc, ◌+◌, ◌≤◌, min}
use mathlib.Core.Path.{◌≡◌, refl, sym, ap, ◌∙◌}
use mathlib.Core.Bool.{Bool, true, false, not, true≢false}
use mathlib.Core.List.{List, [], ◌∷◌}
use mathlib.Core.Option.{Option, none, some}
use mathlib.Core.Logic.{◌⊎◌, inl, inr, ⊎_elim, ◌↔◌}
use native.Mathlib.Omega.{arith}
use lib.Dec.{eqb}
use lib.ListN.{length, length-append}
use Rattle.lists.specs.Lists.{those, is_empty}
use Rattle.lists.proofs.Tests.{says_eq, decides}
use Rattle.stages.specs.Contents.{normal_form}
use Rattle.stages.specs.Stages.{refusal_of}
use Rattle.shelves.specs.Layout.{Layout, slot_count, below, is_occupied, Occupied, occupied, free, duplicates_of, text_of, held, end_of}
use Rattle.shelves.specs.Operations.{lowest_free, copy_of, put_shelf}
use Rattle.shelves.proofs.Sound.{Sound, says_sound}
use Rattle.shelves.proofs.Answered.{put_copy, put_new_lem}
use Rattle.shelves.proofs.Found.{copy_none}
use Rattle.shelves.proofs.Copied.{occupied_as_lem, slots_as, held_as_lem, was_occupied, text_as_lem}
use Rattle.own_form_laws.proofs.OwnForm.{form_normal}
use Rattle.shelf_laws.specs.Shelf.{Keeps}
use Rattle.shelf_laws.proofs.PutCases.{Copying, Storing}
use Rattle.shelf_laws.proofs.PutSound.{text_other}
use Rattle.shelf_laws.proofs.PutLaws.{keeps_sound, new_case, copy_case}
use Rattle.shelf_laws.proofs.Slots.{one_more}
use Rattle.either_order_laws.specs.EitherOrder.{Kept}

-- ---- free slots

length_below : (n : ℕ) → length (below n) ≡ n
unfolding below
length_below zero = refl
length_below (suc n) = let ih = length_below n in omega (arith, length-append (below n) (n ∷ []))

parted : (t : ℕ → Bool) (ks : List ℕ) → length (those (λ k. not (t k)) ks) + length (those t ks) ≡ length ks
unfolding those
parted t [] = refl
parted t (k ∷ ks) = step (t k) (parted t ks)
  where
    step : (b : Bool) → length (those (λ j. not (t j)) ks) + length (those t ks) ≡ length ks
        → length (if not b then k ∷ those (λ j. not (t j)) ks else those (λ j. not (t j)) ks) + length (if b then k ∷ those t ks else those t ks)
        ≡ suc (length ks)
    step true ih = omega arith
    step false ih = omega arith

-- each of the 64 slots is free or occupied
pub free_slots : (s : List ℕ) → length (free s) + length (occupied s) ≡ 64
unfolding free occupied
free_slots s = omega (arith, parted (is_occupied s) (below slot_count), length_below slot_count)

pub some_left : (ks : List ℕ) → 1 ≤ length ks → is_empty ks ≡ false
unfolding is_empty
some_left [] h = absurd (omega arith)
some_left (k ∷ ks) h = refl

-- ---- what the shelf says afterwards

module _ (l : Layout) (s form after : List ℕ) where
  -- the text was there: the duplicates figure alone rises
  pub record AsCopy : Type 0 where
    pub kept : Kept l s form
    pub slots : length (occupied after) ≡ length (occupied s)
    pub bytes : held l after ≡ held l s
    pub duplicates : duplicates_of after ≡ min (duplicates_of s + 1) 4294967295

  -- it was not: one slot more, and its bytes
  pub record AsNew : Type 0 where
    pub fresh : Kept l s form → ⊥
    pub slots : length (occupied after) ≡ length (occupied s) + 1
    pub bytes : held l after ≡ held l s + length form
    pub duplicates : duplicates_of after ≡ duplicates_of s

  -- either way it is kept then, with all that was kept and nothing else
  pub record Stepped : Type 0 where
    pub is : Sound l after
    pub long : length after ≡ length s
    pub texts : (text : List ℕ) → Kept l after text ↔ (Kept l s text ⊎ (text ≡ form))
    pub either : AsCopy ⊎ AsNew

  -- which of the two it was
  pub is_copy_lem : Stepped → Kept l s form → AsCopy
  is_copy_lem p k = ⊎_elim (λ (c : AsCopy). c) (λ (c : AsNew). absurd (c.fresh k)) p.either

  pub is_new_lem : Stepped → (Kept l s form → ⊥) → AsNew
  is_new_lem p u = ⊎_elim (λ (c : AsCopy). absurd (u c.kept)) (λ (c : AsNew). c) p.either

module _ (l : Layout) (sums : 21 ≤ l.pairs) (s input : List ℕ) where
  abbrev form : List ℕ
  form = normal_form input

  abbrev after : List ℕ
  after = put_shelf l s input

  head : 13 ≤ l.pairs
  head = omega arith

  -- a copy
  copied : Copying l s input → Stepped l s form after
  copied c = record {
    is = keeps_sound l head s input c.was;
    long = c.copies.long;
    texts = λ text. (before text, behind text);
    either = inl (record {
      kept = (c.slot, c.there, c.holds);
      slots = ap length (slots_as l head s after c.copies);
      bytes = held_as_lem l head s after c.copies;
      duplicates = c.copies.duplicates sums (omega (arith, c.was.least));
    });
  }
    where
      before : (text : List ℕ) → Kept l after text → Kept l s text ⊎ (text ≡ form)
      before text (k, o, e) =
          let p = was_occupied l head s after c.copies k o in
          inl (k, p, sym (text_as_lem l head s after c.copies c.was k p) ∙ e)

      stays : (text : List ℕ) → Kept l s text → Kept l after text
      stays text (k, o, e) =
          (k, (o.0, occupied_as_lem l head s after c.copies k ∙ o.1), text_as_lem l head s after c.copies c.was k o ∙ e)

      behind : (text : List ℕ) → Kept l s text ⊎ (text ≡ form) → Kept l after text
      behind text =
          ⊎_elim (stays text) (λ (e : text ≡ form). stays text (c.slot, c.there, c.holds ∙ sym e))

  -- a new text
  stored : Storing l s input → Stepped l s form after
  unfolding end_of
  stored c = record {
    is = keeps_sound l head s input c.was;
    long = c.adds.long;
    texts = λ text. (before text, behind text);
    either = inr (record {
      fresh = λ (k, o, e). c.fresh k o e;
      slots = one_more s after slot c.lowest.is_free.0 c.adds.occupied_other c.lowest.is_free.1 c.adds.occupied_this;
      bytes = omega (arith, c.adds.end);
      duplicates = c.adds.duplicates sums;
    });
  }
    where
      slot : ℕ
      slot = lowest_free l s

      other : (k : ℕ) → Occupied s k → k ≡ slot → ⊥
      other k o e = true≢false (sym o.1 ∙ ap (is_occupied s) e ∙ c.lowest.is_free.1)

      text_stays : (k : ℕ) → Occupied s k → text_of l after k ≡ text_of l s k
      text_stays k o =
          text_other l s form slot after c.lowest.is_free c.was c.room c.adds (form_normal input c.accepted) c.fresh k o
          (other k o)

      before : (text : List ℕ) → Kept l after text → Kept l s text ⊎ (text ≡ form)
      before text (k, o, e) =
          ⊎_elim
          (λ (q : k ≡ slot). inr (sym e ∙ ap (text_of l after) q ∙ c.adds.text_this))
          (λ (d : k ≡ slot → ⊥).
          let p : Occupied s k = (o.0, sym (c.adds.occupied_other k o.0 d) ∙ o.1) in
          inl (k, p, sym (text_stays k p) ∙ e))
          (decides (eqb k slot) (says_eq k slot))

      behind : (text : List ℕ) → Kept l s text ⊎ (text ≡ form) → Kept l after text
      behind text =
          ⊎_elim
          (λ (k, o, e). (k, (o.0, c.adds.occupied_other k o.0 (other k o) ∙ o.1), text_stays k o ∙ e))
          (λ (e : text ≡ form). (slot, (c.lowest.is_free.0, c.adds.occupied_this), c.adds.text_this ∙ sym e))

  -- there is no third case, where there is room or where none is needed; and a slot is answered
  pub one_put : Sound l s → refusal_of input ≡ none
      → ((Kept l s form → ⊥) → (1 ≤ length (free s)) × (end_of l s + length form ≤ length s))
      → Stepped l s form after × ((slot : ℕ) × Keeps l s input slot)
  one_put was accepted room = step (copy_of l s form) refl
    where
      step : (o : Option ℕ) → copy_of l s form ≡ o → Stepped l s form after × ((slot : ℕ) × Keeps l s input slot)
      step none e =
          let (slots, bytes) = room (λ (k, o, h). copy_none l s form e k o h) in
          let d = put_new_lem l s input ((says_sound l s).1 was) accepted e (some_left (free s) slots) bytes in
          (stored (new_case l head s input (lowest_free l s) d.0).0, (lowest_free l s, inl d.0))
      step (some k) e =
          let d = put_copy l s input ((says_sound l s).1 was) accepted e in
          (copied (copy_case l head s input k d.0).0, (k, inr d.0))
