-- A text put behind the last one, into a free slot: what the shelf then says of each slot. Assumes nothing.
use Prim.Native.Nat.{ℕ, ◌+◌, ◌%◌, ◌^◌, ◌≤◌, ◌<◌}
use mathlib.Core.Path.{◌≡◌, refl, sym, ap, ap₂, ◌∙◌}
use mathlib.Core.Bool.{true}
use mathlib.Core.List.{List}
use mathlib.Core.Logic.{inl, inr, ⊎_elim}
use native.Mathlib.Nat.{add-zero}
use native.Mathlib.Omega.{arith}
use lib.ListN.{length, take, drop}
use Rattle.numbers.specs.Numbers.{number_at}
use Rattle.numbers.proofs.Stores.{rest_stays, part_before, part_stored}
use Rattle.shelves.specs.declared.Summary.{Summary}
use Rattle.shelves.specs.Layout.{Layout, most_shelf, slot_count, map_of, held_figure, duplicates_of, is_occupied, Free, base, pair_place, start_of, length_of, text_of, end_of}
use Rattle.shelves.specs.Operations.{pair_of, lowest_free, with_text}
use Rattle.shelves.specs.Summary.{summary_of, put_new}
use Rattle.shelves.proofs.Bits.{bit_set_lem, bit_set_other}
use Rattle.shelves.proofs.Sound.{in_order}
use Rattle.shelves.proofs.Stored.{pair_length, pair_start, pair_size, stored, Placed, stored_length, stored_front, stored_occupied, stored_held, stored_duplicates, stored_rest, stored_within, stored_outside}
use Rattle.shelves.proofs.Held.{held_more}

-- What the shelf says once the text is in the slot.
pub record Added (l : Layout) (s form : List ℕ) (slot : ℕ) (after : List ℕ) : Type 0 where
  pub long : length after ≡ length s
  pub front : take 5 after ≡ take 5 s
  pub occupied_this : is_occupied after slot ≡ true
  pub occupied_other : (k : ℕ) → k < slot_count → (k ≡ slot → ⊥) → is_occupied after k ≡ is_occupied s k
  pub start_this : start_of l after slot ≡ end_of l s
  pub start_other : (k : ℕ) → k < slot_count → (k ≡ slot → ⊥) → start_of l after k ≡ start_of l s k
  pub length_this : length_of l after slot ≡ length form
  pub length_other : (k : ℕ) → k < slot_count → (k ≡ slot → ⊥) → length_of l after k ≡ length_of l s k
  pub text_this : text_of l after slot ≡ form
  pub before : (n w : ℕ) → base l ≤ n → n + w ≤ end_of l s → take w (drop n after) ≡ take w (drop n s)
  pub rest : drop (end_of l s + length form) after ≡ drop (end_of l s + length form) s
  pub end : end_of l after ≡ end_of l s + length form
  pub held : 21 ≤ l.pairs → held_figure after ≡ (held_figure s + length form) % 2 ^ 32
  pub duplicates : 21 ≤ l.pairs → duplicates_of after ≡ duplicates_of s

module _ (l : Layout) (head : 13 ≤ l.pairs) (s form : List ℕ) (slot : ℕ) (free : Free s slot)
    (room : end_of l s + length form ≤ length s) (most : length s ≤ most_shelf) where
  abbrev pair : List ℕ
  pair = pair_of (end_of l s) (length form)

  abbrev u : Summary
  u = put_new (summary_of s) slot (length form)

  abbrev after : List ℕ
  after = stored l s form pair (end_of l s) (pair_place l slot) u

  end_from : base l ≤ end_of l s
  unfolding end_of
  end_from = omega arith

  placed : Placed l s form pair (end_of l s) (pair_place l slot) u
  unfolding pair_place
  placed = record {
    head = head;
    texts_from = end_from;
    texts_to = room;
    pairs_from = omega arith;
    pairs_to = omega (arith, pair_length (end_of l s) (length form), free.0);
  }

  -- a pair of another slot stands beside that of this one
  beside : (k n : ℕ) → k < slot_count → (k ≡ slot → ⊥) → n + 4 ≤ 8
      → number_at after (pair_place l k + n) 4 ≡ number_at s (pair_place l k + n) 4
  unfolding pair_place
  beside k n i d h =
      let size = pair_length (end_of l s) (length form) in
      stored_outside l s form pair (end_of l s) (pair_place l slot) u placed (pair_place l k + n) 4 (omega arith) (omega arith)
      (⊎_elim (λ (q : k < slot). inl (omega arith)) (λ (q : slot < k). inr (omega arith)) (in_order k slot d))

  here : (n : ℕ) → n + 4 ≤ 8 → number_at after (pair_place l slot + n) 4 ≡ number_at pair n 4
  here n h =
      stored_within l s form pair (end_of l s) (pair_place l slot) u placed n 4 (omega (arith, pair_length (end_of l s) (length form)))

  occupied_this_lem : is_occupied after slot ≡ true
  unfolding is_occupied put_new summary_of
  occupied_this_lem = stored_occupied l s form pair (end_of l s) (pair_place l slot) u placed slot free.0 ∙ bit_set_lem slot (map_of s) free.1

  occupied_other_lem : (k : ℕ) → k < slot_count → (k ≡ slot → ⊥) → is_occupied after k ≡ is_occupied s k
  unfolding is_occupied put_new summary_of
  occupied_other_lem k i d =
      stored_occupied l s form pair (end_of l s) (pair_place l slot) u placed k i ∙ bit_set_other slot k (map_of s) free.1 d

  start_this_lem : start_of l after slot ≡ end_of l s
  unfolding start_of
  start_this_lem =
      ap (λ (n : ℕ). number_at after n 4) (sym (add-zero (pair_place l slot)))
      ∙ here 0 (omega arith)
      ∙ pair_start (end_of l s) (length form) (omega arith)

  start_other_lem : (k : ℕ) → k < slot_count → (k ≡ slot → ⊥) → start_of l after k ≡ start_of l s k
  unfolding start_of
  start_other_lem k i d =
      ap (λ (n : ℕ). number_at after n 4) (sym (add-zero (pair_place l k)))
      ∙ beside k 0 i d (omega arith)
      ∙ ap (λ (n : ℕ). number_at s n 4) (add-zero (pair_place l k))

  length_this_lem : length_of l after slot ≡ length form
  unfolding length_of
  length_this_lem = here 4 (omega arith) ∙ pair_size (end_of l s) (length form) (omega arith)

  length_other_lem : (k : ℕ) → k < slot_count → (k ≡ slot → ⊥) → length_of l after k ≡ length_of l s k
  unfolding length_of
  length_other_lem k i d = beside k 4 i d (omega arith)

  text_this_lem : text_of l after slot ≡ form
  unfolding text_of
  text_this_lem =
      ap₂ (λ (w n : ℕ). take w (drop n after)) length_this_lem start_this_lem
      ∙ ap (take (length form)) (stored_rest l s form pair (end_of l s) (pair_place l slot) u placed (end_of l s) end_from)
      ∙ part_stored form s (end_of l s) (length form) room refl

  before_end : (n w : ℕ) → base l ≤ n → n + w ≤ end_of l s → take w (drop n after) ≡ take w (drop n s)
  before_end n w h k =
      ap (take w) (stored_rest l s form pair (end_of l s) (pair_place l slot) u placed n h) ∙ part_before form s (end_of l s) n w k

  rest_same : drop (end_of l s + length form) after ≡ drop (end_of l s + length form) s
  rest_same =
      stored_rest l s form pair (end_of l s) (pair_place l slot) u placed (end_of l s + length form) (let h = end_from in omega arith)
      ∙ rest_stays form s (end_of l s) (end_of l s + length form) (omega arith)

  end_moved : end_of l after ≡ end_of l s + length form
  unfolding end_of
  end_moved =
      let more = held_more l s after slot (record { occupied_as = occupied_other_lem; length_as = length_other_lem }) free (free.0, occupied_this_lem) in
      omega (arith, more, length_this_lem)

  pub added_at : Added l s form slot after
  unfolding put_new summary_of
  added_at = record {
    long = stored_length l s form pair (end_of l s) (pair_place l slot) u;
    front = stored_front l s form pair (end_of l s) (pair_place l slot) u placed;
    occupied_this = occupied_this_lem;
    occupied_other = occupied_other_lem;
    start_this = start_this_lem;
    start_other = start_other_lem;
    length_this = length_this_lem;
    length_other = length_other_lem;
    text_this = text_this_lem;
    before = before_end;
    rest = rest_same;
    end = end_moved;
    held = stored_held l s form pair (end_of l s) (pair_place l slot) u placed;
    duplicates = stored_duplicates l s form pair (end_of l s) (pair_place l slot) u placed;
  }

-- Put does so at the lowest free slot.
pub with_text_lem : (l : Layout) → 13 ≤ l.pairs → (s form : List ℕ) → Free s (lowest_free l s) → end_of l s + length form ≤ length s
    → length s ≤ most_shelf → Added l s form (lowest_free l s) (with_text l s form)
unfolding with_text
with_text_lem l head s form free room most = added_at l head s form (lowest_free l s) free room most
