-- A text taken out of its slot, the later ones moved down: what the shelf then says of each slot. Assumes nothing.
use Rattle.std.specs.Prelude.{if◌then◌else◌}
use Prim.Native.Nat.{ℕ, ◌+◌, ◌-◌, ◌*◌, ◌%◌, ◌^◌, ◌≤◌, ◌<◌}
use mathlib.Core.Path.{◌≡◌, refl, sym, ap, ◌∙◌}
use mathlib.Core.Bool.{Bool, true, false}
use mathlib.Core.List.{List, ◌++◌, append_assoc}
use mathlib.Core.Logic.{⊎_elim}
use native.Mathlib.Omega.{arith}
use lib.Dec.{eqb, ltb}
use lib.ListN.{length, take, drop, replicate, length-append, length-drop, length-replicate}
use lib.Seq.{sets, take-take, take-append-le, drop-append-le, drop-drop, drop_at, length-take-le}
use borrow.Author.Tests.{eq-eqb, ne_eqb, lt-ltb, le-ltb, ltb-true, ltb-false}
use Rattle.lists.specs.Lists.{all, gather}
use Rattle.lists.proofs.Texts.{all_append, and_both, decided}
use Rattle.numbers.specs.Numbers.{number_at}
use Rattle.numbers.proofs.Stores.{part_cut, part_before, part_within, from_stored}
use Rattle.shelves.specs.declared.Summary.{Summary}
use Rattle.shelves.specs.Layout.{Layout, slot_count, below, map_of, held_figure, duplicates_of, is_occupied, Occupied, base, pair_place, start_of, length_of, end_of}
use Rattle.shelves.specs.Operations.{pair_of, pair_without, texts_without, without}
use Rattle.shelves.specs.Summary.{summary_of, removed}
use Rattle.shelves.proofs.Bits.{bit_clear, bit_clear_other}
use Rattle.shelves.proofs.Sound.{Sound}
use Rattle.shelves.proofs.Zeros.{all_zeros}
use Rattle.shelves.proofs.Stored.{pair_length, pair_start, pair_size, stored, Placed, stored_length, stored_front, stored_occupied, stored_held, stored_duplicates, stored_rest, stored_within}
use Rattle.shelves.proofs.Gathered.{gathered_length, gathered_number}
use Rattle.shelves.proofs.Held.{held_less}

-- What the shelf says once the slot's text is gone.
pub record Removed (l : Layout) (s : List ℕ) (slot : ℕ) (after : List ℕ) : Type 0 where
  pub long : length after ≡ length s
  pub front : take 5 after ≡ take 5 s
  pub free_this : is_occupied after slot ≡ false
  pub occupied_other : (k : ℕ) → k < slot_count → (k ≡ slot → ⊥) → is_occupied after k ≡ is_occupied s k
  pub blank_this : (start_of l after slot ≡ 0) × (length_of l after slot ≡ 0)
  pub start_later : (k : ℕ) → k < slot_count → (k ≡ slot → ⊥) → start_of l s slot < start_of l s k
      → start_of l after k ≡ start_of l s k - length_of l s slot
  pub start_earlier : (k : ℕ) → k < slot_count → (k ≡ slot → ⊥) → start_of l s k ≤ start_of l s slot → start_of l after k ≡ start_of l s k
  pub length_other : (k : ℕ) → k < slot_count → (k ≡ slot → ⊥) → length_of l after k ≡ length_of l s k
  pub before : (n w : ℕ) → base l ≤ n → n + w ≤ start_of l s slot → take w (drop n after) ≡ take w (drop n s)
  pub moved : (n w : ℕ) → start_of l s slot + length_of l s slot ≤ n → n + w ≤ end_of l s
      → take w (drop (n - length_of l s slot) after) ≡ take w (drop n s)
  pub end : end_of l after + length_of l s slot ≡ end_of l s
  pub zero : all (eqb 0) (drop (end_of l after) after) ≡ true
  pub held : 21 ≤ l.pairs → held_figure after ≡ (held_figure s - length_of l s slot) % 2 ^ 32
  pub duplicates : 21 ≤ l.pairs → duplicates_of after ≡ duplicates_of s

-- a part of a front is a part of the whole
part_front : (n w m : ℕ) (xs : List ℕ) → n + w ≤ m → take w (drop n (take m xs)) ≡ take w (drop n xs)
part_front n w m xs h = part_cut n w (take m xs) ∙ ap (drop n) (take-take (n + w) m xs h) ∙ sym (part_cut n w xs)

module _ (l : Layout) (head : 13 ≤ l.pairs) (s : List ℕ) (slot : ℕ) (was : Sound l s) (o : Occupied s slot) where
  abbrev st : ℕ
  st = start_of l s slot

  abbrev ln : ℕ
  ln = length_of l s slot

  abbrev en : ℕ
  en = end_of l s

  abbrev later : List ℕ
  later = take (en - (st + ln)) (drop (st + ln) s)

  abbrev texts : List ℕ
  texts = later ++ replicate ln 0

  abbrev pairs : List ℕ
  pairs = gather (pair_without l s slot) (below slot_count)

  abbrev u : Summary
  u = removed (summary_of s) slot ln

  abbrev after : List ℕ
  after = stored l s texts pairs st l.pairs u

  lies_from : base l ≤ st
  lies_from = (was.lie slot o).0

  lies_to : st + ln ≤ en
  lies_to = (was.lie slot o).1

  later_length : length later ≡ en - (st + ln)
  later_length = length-take-le (en - (st + ln)) (drop (st + ln) s) (omega (arith, length-drop (st + ln) s, was.room))

  texts_length : st + length texts ≡ en
  texts_length = omega (arith, length-append later (replicate ln 0), length-replicate {A = ℕ} ln 0, later_length, lies_to)

  -- ---- the pairs

  pair_eight : (k : ℕ) → length (pair_without l s slot k) ≡ 8
  unfolding pair_without
  pair_eight k = step (eqb k slot) (ltb st (start_of l s k))
    where
      step : (a b : Bool)
          → length (if a then pair_of 0 0 else (if b then pair_of (start_of l s k - ln) (length_of l s k) else pair_of (start_of l s k) (length_of l s k))) ≡ 8
      step true b = pair_length 0 0
      step false true = pair_length (start_of l s k - ln) (length_of l s k)
      step false false = pair_length (start_of l s k) (length_of l s k)

  pair_this : pair_without l s slot slot ≡ pair_of 0 0
  unfolding pair_without
  pair_this = rw (eq-eqb slot slot refl)

  pair_later : (k : ℕ) → (k ≡ slot → ⊥) → st < start_of l s k → pair_without l s slot k ≡ pair_of (start_of l s k - ln) (length_of l s k)
  unfolding pair_without
  pair_later k d h = rw (ne_eqb k slot d, lt-ltb st (start_of l s k) h)

  pair_earlier : (k : ℕ) → (k ≡ slot → ⊥) → start_of l s k ≤ st → pair_without l s slot k ≡ pair_of (start_of l s k) (length_of l s k)
  unfolding pair_without
  pair_earlier k d h = rw (ne_eqb k slot d, le-ltb st (start_of l s k) h)

  placed : Placed l s texts pairs st l.pairs u
  placed = record {
    head = head;
    texts_from = lies_from;
    texts_to = omega (arith, texts_length, was.room);
    pairs_from = omega arith;
    pairs_to = omega (arith, gathered_length (pair_without l s slot) pair_eight slot_count);
  }

  -- each pair is read where it stands
  read : (k i : ℕ) → k < slot_count → i + 4 ≤ 8 → number_at after (l.pairs + (k * 8 + i)) 4 ≡ number_at (pair_without l s slot k) i 4
  read k i h j =
      stored_within l s texts pairs st l.pairs u placed (k * 8 + i) 4
      (omega (arith, gathered_length (pair_without l s slot) pair_eight slot_count))
      ∙ gathered_number (pair_without l s slot) pair_eight slot_count k i 4 h j

  read_start : (k start size : ℕ) → k < slot_count → start < 2 ^ 32 → pair_without l s slot k ≡ pair_of start size → start_of l after k ≡ start
  unfolding start_of pair_place
  read_start k start size h b e =
      ap (λ (n : ℕ). number_at after n 4) (omega arith)
      ∙ read k 0 h (omega arith)
      ∙ ap (λ (p : List ℕ). number_at p 0 4) e
      ∙ pair_start start size b

  read_length : (k start size : ℕ) → k < slot_count → size < 2 ^ 32 → pair_without l s slot k ≡ pair_of start size → length_of l after k ≡ size
  unfolding length_of pair_place
  read_length k start size h b e =
      ap (λ (n : ℕ). number_at after n 4) (omega arith)
      ∙ read k 4 h (omega arith)
      ∙ ap (λ (p : List ℕ). number_at p 4 4) e
      ∙ pair_size start size b

  -- starts and lengths are small: of an occupied slot since its text lies in the shelf, of a free one since they are zero
  small : (k : ℕ) → k < slot_count → (start_of l s k < 2 ^ 32) × (length_of l s k < 2 ^ 32)
  small k h =
      ⊎_elim
      (λ (e : is_occupied s k ≡ true).
      let lie = (was.lie k (h, e)).1 in
      (omega (arith, lie, was.room, was.most), omega (arith, lie, was.room, was.most)))
      (λ (e : is_occupied s k ≡ false). let b = was.blank k (h, e) in (omega (arith, b.0), omega (arith, b.1)))
      (decided (is_occupied s k))

  start_later_lem : (k : ℕ) → k < slot_count → (k ≡ slot → ⊥) → st < start_of l s k → start_of l after k ≡ start_of l s k - ln
  start_later_lem k h d i =
      read_start k (start_of l s k - ln) (length_of l s k) h (let b = (small k h).0 in omega arith) (pair_later k d i)

  start_earlier_lem : (k : ℕ) → k < slot_count → (k ≡ slot → ⊥) → start_of l s k ≤ st → start_of l after k ≡ start_of l s k
  start_earlier_lem k h d i = read_start k (start_of l s k) (length_of l s k) h (small k h).0 (pair_earlier k d i)

  length_other_lem : (k : ℕ) → k < slot_count → (k ≡ slot → ⊥) → length_of l after k ≡ length_of l s k
  length_other_lem k h d =
      ⊎_elim
      (λ (e : ltb st (start_of l s k) ≡ true).
      read_length k (start_of l s k - ln) (length_of l s k) h (small k h).1 (pair_later k d (ltb-true st (start_of l s k) e)))
      (λ (e : ltb st (start_of l s k) ≡ false).
      read_length k (start_of l s k) (length_of l s k) h (small k h).1 (pair_earlier k d (ltb-false st (start_of l s k) e)))
      (decided (ltb st (start_of l s k)))

  -- ---- the map

  free_this_lem : is_occupied after slot ≡ false
  unfolding is_occupied removed summary_of
  free_this_lem = stored_occupied l s texts pairs st l.pairs u placed slot o.0 ∙ bit_clear slot (map_of s) o.1

  occupied_other_lem : (k : ℕ) → k < slot_count → (k ≡ slot → ⊥) → is_occupied after k ≡ is_occupied s k
  unfolding is_occupied removed summary_of
  occupied_other_lem k h d =
      stored_occupied l s texts pairs st l.pairs u placed k h ∙ bit_clear_other slot k (map_of s) o.1 d

  -- ---- the texts

  before_start : (n w : ℕ) → base l ≤ n → n + w ≤ st → take w (drop n after) ≡ take w (drop n s)
  before_start n w h k = ap (take w) (stored_rest l s texts pairs st l.pairs u placed n h) ∙ part_before texts s st n w k

  moved_down : (n w : ℕ) → st + ln ≤ n → n + w ≤ en → take w (drop (n - ln) after) ≡ take w (drop n s)
  moved_down n w h k =
      let i = n - (st + ln) in
      let there : n - ln ≡ st + i = omega arith in
      let back : st + ln + i ≡ n = omega arith in
      ap (take w) (stored_rest l s texts pairs st l.pairs u placed (n - ln) (omega (arith, lies_from)))
      ∙ ap (λ (x : ℕ). take w (drop x (sets s st texts))) there
      ∙ part_within texts s st i w placed.texts_to (omega (arith, texts_length))
      ∙ ap (take w) (drop-append-le i later (replicate ln 0) (omega (arith, later_length)))
      ∙ take-append-le w (drop i later) (replicate ln 0) (omega (arith, length-drop i later, later_length))
      ∙ part_front i w (en - (st + ln)) (drop (st + ln) s) (omega arith)
      ∙ ap (take w) (drop-drop i (st + ln) s ∙ ap (λ (x : ℕ). drop x s) back)

  end_moved : end_of l after + ln ≡ en
  unfolding end_of
  end_moved =
      omega (arith, held_less l s after slot (record { occupied_as = occupied_other_lem; length_as = length_other_lem }) o (o.0, free_this_lem))

  -- from the end of the texts on, what was vacated and what was free
  vacated : drop (end_of l after) after ≡ replicate ln 0 ++ drop en s
  vacated =
      let there : end_of l after ≡ st + (en - (st + ln)) = omega (arith, end_moved, lies_to) in
      ap (λ (n : ℕ). drop n after) there
      ∙ stored_rest l s texts pairs st l.pairs u placed (st + (en - (st + ln))) (omega (arith, lies_from))
      ∙ sym (drop-drop (en - (st + ln)) st (sets s st texts))
      ∙ ap (drop (en - (st + ln)))
      (from_stored texts s st placed.texts_to ∙ append_assoc later (replicate ln 0) (drop (st + length texts) s))
      ∙ drop_at later (replicate ln 0 ++ drop (st + length texts) s) (en - (st + ln)) later_length
      ∙ ap (λ (n : ℕ). replicate ln 0 ++ drop n s) texts_length

  zero_after : all (eqb 0) (drop (end_of l after) after) ≡ true
  zero_after =
      ap (all (eqb 0)) vacated
      ∙ all_append (eqb 0) (replicate ln 0) (drop en s)
      ∙ and_both (all (eqb 0) (replicate ln 0)) (all (eqb 0) (drop en s)) (all_zeros ln) was.zero

  pub removed_at : Removed l s slot after
  unfolding removed summary_of
  removed_at = record {
    long = stored_length l s texts pairs st l.pairs u;
    front = stored_front l s texts pairs st l.pairs u placed;
    free_this = free_this_lem;
    occupied_other = occupied_other_lem;
    blank_this = (read_start slot 0 0 o.0 (omega arith) pair_this, read_length slot 0 0 o.0 (omega arith) pair_this);
    start_later = start_later_lem;
    start_earlier = start_earlier_lem;
    length_other = length_other_lem;
    before = before_start;
    moved = moved_down;
    end = end_moved;
    zero = zero_after;
    held = stored_held l s texts pairs st l.pairs u placed;
    duplicates = stored_duplicates l s texts pairs st l.pairs u placed;
  }

-- Remove does so.
pub without_text : (l : Layout) → 13 ≤ l.pairs → (s : List ℕ) (slot : ℕ) → Sound l s → Occupied s slot → Removed l s slot (without l s slot)
unfolding without texts_without
without_text l head s slot was o = removed_at l head s slot was o
