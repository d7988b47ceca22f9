-- Texts that are disjoint and lie in a room as large as all of them leave no gap in it; and texts that fill a room without gaps are together as
-- large as the room. Both by counting, for each place of the room and each slot, whether the place lies in the slot's text. Assumes nothing.
use Rattle.std.specs.Prelude.{if◌then◌else◌}
use Prim.Native.Nat.{ℕ, ◌+◌, ◌-◌, ◌≤◌, ◌<◌}
use mathlib.Core.Path.{◌≡◌, sym, ◌∙◌}
use mathlib.Core.Bool.{Bool, true, false}
use mathlib.Core.List.{List}
use mathlib.Core.Logic.{⊎_elim}
use native.Mathlib.Omega.{arith}
use lib.Dec.{eqb}
use borrow.Author.Tests.{eqb-true, eqb-false}
use Rattle.lists.proofs.Texts.{if_true, if_false, decided}
use Rattle.shelves.specs.Layout.{Layout, slot_count, is_occupied, Occupied, base, start_of, length_of, held}
use Rattle.shelves.proofs.Sums.{sum_below, sum_same, sum_least}
use Rattle.shelves.proofs.Passing.{lowest_passing}
use Rattle.shelf_laws.specs.InWords.{LiesIn}
use Rattle.shelves.proofs.Held.{weight, held_sum}
use Rattle.shelf_laws.proofs.Counting.{sum_zero, sum_ones, exchange, at_most_one, one_missing, in_run, in_run_lem, run_whole, run_says, run_flag}

-- the texts lie in a room of n bytes, and no place lies in two of them
module _ (l : Layout) (s : List ℕ) (n : ℕ)
    (lie : (k : ℕ) → Occupied s k → (base l ≤ start_of l s k) × (start_of l s k + length_of l s k ≤ base l + n))
    (once : (place j k : ℕ) → Occupied s j → Occupied s k → LiesIn l s place j → LiesIn l s place k → j ≡ k) where
  -- 1 where the i-th place of the room lies in the slot's text
  abbrev covers : ℕ → ℕ → ℕ
  covers i k = if is_occupied s k then in_run (start_of l s k - base l) (length_of l s k) i else 0

  covers_flag : (i k : ℕ) → covers i k ≤ 1
  covers_flag i k = step (is_occupied s k)
    where
      step : (b : Bool) → (if b then in_run (start_of l s k - base l) (length_of l s k) i else 0) ≤ 1
      step true = run_flag (start_of l s k - base l) (length_of l s k) i
      step false = omega arith

  -- what a 1 says, and when it is one
  covers_says : (i k : ℕ) → k < slot_count → covers i k ≡ 1 → Occupied s k × LiesIn l s (base l + i) k
  covers_says i k h e =
      ⊎_elim
      (λ (o : is_occupied s k ≡ true).
      let run : in_run (start_of l s k - base l) (length_of l s k) i ≡ 1 =
      sym (if_true (is_occupied s k) (in_run (start_of l s k - base l) (length_of l s k) i) 0 o) ∙ e in
      let r = run_says (start_of l s k - base l) (length_of l s k) i run in
      let low = (lie k (h, o)).0 in
      ((h, o), (omega (arith, r.0), omega (arith, r.1))))
      (λ (o : is_occupied s k ≡ false).
      absurd (omega (arith, if_false (is_occupied s k) (in_run (start_of l s k - base l) (length_of l s k) i) 0 o)))
      (decided (is_occupied s k))

  covers_one : (i k : ℕ) → Occupied s k → LiesIn l s (base l + i) k → covers i k ≡ 1
  covers_one i k o p =
      let low = (lie k o).0 in
      if_true (is_occupied s k) (in_run (start_of l s k - base l) (length_of l s k) i) 0 o.1
      ∙ in_run_lem (start_of l s k - base l) (length_of l s k) i (omega arith) (omega arith)

  -- over the places of the room, a slot counts its length
  slot_count_lem : (k : ℕ) → k < slot_count → sum_below n (λ i. covers i k) ≡ weight l s k
  slot_count_lem k h =
      ⊎_elim
      (λ (o : is_occupied s k ≡ true).
      let run : ℕ → ℕ = in_run (start_of l s k - base l) (length_of l s k) in
      let room = lie k (h, o) in
      sum_same (λ i. covers i k) run n (λ i q. if_true (is_occupied s k) (run i) 0 o)
      ∙ run_whole (start_of l s k - base l) (length_of l s k) n (omega arith)
      ∙ sym (if_true (is_occupied s k) (length_of l s k) 0 o))
      (λ (o : is_occupied s k ≡ false).
      sum_zero (λ i. covers i k) n (λ i q. if_false (is_occupied s k) (in_run (start_of l s k - base l) (length_of l s k) i) 0 o)
      ∙ sym (if_false (is_occupied s k) (length_of l s k) 0 o))
      (decided (is_occupied s k))

  abbrev in_texts : ℕ → ℕ
  in_texts i = sum_below slot_count (covers i)

  -- so the places, each counted as often as it lies in a text, are the bytes held
  places_count : sum_below n in_texts ≡ held l s
  places_count =
      exchange covers n slot_count ∙ sum_same (λ k. sum_below n (λ i. covers i k)) (weight l s) slot_count slot_count_lem ∙ sym (held_sum l s)

  in_one : (i : ℕ) → in_texts i ≤ 1
  in_one i =
      at_most_one (covers i) slot_count (λ k h. covers_flag i k)
      (λ j k a b p q.
      let f = covers_says i j a p in
      let g = covers_says i k b q in
      once (base l + i) j k f.0 g.0 f.1 g.1)

  -- where there is room for no more than the texts, each place lies in one
  pub no_gap : held l s ≡ n → (i : ℕ) → i < n → (k : ℕ) × Occupied s k × LiesIn l s (base l + i) k
  no_gap whole i h =
      ⊎_elim
      (λ f.
      let none : in_texts i ≡ 0 =
      sum_zero (covers i) slot_count (λ k q. let d = eqb-false (covers i k) 1 (f.1 k q) in let b = covers_flag i k in omega arith) in
      absurd (omega (arith, one_missing in_texts n i (λ j q. in_one j) h none, places_count)))
      (λ f.
      let k = f.0 in
      let c = covers_says i k f.2.within (eqb-true (covers i k) 1 f.2.passes) in
      (k, c.0, c.1))
      (lowest_passing (λ k. eqb (covers i k) 1) slot_count)

  -- where each place of the room lies in one, the texts are as large as the room
  pub all_filled : ((i : ℕ) → i < n → (k : ℕ) × Occupied s k × LiesIn l s (base l + i) k) → held l s ≡ n
  all_filled each =
      sym places_count
      ∙ sum_ones in_texts n (λ i h.
      let (k, o, p) = each i h in
      let least = sum_least (covers i) slot_count k o.0 in
      omega (arith, in_one i, least, covers_one i k o p))
