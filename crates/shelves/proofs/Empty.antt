-- The shelf that Start writes: nothing is occupied, all pairs are zero, and it is sound. Assumes nothing.
use Prim.Native.Nat.{ℕ, ◌+◌, ◌-◌, ◌*◌, ◌/◌, ◌%◌, ◌^◌, ◌≤◌}
use mathlib.Core.Path.{◌≡◌, refl, sym, ap, ◌∙◌}
use mathlib.Core.Bool.{true, false, true≢false}
use mathlib.Core.List.{List, []}
use mathlib.Core.Logic.{⊎_elim}
use native.Mathlib.Nat.{zero-div}
use native.Mathlib.Omega.{arith}
use lib.Dec.{eqb}
use lib.ListN.{length, take, drop, replicate, length-append, length-replicate}
use lib.Seq.{drop_at, drop-drop}
use Rattle.lists.specs.Lists.{begins, all}
use Rattle.lists.proofs.Tests.{says_begins}
use Rattle.numbers.specs.Numbers.{number_at}
use Rattle.shelves.specs.Layout.{Layout, most_shelf, slot_count, map_place, held_place, duplicates_place, map_of, held_figure, duplicates_of, bit, is_occupied, occupied, base, heading, pair_place, start_of, length_of, held, end_of}
use Rattle.shelves.specs.Operations.{empty_shelf}
use Rattle.shelves.proofs.Passing.{lowest_passing}
use Rattle.shelves.proofs.Sound.{Sound}
use Rattle.shelves.proofs.Held.{held_nothing}
use Rattle.shelves.proofs.Stored.{heading_length}
use Rattle.shelves.proofs.Zeros.{all_zeros, all_drop, all_take, read_zero}

-- a shelf that is zero behind its heading
module _ (l : Layout) (head : 13 ≤ l.pairs) (s : List ℕ) (zeros : all (eqb 0) (drop 5 s) ≡ true) where
  zero_from_lem : (n : ℕ) → 5 ≤ n → all (eqb 0) (drop n s) ≡ true
  zero_from_lem n h =
      let e : 5 + (n - 5) ≡ n = omega arith in
      ap (λ (k : ℕ). all (eqb 0) (drop k s)) (sym e)
      ∙ ap (all (eqb 0)) (sym (drop-drop (n - 5) 5 s))
      ∙ all_drop (eqb 0) (n - 5) (drop 5 s) zeros

  number_zero : (at w : ℕ) → 5 ≤ at → number_at s at w ≡ 0
  unfolding number_at
  number_zero at w h = read_zero (take w (drop at s)) (all_take (eqb 0) w (drop at s) (zero_from_lem at h))

  none_occupied : (k : ℕ) → is_occupied s k ≡ false
  unfolding is_occupied bit map_of
  none_occupied k =
      ap (λ (m : ℕ). eqb (m / 2 ^ k % 2) 1) (number_zero map_place 8 (omega arith)) ∙ ap (λ (m : ℕ). eqb (m % 2) 1) (zero-div (2 ^ k))

  pub nothing_occupied : occupied s ≡ []
  unfolding occupied
  nothing_occupied =
      ⊎_elim (λ f. f.0) (λ f. absurd (true≢false (sym f.2.passes ∙ none_occupied f.0))) (lowest_passing (is_occupied s) slot_count)

  nothing_held : held l s ≡ 0
  nothing_held = held_nothing l s nothing_occupied

  pub empty_sound : base l ≤ length s → length s ≤ most_shelf → begins (heading l) s ≡ true → Sound l s
  unfolding end_of start_of length_of pair_place held_figure
  empty_sound least most headed =
      let free : (k : ℕ) → is_occupied s k ≡ true → ⊥ = λ k e. true≢false (sym e ∙ none_occupied k) in
      record {
        least = least;
        most = most;
        headed = headed;
        room = omega (arith, nothing_held);
        lie = λ k o. absurd (free k o.1);
        disjoint = λ j k p q d. absurd (free j p.1);
        normal = λ k o. absurd (free k o.1);
        different = λ j k p q d e. free j p.1;
        blank = λ k f. (number_zero (l.pairs + k * 8) 4 (omega arith), number_zero (l.pairs + k * 8 + 4) 4 (omega arith));
        zero = zero_from_lem (base l + held l s) (omega arith);
        summed = λ room. number_zero held_place 4 (omega arith) ∙ sym nothing_held;
      }

-- ---- the shelf that Start writes

module _ (l : Layout) (head : 13 ≤ l.pairs) (size : ℕ) (least : base l ≤ size) (most : size ≤ most_shelf) where
  started_length : length (empty_shelf l size) ≡ size
  unfolding empty_shelf
  started_length =
      omega (
        arith,
        length-append (heading l) (replicate (size - length (heading l)) 0),
        length-replicate {A = ℕ} (size - length (heading l)) 0,
        heading_length l,
      )

  started_zeros : all (eqb 0) (drop 5 (empty_shelf l size)) ≡ true
  unfolding empty_shelf
  started_zeros =
      ap (all (eqb 0)) (drop_at (heading l) (replicate (size - length (heading l)) 0) 5 (heading_length l))
      ∙ all_zeros (size - length (heading l))

  started_headed : begins (heading l) (empty_shelf l size) ≡ true
  unfolding empty_shelf
  started_headed = (says_begins (heading l) (empty_shelf l size)).1 (replicate (size - length (heading l)) 0, refl)

  pub started_sound : Sound l (empty_shelf l size)
  started_sound =
      empty_sound l head (empty_shelf l size) started_zeros (omega (arith, started_length)) (omega (arith, started_length)) started_headed

  pub started_occupied : occupied (empty_shelf l size) ≡ []
  started_occupied = nothing_occupied l head (empty_shelf l size) started_zeros

  pub started_duplicates : duplicates_of (empty_shelf l size) ≡ 0
  unfolding duplicates_of
  started_duplicates = number_zero l head (empty_shelf l size) started_zeros duplicates_place 4 (omega arith)
