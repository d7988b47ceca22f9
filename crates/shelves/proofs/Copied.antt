-- A copy was found: only the duplicates figure changed, so that the shelf says of each slot what it said, and stays sound. Assumes nothing.
use Rattle.std.specs.Prelude.{if◌then◌else◌}
use Prim.Native.Nat.{ℕ, ◌+◌, ◌-◌, ◌≤◌, ◌<◌, min}
use mathlib.Core.Path.{◌≡◌, sym, ap, ap₂, ◌∙◌}
use mathlib.Core.Bool.{Bool, true, false}
use mathlib.Core.List.{List}
use mathlib.Core.Logic.{inl, inr, ⊎_elim}
use native.Mathlib.Nat.{mod-eq_of_lt}
use native.Mathlib.Omega.{arith}
use lib.Dec.{eqb, ltb}
use lib.ListN.{length, take, drop, length-take}
use lib.Seq.{sets, length-sets, take_all, take-take}
use borrow.Author.Tests.{ltb-true, ltb-false}
use Rattle.lists.specs.Lists.{all, those}
use Rattle.lists.proofs.Texts.{decided}
use Rattle.numbers.specs.Numbers.{number_at, in_bytes, read_on}
use Rattle.numbers.proofs.Stores.{part_cut, front_stays, rest_stays}
use Rattle.numbers.proofs.Numbers.{in_bytes_length, number_stored}
use Rattle.shelves.specs.Layout.{Layout, slot_count, duplicates_place, below, map_of, held_figure, duplicates_of, bit, is_occupied, Occupied, Free, occupied, base, heading, pair_place, start_of, length_of, text_of, held, end_of}
use Rattle.shelves.specs.Soundness.{is_normal_form}
use Rattle.shelves.specs.Summary.{summary_of, most_duplicates, put_copy, duplicates_in}
use Rattle.shelves.specs.Operations.{with_copy}
use Rattle.shelves.proofs.Sound.{Sound}
use Rattle.shelves.proofs.Sums.{sum_same}
use Rattle.shelves.proofs.Held.{weight, held_sum}
use Rattle.shelves.proofs.Stored.{begins_front, heading_length}

-- What stays, and what the figure then is.
pub record Copied (l : Layout) (s after : List ℕ) : Type 0 where
  pub long : length after ≡ length s
  pub front : take 17 after ≡ take 17 s
  pub rest : (n : ℕ) → l.pairs ≤ n → drop n after ≡ drop n s
  pub duplicates : 21 ≤ l.pairs → 21 ≤ length s → duplicates_of after ≡ min (duplicates_of s + 1) most_duplicates

module _ (l : Layout) (s : List ℕ) where
  abbrev stored : List ℕ
  stored = duplicates_in l (put_copy (summary_of s))

  abbrev raised : ℕ
  raised = min (duplicates_of s + 1) most_duplicates

  -- it ends where the pairs begin, at the latest; where they begin before its place, nothing is stored
  stored_ends : length stored ≤ l.pairs - duplicates_place
  unfolding duplicates_in
  stored_ends = omega (arith, length-take (l.pairs - duplicates_place) (in_bytes 4 (put_copy (summary_of s)).duplicates))

  -- a layout without the figure: the shelf stays
  pub copy_stays : l.pairs ≤ 17 → with_copy l s ≡ s
  unfolding with_copy duplicates_in
  copy_stays h =
      let none : l.pairs - 17 ≡ 0 = omega arith in
      ap (λ (n : ℕ). sets s 17 (take n (in_bytes 4 (put_copy (summary_of s)).duplicates))) none

  behind : (n : ℕ) → l.pairs ≤ n → 17 < l.pairs → drop n (with_copy l s) ≡ drop n s
  unfolding with_copy
  behind n h k = rest_stays stored s 17 n (omega (arith, stored_ends))

  rest_as : (n : ℕ) → l.pairs ≤ n → drop n (with_copy l s) ≡ drop n s
  rest_as n h =
      ⊎_elim
      (λ (e : ltb 17 l.pairs ≡ true). behind n h (ltb-true 17 l.pairs e))
      (λ (e : ltb 17 l.pairs ≡ false). ap (drop n) (copy_stays (ltb-false 17 l.pairs e)))
      (decided (ltb 17 l.pairs))

  figure : 21 ≤ l.pairs → 21 ≤ length s → duplicates_of (with_copy l s) ≡ raised
  unfolding duplicates_of with_copy duplicates_in put_copy summary_of
  figure room least =
      ap (λ (vs : List ℕ). number_at (sets s 17 vs) 17 4) (take_all (l.pairs - 17) (in_bytes 4 raised) (omega (arith, in_bytes_length 4 raised)))
      ∙ number_stored s 17 4 raised (omega arith)
      ∙ mod-eq_of_lt (omega arith)

  pub with_copy_lem : Copied l s (with_copy l s)
  unfolding with_copy
  with_copy_lem = record {
    long = length-sets s 17 stored;
    front = front_stays stored s 17 17 (omega arith);
    rest = rest_as;
    duplicates = figure;
  }

-- ---- what the shelf then says

module _ (l : Layout) (head : 13 ≤ l.pairs) (s after : List ℕ) (c : Copied l s after) where
  -- a part in front of the figure, and one behind it
  part_as : (n w : ℕ) → n + w ≤ 17 → take w (drop n after) ≡ take w (drop n s)
  part_as n w h = cut after ∙ ap (λ (xs : List ℕ). drop n (take (n + w) xs)) c.front ∙ sym (cut s)
    where
      cut : (xs : List ℕ) → take w (drop n xs) ≡ drop n (take (n + w) (take 17 xs))
      cut xs = part_cut n w xs ∙ ap (drop n) (sym (take-take (n + w) 17 xs h))

  pub map_as_lem : map_of after ≡ map_of s
  unfolding map_of number_at
  map_as_lem = ap (read_on 0) (part_as 5 8 (omega arith))

  pub figure_as : held_figure after ≡ held_figure s
  unfolding held_figure number_at
  figure_as = ap (read_on 0) (part_as 13 4 (omega arith))

  number_as : (at w : ℕ) → l.pairs ≤ at → number_at after at w ≡ number_at s at w
  unfolding number_at
  number_as at w h = ap (λ (xs : List ℕ). read_on 0 (take w xs)) (c.rest at h)

  pub occupied_as_lem : (k : ℕ) → is_occupied after k ≡ is_occupied s k
  unfolding is_occupied
  occupied_as_lem k = ap (λ (m : ℕ). bit m k) map_as_lem

  pub slots_as : occupied after ≡ occupied s
  unfolding occupied is_occupied
  slots_as = ap (λ (m : ℕ). those (bit m) (below slot_count)) map_as_lem

  pub start_as : (k : ℕ) → start_of l after k ≡ start_of l s k
  unfolding start_of pair_place
  start_as k = number_as (pair_place l k) 4 (omega arith)

  pub length_as_lem : (k : ℕ) → length_of l after k ≡ length_of l s k
  unfolding length_of pair_place
  length_as_lem k = number_as (pair_place l k + 4) 4 (omega arith)

  pub held_as_lem : held l after ≡ held l s
  held_as_lem =
      held_sum l after
      ∙ sum_same (weight l after) (weight l s) slot_count
      (λ k i. ap₂ (λ (b : Bool) (n : ℕ). if b then n else 0) (occupied_as_lem k) (length_as_lem k))
      ∙ sym (held_sum l s)

  pub end_as : end_of l after ≡ end_of l s
  unfolding end_of
  end_as = ap (λ (n : ℕ). base l + n) held_as_lem

  end_from : base l ≤ end_of l s
  unfolding end_of
  end_from = omega arith

  -- a slot that is occupied or free was so
  pub was_occupied : (k : ℕ) → Occupied after k → Occupied s k
  was_occupied k o = (o.0, sym (occupied_as_lem k) ∙ o.1)

  was_free : (k : ℕ) → Free after k → Free s k
  was_free k o = (o.0, sym (occupied_as_lem k) ∙ o.1)

  module _ (was : Sound l s) where
    -- what is kept is as it was
    pub text_as_lem : (k : ℕ) → Occupied s k → text_of l after k ≡ text_of l s k
    unfolding text_of
    text_as_lem k o =
        ap₂ (λ (w n : ℕ). take w (drop n after)) (length_as_lem k) (start_as k)
        ∙ ap (take (length_of l s k)) (c.rest (start_of l s k) (let h = (was.lie k o).0 in omega arith))

    pub copied_sound : Sound l after
    copied_sound = record {
      least = omega (arith, c.long, was.least);
      most = omega (arith, c.long, was.most);
      headed =
          begins_front (heading l) after s
          (ap (λ (n : ℕ). take n after) (heading_length l) ∙ part_as 0 5 (omega arith) ∙ ap (λ (n : ℕ). take n s) (sym (heading_length l)))
          ∙ was.headed;
      room = omega (arith, c.long, end_as, was.room);
      lie = λ k o. let h = was.lie k (was_occupied k o) in (omega (arith, start_as k), omega (arith, start_as k, length_as_lem k, end_as));
      disjoint =
          λ j k p q d.
          let a = start_as j in
          let b = length_as_lem j in
          let e = start_as k in
          let f = length_as_lem k in
          ⊎_elim (λ h. inl (omega arith)) (λ h. inr (omega arith)) (was.disjoint j k (was_occupied j p) (was_occupied k q) d);
      normal = λ k o. ap is_normal_form (text_as_lem k (was_occupied k o)) ∙ was.normal k (was_occupied k o);
      different =
          λ j k p q d e.
          was.different j k (was_occupied j p) (was_occupied k q) d
          (sym (text_as_lem j (was_occupied j p)) ∙ e ∙ text_as_lem k (was_occupied k q));
      blank = λ k f. let b = was.blank k (was_free k f) in (start_as k ∙ b.0, length_as_lem k ∙ b.1);
      zero =
          ap (λ (n : ℕ). all (eqb 0) (drop n after)) end_as
          ∙ ap (all (eqb 0)) (c.rest (end_of l s) (omega (arith, end_from)))
          ∙ was.zero;
      summed = λ room. figure_as ∙ was.summed room ∙ sym held_as_lem;
    }
