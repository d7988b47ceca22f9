-- A sound shelf carried from one layout into another: what it then says of each slot, and that it is sound. One law for both directions.
-- Assumes nothing.
use Rattle.std.specs.Prelude.{if◌then◌else◌}
use Prim.Native.Nat.{ℕ, ◌+◌, ◌-◌, ◌*◌, ◌^◌, ◌≤◌, ◌<◌}
use mathlib.Core.Path.{◌≡◌, refl, sym, ap, ap₂, ◌∙◌}
use mathlib.Core.Bool.{Bool, true, false}
use mathlib.Core.List.{List, ◌++◌}
use mathlib.Core.Logic.{inl, inr, ⊎_elim}
use native.Mathlib.Omega.{arith}
use lib.Dec.{eqb}
use lib.ListN.{length, take, drop, length-append, length-drop}
use lib.Seq.{length-take-le, take-append-le, drop-append-le, drop-append_seam, drop-drop, take_at, drop_at}
use Rattle.lists.specs.Lists.{begins, all, those, gather}
use Rattle.lists.proofs.Texts.{decided, if_true, if_false}
use Rattle.lists.proofs.Tests.{says_begins}
use Rattle.numbers.specs.Numbers.{number_at, read_on}
use Rattle.shelves.specs.Layout.{Layout, most_shelf, slot_count, below, map_of, held_figure, bit, is_occupied, Occupied, Free, occupied, base, heading, pair_place, start_of, length_of, text_of, held, end_of}
use Rattle.shelves.specs.Soundness.{is_normal_form}
use Rattle.shelves.specs.Operations.{pair_of}
use Rattle.shelves.proofs.Sound.{Apart, Sound}
use Rattle.shelves.proofs.Stored.{pair_length, pair_start, pair_size, heading_length}
use Rattle.shelves.proofs.Gathered.{gathered_length, gathered_number}
use Rattle.shelves.proofs.Sums.{sum_same}
use Rattle.shelves.proofs.Held.{weight, held_sum}
use Rattle.carrying.specs.Carrying.{carried_pair, carried_as}

-- ---- what stands where

module _ (from to : Layout) (s sums behind : List ℕ) where
  abbrev pub pairs : List ℕ
  pairs = gather (carried_pair from to s) (below slot_count)

  abbrev map_bytes : List ℕ
  map_bytes = take 8 (drop 5 s)

  abbrev pub after : List ℕ
  after = carried_as from to s sums behind

  pub pair_eight : (k : ℕ) → length (carried_pair from to s k) ≡ 8
  unfolding carried_pair
  pair_eight k = step (is_occupied s k)
    where
      step : (b : Bool) → length (if b then pair_of (base to + (start_of from s k - base from)) (length_of from s k) else pair_of 0 0) ≡ 8
      step true = pair_length (base to + (start_of from s k - base from)) (length_of from s k)
      step false = pair_length 0 0

  pub pairs_length : length pairs ≡ 512
  pairs_length = omega (arith, gathered_length (carried_pair from to s) pair_eight slot_count)

  pub headed : begins (heading to) after ≡ true
  unfolding carried_as
  headed = (says_begins (heading to) after).1 (map_bytes ++ (sums ++ (pairs ++ behind)), refl)

  from_map : drop 5 after ≡ map_bytes ++ (sums ++ (pairs ++ behind))
  unfolding carried_as
  from_map = drop_at (heading to) (map_bytes ++ (sums ++ (pairs ++ behind))) 5 (heading_length to)

  module _ (least : 13 ≤ length s) where
    map_length : length map_bytes ≡ 8
    map_length = length-take-le 8 (drop 5 s) (omega (arith, length-drop 5 s))

    -- the map is as it was
    pub map_bytes_lem : take 8 (drop 5 after) ≡ take 8 (drop 5 s)
    map_bytes_lem = ap (take 8) from_map ∙ take_at map_bytes (sums ++ (pairs ++ behind)) 8 map_length

    pub map_as_lem : map_of after ≡ map_of s
    unfolding map_of number_at
    map_as_lem = ap (read_on 0) map_bytes_lem

    pub occupied_as_lem : (k : ℕ) → is_occupied after k ≡ is_occupied s k
    unfolding is_occupied
    occupied_as_lem k = ap (λ (m : ℕ). bit m k) map_as_lem

    pub slots_as : occupied after ≡ occupied s
    unfolding occupied is_occupied
    slots_as = ap (λ (m : ℕ). those (bit m) (below slot_count)) map_as_lem

    pub from_sums : drop 13 after ≡ sums ++ (pairs ++ behind)
    from_sums = sym (drop-drop 8 5 after) ∙ ap (drop 8) from_map ∙ drop_at map_bytes (sums ++ (pairs ++ behind)) 8 map_length

    module _ (wide : 13 + length sums ≡ to.pairs) where
      from_pairs : drop to.pairs after ≡ pairs ++ behind
      from_pairs =
          ap (λ (n : ℕ). drop n after) (sym wide)
          ∙ sym (drop-drop (length sums) 13 after)
          ∙ ap (drop (length sums)) from_sums
          ∙ drop-append_seam sums (pairs ++ behind)

      -- what stands behind the pairs
      pub from_texts : drop (base to) after ≡ behind
      from_texts = sym (drop-drop 512 to.pairs after) ∙ ap (drop 512) from_pairs ∙ drop_at pairs behind 512 pairs_length

      pub carried_length : length after ≡ base to + length behind
      unfolding carried_as
      carried_length =
          omega
          (arith, wide, heading_length to, map_length, pairs_length, length-append (heading to) (map_bytes ++ (sums ++ (pairs ++ behind))), length-append map_bytes (sums ++ (pairs ++ behind)), length-append sums (pairs ++ behind), length-append pairs behind)

      -- each pair is read where it stands
      read : (k i : ℕ) → k < slot_count → i + 4 ≤ 8 → number_at after (to.pairs + (k * 8 + i)) 4 ≡ number_at (carried_pair from to s k) i 4
      unfolding number_at
      read k i h j =
          let n = k * 8 + i in
          let size = pairs_length in
          ap (λ (l : List ℕ). read_on 0 (take 4 l))
          (sym (drop-drop n to.pairs after) ∙ ap (drop n) from_pairs ∙ drop-append-le n pairs behind (omega arith))
          ∙ ap (read_on 0) (take-append-le 4 (drop n pairs) behind (omega (arith, length-drop n pairs)))
          ∙ gathered_number (carried_pair from to s) pair_eight slot_count k i 4 h j

      pub read_start : (k start size : ℕ) → k < slot_count → start < 2 ^ 32 → carried_pair from to s k ≡ pair_of start size → start_of to after k ≡ start
      unfolding start_of pair_place
      read_start k start size h b e =
          ap (λ (n : ℕ). number_at after n 4) (omega arith)
          ∙ read k 0 h (omega arith)
          ∙ ap (λ (p : List ℕ). number_at p 0 4) e
          ∙ pair_start start size b

      pub read_length : (k start size : ℕ) → k < slot_count → size < 2 ^ 32 → carried_pair from to s k ≡ pair_of start size → length_of to after k ≡ size
      unfolding length_of pair_place
      read_length k start size h b e =
          ap (λ (n : ℕ). number_at after n 4) (omega arith)
          ∙ read k 4 h (omega arith)
          ∙ ap (λ (p : List ℕ). number_at p 4 4) e
          ∙ pair_size start size b

  -- which of the two pairs it is
  pub pair_kept : (k : ℕ) → is_occupied s k ≡ true → carried_pair from to s k ≡ pair_of (base to + (start_of from s k - base from)) (length_of from s k)
  unfolding carried_pair
  pair_kept k e = if_true (is_occupied s k) (pair_of (base to + (start_of from s k - base from)) (length_of from s k)) (pair_of 0 0) e

  pub pair_free : (k : ℕ) → is_occupied s k ≡ false → carried_pair from to s k ≡ pair_of 0 0
  unfolding carried_pair
  pair_free k e = if_false (is_occupied s k) (pair_of (base to + (start_of from s k - base from)) (length_of from s k)) (pair_of 0 0) e

-- ---- what it says of each slot

-- what is asked of the sums and of what stands behind the pairs: the texts, and zeros
pub record Fits (from to : Layout) (s sums behind : List ℕ) : Type 0 where
  pub head : 13 ≤ from.pairs
  pub wide : 13 + length sums ≡ to.pairs
  pub summed : 21 ≤ to.pairs → number_at sums 0 4 ≡ held from s
  pub most : base to + length behind ≤ most_shelf
  pub room : held from s ≤ length behind
  pub texts : (n w : ℕ) → n + w ≤ held from s → take w (drop n behind) ≡ take w (drop (base from + n) s)
  pub zero : all (eqb 0) (drop (held from s) behind) ≡ true

pub record Carried (from to : Layout) (s after : List ℕ) : Type 0 where
  pub map_as : map_of after ≡ map_of s
  pub slots : occupied after ≡ occupied s
  pub occupied_as : (k : ℕ) → is_occupied after k ≡ is_occupied s k
  pub start_kept : (k : ℕ) → Occupied s k → start_of to after k ≡ base to + (start_of from s k - base from)
  pub start_free : (k : ℕ) → Free s k → start_of to after k ≡ 0
  pub length_as : (k : ℕ) → k < slot_count → length_of to after k ≡ length_of from s k
  pub text_as : (k : ℕ) → Occupied s k → text_of to after k ≡ text_of from s k
  pub held_as : held to after ≡ held from s
  pub sound : Sound to after

module _ (from to : Layout) (s sums behind : List ℕ) (was : Sound from s) (f : Fits from to s sums behind) where
  abbrev t : List ℕ
  t = carried_as from to s sums behind

  least : 13 ≤ length s
  least = omega (arith, was.least, f.head)

  start_kept_lem : (k : ℕ) → Occupied s k → start_of to t k ≡ base to + (start_of from s k - base from)
  start_kept_lem k o =
      let lie = (was.lie k o).1 in
      read_start from to s sums behind least f.wide k (base to + (start_of from s k - base from)) (length_of from s k) o.0
      (omega (arith, lie, was.room, was.most, f.most))
      (pair_kept from to s sums behind k o.1)

  length_kept : (k : ℕ) → Occupied s k → length_of to t k ≡ length_of from s k
  length_kept k o =
      let lie = (was.lie k o).1 in
      read_length from to s sums behind least f.wide k (base to + (start_of from s k - base from)) (length_of from s k) o.0
      (omega (arith, lie, was.room, was.most))
      (pair_kept from to s sums behind k o.1)

  blank : (k : ℕ) → Free s k → (start_of to t k ≡ 0) × (length_of to t k ≡ 0)
  blank k o = (
    read_start from to s sums behind least f.wide k 0 0 o.0 (omega arith) (pair_free from to s sums behind k o.1),
    read_length from to s sums behind least f.wide k 0 0 o.0 (omega arith) (pair_free from to s sums behind k o.1),
  )

  length_as_lem : (k : ℕ) → k < slot_count → length_of to t k ≡ length_of from s k
  length_as_lem k h =
      ⊎_elim
      (λ (e : is_occupied s k ≡ true). length_kept k (h, e))
      (λ (e : is_occupied s k ≡ false). (blank k (h, e)).1 ∙ sym (was.blank k (h, e)).1)
      (decided (is_occupied s k))

  held_as_lem : held to t ≡ held from s
  held_as_lem =
      held_sum to t
      ∙ sum_same (weight to t) (weight from s) slot_count
      (λ k i. ap₂ (λ (b : Bool) (n : ℕ). if b then n else 0) (occupied_as_lem from to s sums behind least k) (length_as_lem k i))
      ∙ sym (held_sum from s)

  end_as : end_of to t ≡ base to + held from s
  unfolding end_of
  end_as = ap (λ (n : ℕ). base to + n) held_as_lem

  end_from : end_of from s ≡ base from + held from s
  unfolding end_of
  end_from = refl

  text_as_lem : (k : ℕ) → Occupied s k → text_of to t k ≡ text_of from s k
  unfolding text_of
  text_as_lem k o =
      let lie = was.lie k o in
      let n = start_of from s k - base from in
      let there : base from + n ≡ start_of from s k = omega (arith, lie.0) in
      ap₂ (λ (w a : ℕ). take w (drop a t)) (length_kept k o) (start_kept_lem k o)
      ∙ ap (take (length_of from s k)) (sym (drop-drop n (base to) t) ∙ ap (drop n) (from_texts from to s sums behind least f.wide))
      ∙ f.texts n (length_of from s k) (omega (arith, lie.1, end_from))
      ∙ ap (λ (a : ℕ). take (length_of from s k) (drop a s)) there

  was_occupied : (k : ℕ) → Occupied t k → Occupied s k
  was_occupied k o = (o.0, sym (occupied_as_lem from to s sums behind least k) ∙ o.1)

  was_free : (k : ℕ) → Free t k → Free s k
  was_free k o = (o.0, sym (occupied_as_lem from to s sums behind least k) ∙ o.1)

  lie_after : (k : ℕ) → Occupied t k → (base to ≤ start_of to t k) × (start_of to t k + length_of to t k ≤ end_of to t)
  lie_after k q =
      let o = was_occupied k q in
      let lie = was.lie k o in
      let a = start_kept_lem k o in
      let n = length_kept k o in
      (omega arith, omega (arith, lie.0, lie.1, end_as, end_from))

  disjoint_after : (j k : ℕ) → Occupied t j → Occupied t k → (j ≡ k → ⊥) → Apart to t j k
  disjoint_after j k p q d =
      let o = was_occupied j p in
      let i = was_occupied k q in
      let a = start_kept_lem j o in
      let b = length_kept j o in
      let c = start_kept_lem k i in
      let e = length_kept k i in
      let x = (was.lie j o).0 in
      let y = (was.lie k i).0 in
      ⊎_elim (λ h. inl (omega arith)) (λ h. inr (omega arith)) (was.disjoint j k o i d)

  figure : 21 ≤ to.pairs → held_figure t ≡ number_at sums 0 4
  unfolding held_figure number_at
  figure room =
      ap (λ (l : List ℕ). read_on 0 (take 4 l)) (from_sums from to s sums behind least)
      ∙ ap (read_on 0) (take-append-le 4 sums (pairs from to s sums behind ++ behind) (omega (arith, f.wide)))

  zero_after : all (eqb 0) (drop (end_of to t) t) ≡ true
  zero_after =
      ap (λ (n : ℕ). all (eqb 0) (drop n t)) end_as
      ∙ ap (all (eqb 0)) (sym (drop-drop (held from s) (base to) t) ∙ ap (drop (held from s)) (from_texts from to s sums behind least f.wide))
      ∙ f.zero

  pub carried_so : Carried from to s t
  carried_so = record {
    map_as = map_as_lem from to s sums behind least;
    slots = slots_as from to s sums behind least;
    occupied_as = occupied_as_lem from to s sums behind least;
    start_kept = start_kept_lem;
    start_free = λ k o. (blank k o).0;
    length_as = length_as_lem;
    text_as = text_as_lem;
    held_as = held_as_lem;
    sound = record {
      least = omega (arith, carried_length from to s sums behind least f.wide);
      most = omega (arith, carried_length from to s sums behind least f.wide, f.most);
      headed = headed from to s sums behind;
      room = omega (arith, carried_length from to s sums behind least f.wide, end_as, f.room);
      lie = lie_after;
      disjoint = disjoint_after;
      normal = λ k o. ap is_normal_form (text_as_lem k (was_occupied k o)) ∙ was.normal k (was_occupied k o);
      different =
          λ j k p q d e.
          was.different j k (was_occupied j p) (was_occupied k q) d
          (sym (text_as_lem j (was_occupied j p)) ∙ e ∙ text_as_lem k (was_occupied k q));
      blank = λ k o. blank k (was_free k o);
      zero = zero_after;
      summed = λ room. figure room ∙ f.summed room ∙ sym held_as_lem;
    };
  }
