-- A shelf that is carried into another layout and back again has the bytes that it had: heading, map, pairs and what stands behind them.
-- Assumes nothing.
use Prim.Native.Nat.{ℕ, zero, suc, ◌+◌, ◌-◌, ◌*◌, ◌≤◌, ◌<◌}
use mathlib.Core.Path.{◌≡◌, refl, sym, ap, ap₂, ◌∙◌}
use mathlib.Core.Bool.{true, false}
use mathlib.Core.List.{List, [], ◌∷◌, ◌++◌, append-nil}
use mathlib.Core.Logic.{⊎_elim}
use native.Mathlib.Omega.{arith}
use lib.Dec.{eqb}
use lib.ListN.{length, take, drop, replicate, take-append-drop, length-drop}
use lib.Seq.{sets, length-take-le, take-add, take_at, drop-drop}
use borrow.Author.Tests.{eqb-true}
use Rattle.lists.specs.Lists.{all, gather}
use Rattle.lists.proofs.Texts.{decided, gather_append, and_left, and_right}
use Rattle.lists.proofs.Tests.{says_begins}
use Rattle.numbers.specs.Numbers.{number_at, in_bytes, read_on}
use Rattle.numbers.proofs.Stores.{front_stays, rest_stays, part_before, part_stored}
use Rattle.numbers.proofs.Numbers.{Bytes, part_bytes, in_bytes_length, in_bytes_read}
use Rattle.shelves.specs.Layout.{Layout, version_one, version_two, slot_count, below, held_figure, is_occupied, base, heading, pair_place, start_of, length_of, held, end_of}
use Rattle.shelves.specs.Operations.{pair_of}
use Rattle.shelves.proofs.Sound.{Sound}
use Rattle.shelves.proofs.Stored.{heading_length}
use Rattle.shelves.proofs.Zeros.{all_drop}
use Rattle.carrying.specs.Carrying.{carried_pair, carried_as, carried, carried_back}
use Rattle.carrying.proofs.Parts.{assembled}
use Rattle.carrying.proofs.Carried.{Carried, map_bytes_lem, from_texts, pair_kept, pair_free}
use Rattle.carrying.proofs.Ways.{sums, behind, fits, carried_two, below as lower, fits_back, carried_one, one_long}

-- the bytes of a number that stands there are what stands there
bytes_of : (s : List ℕ) (at width : ℕ) → Bytes s → at + width ≤ length s → in_bytes width (number_at s at width) ≡ take width (drop at s)
unfolding number_at
bytes_of s at width bytes h =
    let part = take width (drop at s) in
    let long : length part ≡ width = length-take-le width (drop at s) (omega (arith, length-drop at s)) in
    ap (λ (n : ℕ). in_bytes n (read_on 0 part)) (sym long) ∙ in_bytes_read 0 part (part_bytes s at width bytes)

-- zeros are so many zeros
zeros_are : (xs : List ℕ) → all (eqb 0) xs ≡ true → xs ≡ replicate (length xs) 0
unfolding all
zeros_are [] h = refl
zeros_are (x ∷ xs) h =
    ap₂ (λ (y : ℕ) (ys : List ℕ). y ∷ ys) (sym (eqb-true 0 x (and_left (eqb 0 x) (all (eqb 0) xs) h)))
    (zeros_are xs (and_right (eqb 0 x) (all (eqb 0) xs) h))

-- what a sound shelf begins with
headed_so : (l : Layout) (s : List ℕ) → Sound l s → take 5 s ≡ heading l
headed_so l s was =
    let (rest, e) = (says_begins (heading l) s).0 was.headed in
    ap (take 5) e ∙ take_at (heading l) rest 5 (heading_length l)

-- ---- the pairs, in either direction

module _ (from to : Layout) (s t : List ℕ) (was : Sound from s) (bytes : Bytes s) (c : Carried from to s t) where
  -- a pair that was raised and lowered again, or the other way round
  pair_same : (k : ℕ) → k < slot_count → carried_pair to from t k ≡ pair_of (start_of from s k) (length_of from s k)
  pair_same k h = ⊎_elim kept free (decided (is_occupied s k))
    where
      kept : is_occupied s k ≡ true → carried_pair to from t k ≡ pair_of (start_of from s k) (length_of from s k)
      kept e =
          let lie = (was.lie k (h, e)).0 in
          let start : base from + (start_of to t k - base to) ≡ start_of from s k = omega (arith, c.start_kept k (h, e), lie) in
          pair_kept to from t [] [] k (c.occupied_as k ∙ e) ∙ ap₂ pair_of start (c.length_as k h)

      free : is_occupied s k ≡ false → carried_pair to from t k ≡ pair_of (start_of from s k) (length_of from s k)
      free e =
          let blank = was.blank k (h, e) in
          pair_free to from t [] [] k (c.occupied_as k ∙ e) ∙ ap₂ pair_of (sym blank.0) (sym blank.1)

  pair_there : (k : ℕ) → k < slot_count → carried_pair to from t k ≡ take 8 (drop (from.pairs + k * 8) s)
  unfolding start_of length_of pair_place pair_of
  pair_there k h =
      let at = from.pairs + k * 8 in
      pair_same k h
      ∙ ap₂ (λ (x y : List ℕ). x ++ y) (bytes_of s at 4 bytes (omega (arith, was.least))) (bytes_of s (at + 4) 4 bytes (omega (arith, was.least)))
      ∙ ap (λ (x : List ℕ). take 4 (drop at s) ++ take 4 x) (sym (drop-drop 4 at s))
      ∙ sym (take-add 4 4 (drop at s))

  pub pairs_there : (n : ℕ) → n ≤ slot_count → gather (carried_pair to from t) (below n) ≡ take (n * 8) (drop from.pairs s)
  unfolding below gather
  pairs_there zero h = refl
  pairs_there (suc n) h =
      let next : n * 8 + 8 ≡ suc n * 8 = omega arith in
      gather_append (carried_pair to from t) (below n) (n ∷ [])
      ∙ ap₂ (λ (x y : List ℕ). x ++ y) (pairs_there n (omega arith))
      (append-nil (carried_pair to from t n) ∙ pair_there n (omega arith) ∙ ap (take 8) (sym (drop-drop (n * 8) from.pairs s)))
      ∙ sym (take-add (n * 8) 8 (drop from.pairs s))
      ∙ ap (λ (m : ℕ). take m (drop from.pairs s)) next

module _ (s : List ℕ) (bytes : Bytes s) where
  -- ---- there and back

  module _ (was : Sound version_one s) (room : end_of version_one s + 8 ≤ length s) where
    -- the last eight bytes were free
    last_free : drop (length s - 533) (drop 525 s) ≡ replicate 8 0
    unfolding end_of
    last_free =
        let end = 525 + held version_one s in
        let there : 525 + (length s - 533) ≡ end + (length s - 8 - end) = omega (arith, room) in
        let tail = drop (525 + (length s - 533)) s in
        let size : length tail ≡ 8 = length-drop (525 + (length s - 533)) s ∙ omega (arith, room) in
        drop-drop (length s - 533) 525 s
        ∙ zeros_are tail
        (ap (λ (n : ℕ). all (eqb 0) (drop n s)) there
        ∙ ap (all (eqb 0)) (sym (drop-drop (length s - 8 - end) end s))
        ∙ all_drop (eqb 0) (length s - 8 - end) (drop end s) was.zero)
        ∙ ap (λ (n : ℕ). replicate n 0) size

    behind_same : drop 533 (carried s) ++ replicate 8 0 ≡ drop 525 s
    unfolding carried
    behind_same =
        ap₂ (λ (x y : List ℕ). x ++ y)
        (from_texts version_one version_two s (sums s was room) (behind s was room) (omega (arith, was.least)) (fits s was room).wide)
        (sym last_free)
        ∙ take-append-drop (length s - 533) (drop 525 s)

    map_same : take 8 (drop 5 (carried s)) ≡ take 8 (drop 5 s)
    unfolding carried
    map_same = map_bytes_lem version_one version_two s (sums s was room) (behind s was room) (omega (arith, was.least))

    pub there_back : carried_back (carried s) ≡ s
    unfolding carried_back carried_as
    there_back =
        sym
        (assembled s (heading version_one) (take 8 (drop 5 (carried s))) []
        (gather (carried_pair version_two version_one (carried s)) (below slot_count))
        (drop 533 (carried s) ++ replicate 8 0)
        (headed_so version_one s was)
        (sym map_same)
        refl
        (sym (pairs_there version_one version_two s (carried s) was bytes (carried_two s was room) slot_count (omega arith)))
        (sym behind_same))

  -- ---- back and there

  module _ (was : Sound version_two s) where
    abbrev t : List ℕ
    t = carried_back s

    -- the way there is open
    pub back_room : end_of version_one t + 8 ≤ length t
    unfolding end_of
    back_room = omega (arith, (carried_one s was).held_as, one_long s was, was.room)

    -- the same bytes, and 0 as the figure
    abbrev zeroed : List ℕ
    zeroed = sets s 17 (in_bytes 4 0)

    map_back : take 8 (drop 5 t) ≡ take 8 (drop 5 s)
    unfolding carried_back
    map_back = map_bytes_lem version_two version_one s [] (lower s was) (omega (arith, was.least))

    held_back : in_bytes 4 (held version_one t) ≡ take 4 (drop 13 s)
    unfolding held_figure
    held_back =
        ap (in_bytes 4) ((carried_one s was).held_as ∙ sym (was.summed (omega arith))) ∙ bytes_of s 13 4 bytes (omega (arith, was.least))

    sums_back : take 8 (drop 13 zeroed) ≡ in_bytes 4 (held version_one t) ++ in_bytes 4 0
    sums_back =
        let size = in_bytes_length 4 0 in
        take-add 4 4 (drop 13 zeroed)
        ∙ ap₂ (λ (x y : List ℕ). x ++ y)
        (part_before (in_bytes 4 0) s 17 13 4 (omega arith) ∙ sym held_back)
        (ap (take 4) (drop-drop 4 13 zeroed) ∙ part_stored (in_bytes 4 0) s 17 4 (omega (arith, was.least)) (sym size))

    behind_back : take (length t - 533) (drop 525 t) ≡ drop 533 s
    unfolding carried_back
    behind_back =
        ap (take (length (carried_as version_two version_one s [] (lower s was)) - 533))
        (from_texts version_two version_one s [] (lower s was) (omega (arith, was.least)) (fits_back s was).wide)
        ∙ take_at (drop 533 s) (replicate 8 0) (length (carried_as version_two version_one s [] (lower s was)) - 533)
        (length-drop 533 s ∙ ap (λ (n : ℕ). n - 533) (sym long))
      where
        long : length (carried_as version_two version_one s [] (lower s was)) ≡ length s
        long = one_long s was

    sums_length : length (in_bytes 4 (held version_one t) ++ in_bytes 4 0) ≡ 8
    unfolding in_bytes
    sums_length = refl

    pub back_there : carried t ≡ zeroed
    unfolding carried carried_as
    back_there =
        let size = in_bytes_length 4 0 in
        let two = sums_length in
        sym
        (assembled zeroed (heading version_two) (take 8 (drop 5 t)) (in_bytes 4 (held version_one t) ++ in_bytes 4 0)
        (gather (carried_pair version_one version_two t) (below slot_count))
        (take (length t - 533) (drop 525 t))
        (front_stays (in_bytes 4 0) s 17 5 (omega arith) ∙ headed_so version_two s was)
        (part_before (in_bytes 4 0) s 17 5 8 (omega arith) ∙ sym map_back)
        (ap (λ (n : ℕ). take n (drop 13 zeroed)) two ∙ sums_back)
        (ap (λ (n : ℕ). take 512 (drop (13 + n) zeroed)) two
        ∙ ap (take 512) (rest_stays (in_bytes 4 0) s 17 21 (omega arith))
        ∙ sym (pairs_there version_two version_one s t was bytes (carried_one s was) slot_count (omega arith)))
        (ap (λ (n : ℕ). drop (13 + n + 512) zeroed) two ∙ rest_stays (in_bytes 4 0) s 17 533 (omega arith) ∙ sym behind_back))
