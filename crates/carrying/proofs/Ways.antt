-- Both ways are carrying from one layout into another: what was sound in its version is sound in the other, and says the same of each slot.
-- Assumes nothing.
use Prim.Native.Nat.{ℕ, ◌+◌, ◌-◌, ◌≤◌}
use mathlib.Core.Path.{◌≡◌, refl, sym, ap, ◌∙◌}
use mathlib.Core.List.{List, [], ◌++◌}
use native.Mathlib.Omega.{arith}
use lib.Dec.{eqb}
use lib.ListN.{length, take, drop, replicate, length-append, length-drop, length-replicate}
use lib.Seq.{length-take-le, take-append-le, drop-append-le, drop-drop, take_at}
use Rattle.lists.specs.Lists.{all}
use Rattle.lists.proofs.Texts.{all_append, and_both}
use Rattle.numbers.specs.Numbers.{number_at, in_bytes, read_on}
use Rattle.numbers.proofs.Stores.{part_cut}
use Rattle.numbers.proofs.Numbers.{in_bytes_length, read_back}
use Rattle.shelves.specs.Layout.{version_one, version_two, duplicates_of, held, end_of}
use Rattle.shelves.proofs.Sound.{Sound}
use Rattle.shelves.proofs.Zeros.{all_zeros, all_take}
use Rattle.carrying.specs.Carrying.{carried_as, carried, carried_back}
use Rattle.carrying.proofs.Parts.{part_front}
use Rattle.carrying.proofs.Carried.{Fits, Carried, from_sums, carried_length, carried_so, pairs}

module _ (s : List ℕ) where
  -- ---- version 1 into version 2

  module _ (was : Sound version_one s) (room : end_of version_one s + 8 ≤ length s) where
    abbrev pub sums : List ℕ
    sums = in_bytes 4 (held version_one s) ++ in_bytes 4 0

    abbrev pub behind : List ℕ
    behind = take (length s - 533) (drop 525 s)

    held_room : 533 + held version_one s ≤ length s
    unfolding end_of
    held_room = omega (arith, room)

    sums_length : length sums ≡ 8
    sums_length =
        omega
        (arith, length-append (in_bytes 4 (held version_one s)) (in_bytes 4 0), in_bytes_length 4 (held version_one s), in_bytes_length 4 0)

    behind_length : length behind ≡ length s - 533
    behind_length = length-take-le (length s - 533) (drop 525 s) (omega (arith, length-drop 525 s))

    sum_stored : number_at sums 0 4 ≡ held version_one s
    unfolding number_at
    sum_stored =
        ap (read_on 0) (take_at (in_bytes 4 (held version_one s)) (in_bytes 4 0) 4 (in_bytes_length 4 (held version_one s)))
        ∙ read_back 4 (held version_one s) (omega (arith, held_room, was.most))

    -- the free bytes, less eight
    free_behind : drop (held version_one s) behind ≡ take (length s - 533 - held version_one s) (drop (end_of version_one s) s)
    unfolding end_of
    free_behind =
        let h = held version_one s in
        let whole : h + (length s - 533 - h) ≡ length s - 533 = omega (arith, held_room) in
        ap (λ (n : ℕ). drop h (take n (drop 525 s))) (sym whole)
        ∙ sym (part_cut h (length s - 533 - h) (drop 525 s))
        ∙ ap (take (length s - 533 - h)) (drop-drop h 525 s)

    pub fits : Fits version_one version_two s sums behind
    fits = record {
      head = omega arith;
      wide = omega (arith, sums_length);
      summed = λ has. sum_stored;
      most = omega (arith, behind_length, was.most, held_room);
      room = omega (arith, behind_length, held_room);
      texts =
          λ n w h.
          part_front n w (length s - 533) (drop 525 s) (omega (arith, held_room)) ∙ ap (take w) (drop-drop n 525 s);
      zero =
          ap (all (eqb 0)) free_behind ∙ all_take (eqb 0) (length s - 533 - held version_one s) (drop (end_of version_one s) s) was.zero;
    }

    pub carried_two : Carried version_one version_two s (carried s)
    unfolding carried
    carried_two = carried_so version_one version_two s sums behind was fits

    pub two_long : length (carried s) ≡ length s
    unfolding carried
    two_long =
        carried_length version_one version_two s sums behind (omega (arith, was.least)) fits.wide ∙ omega (arith, behind_length, held_room)

    zero_stored : read_on 0 (take 4 (drop 4 sums)) ≡ 0
    unfolding in_bytes read_on
    zero_stored = refl

    -- "the duplicates figure starts at 0"
    pub figure_starts : duplicates_of (carried s) ≡ 0
    unfolding duplicates_of number_at carried
    figure_starts =
        ap (λ (l : List ℕ). read_on 0 (take 4 l))
        (sym (drop-drop 4 13 (carried_as version_one version_two s sums behind))
        ∙ ap (drop 4) (from_sums version_one version_two s sums behind (omega (arith, was.least)))
        ∙ drop-append-le 4 sums (pairs version_one version_two s sums behind ++ behind) (omega (arith, sums_length)))
        ∙ ap (read_on 0) (take-append-le 4 (drop 4 sums) (pairs version_one version_two s sums behind ++ behind) (omega (arith, length-drop 4 sums, sums_length)))
        ∙ zero_stored

  -- ---- version 2 into version 1

  module _ (was : Sound version_two s) where
    abbrev pub below : List ℕ
    below = drop 533 s ++ replicate 8 0

    below_length : length below ≡ length s - 533 + 8
    below_length =
        omega (arith, length-append (drop 533 s) (replicate {A = ℕ} 8 0), length-drop 533 s, length-replicate {A = ℕ} 8 0)

    held_within : 533 + held version_two s ≤ length s
    unfolding end_of
    held_within = omega (arith, was.room)

    free_below : drop (held version_two s) below ≡ drop (end_of version_two s) s ++ replicate 8 0
    unfolding end_of
    free_below =
        drop-append-le (held version_two s) (drop 533 s) (replicate 8 0) (omega (arith, length-drop 533 s, held_within))
        ∙ ap (λ (l : List ℕ). l ++ replicate 8 0) (drop-drop (held version_two s) 533 s)

    pub fits_back : Fits version_two version_one s [] below
    fits_back = record {
      head = omega arith;
      wide = refl;
      summed = λ has. absurd (omega arith);
      most = omega (arith, below_length, was.most, was.least);
      room = omega (arith, below_length, held_within);
      texts =
          λ n w h.
          ap (take w) (drop-append-le n (drop 533 s) (replicate 8 0) (omega (arith, length-drop 533 s, held_within)))
          ∙ take-append-le w (drop n (drop 533 s)) (replicate 8 0) (omega (arith, length-drop n (drop 533 s), length-drop 533 s, held_within))
          ∙ ap (take w) (drop-drop n 533 s);
      zero =
          ap (all (eqb 0)) free_below
          ∙ all_append (eqb 0) (drop (end_of version_two s) s) (replicate 8 0)
          ∙ and_both (all (eqb 0) (drop (end_of version_two s) s)) (all (eqb 0) (replicate 8 0)) was.zero (all_zeros 8);
    }

    pub carried_one : Carried version_two version_one s (carried_back s)
    unfolding carried_back
    carried_one = carried_so version_two version_one s [] below was fits_back

    pub one_long : length (carried_back s) ≡ length s
    unfolding carried_back
    one_long =
        carried_length version_two version_one s [] below (omega (arith, was.least)) fits_back.wide ∙ omega (arith, below_length, was.least)
