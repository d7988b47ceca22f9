-- The pairs stored one after another, each with its start in the other layout. Assumes nothing.
use Rattle.std.specs.Prelude.{if◌then◌else◌}
use Prim.Native.Nat.{ℕ, ◌+◌, ◌-◌, ◌*◌}
use mathlib.Core.Path.{◌≡◌, sym, ap, ap₂, ◌∙◌}
use mathlib.Core.Bool.{Bool, true, false}
use mathlib.Core.List.{List, [], ◌∷◌, ◌++◌, append-nil}
use native.Mathlib.Numerals.{add-one}
use native.Mathlib.Omega.{arith}
use lib.ListN.{length}
use lib.Seq.{sets}
use Rattle.lists.specs.Lists.{gather}
use Rattle.lists.proofs.Texts.{gather_append, if_true, if_false}
use Rattle.numbers.proofs.Numbers.{number_behind}
use Rattle.shelves.specs.Layout.{Layout, below, bit, base, pair_place, start_of, length_of}
use Rattle.shelves.specs.Operations.{pair_of}
use Rattle.shelves.proofs.Stored.{pair_length}
use Rattle.shelves.proofs.Gathered.{gathered_length}
use Rattle.storing.proofs.Stores.{sets_append}
use Rattle.shelf_carrying.specs.Parts.{shifted_pair, shifted_pairs}

module _ (from to : Layout) (map : ℕ) (s : List ℕ) where
  -- which of the two pairs it is
  pub shifted_kept : (k : ℕ) → bit map k ≡ true
      → pair_of (base to + (start_of to s k - base from)) (length_of to s k) ≡ shifted_pair from to map s k
  unfolding shifted_pair
  shifted_kept k e = sym (if_true (bit map k) (pair_of (base to + (start_of to s k - base from)) (length_of to s k)) (pair_of 0 0) e)

  pub shifted_free : (k : ℕ) → bit map k ≡ false → pair_of 0 0 ≡ shifted_pair from to map s k
  unfolding shifted_pair
  shifted_free k e = sym (if_false (bit map k) (pair_of (base to + (start_of to s k - base from)) (length_of to s k)) (pair_of 0 0) e)

  shifted_eight : (k : ℕ) → length (shifted_pair from to map s k) ≡ 8
  unfolding shifted_pair
  shifted_eight k = step (bit map k)
    where
      step : (b : Bool) → length (if b then pair_of (base to + (start_of to s k - base from)) (length_of to s k) else pair_of 0 0) ≡ 8
      step true = pair_length (base to + (start_of to s k - base from)) (length_of to s k)
      step false = pair_length 0 0

  pairs_next : (n : ℕ) → shifted_pairs from to map s (n + 1) ≡ shifted_pairs from to map s n ++ shifted_pair from to map s n
  unfolding shifted_pairs below gather
  pairs_next n =
      ap (λ (m : ℕ). gather (shifted_pair from to map s) (below m)) (add-one n)
      ∙ gather_append (shifted_pair from to map s) (below n) (n ∷ [])
      ∙ ap (λ (x : List ℕ). gather (shifted_pair from to map s) (below n) ++ x) (append-nil (shifted_pair from to map s n))

  pub shifted_length : (n : ℕ) → length (shifted_pairs from to map s n) ≡ n * 8
  unfolding shifted_pairs
  shifted_length n = gathered_length (shifted_pair from to map s) shifted_eight n

  -- the pairs of the slots to come are as they were
  module _ {now : List ℕ} (n : ℕ) (e : now ≡ sets s to.pairs (shifted_pairs from to map s n)) where
    pub start_stays : start_of to now n ≡ start_of to s n
    unfolding start_of pair_place
    start_stays =
        ap (λ (x : List ℕ). start_of to x n) e
        ∙ number_behind s to.pairs (shifted_pairs from to map s n) (to.pairs + n * 8) 4 (omega (arith, shifted_length n))

    length_stays : length_of to now n ≡ length_of to s n
    unfolding length_of pair_place
    length_stays =
        ap (λ (x : List ℕ). length_of to x n) e
        ∙ number_behind s to.pairs (shifted_pairs from to map s n) (to.pairs + n * 8 + 4) 4 (omega (arith, shifted_length n))

    pair_stays : shifted_pair from to map now n ≡ shifted_pair from to map s n
    unfolding shifted_pair
    pair_stays =
        ap₂ (λ (a m : ℕ). if bit map n then pair_of (base to + (a - base from)) m else pair_of 0 0) start_stays length_stays

    -- one more is stored
    pub pair_stored : {after : List ℕ} → after ≡ sets now (pair_place to n) (shifted_pair from to map now n)
        → after ≡ sets s to.pairs (shifted_pairs from to map s (n + 1))
    unfolding pair_place
    pair_stored g =
        let pair = shifted_pair from to map s n in
        g
        ∙ ap₂ (λ (x : List ℕ) (y : List ℕ). sets x (to.pairs + n * 8) y) e pair_stays
        ∙ ap (λ (k : ℕ). sets (sets s to.pairs (shifted_pairs from to map s n)) (to.pairs + k) pair) (sym (shifted_length n))
        ∙ sym (sets_append s to.pairs (shifted_pairs from to map s n) pair)
        ∙ ap (sets s to.pairs) (sym (pairs_next n))
