-- The pairs stored one after another, each as it is without the text that was removed. Assumes nothing.
use Rattle.std.specs.Prelude.{if◌then◌else◌}
use Prim.Native.Nat.{ℕ, zero, suc, ◌+◌, ◌-◌, ◌*◌, ◌≤◌, ◌<◌}
use mathlib.Core.Path.{◌≡◌, refl, sym, ap, ap₂, ◌∙◌}
use mathlib.Core.Bool.{Bool, true, false}
use mathlib.Core.List.{List, [], ◌∷◌, ◌++◌, append-nil}
use native.Mathlib.Numerals.{add-one}
use native.Mathlib.Omega.{arith}
use lib.Dec.{eqb, ltb}
use borrow.Author.Tests.{eq-eqb, ne_eqb, lt-ltb, le-ltb}
use lib.ListN.{length, length-append}
use lib.Seq.{sets}
use Rattle.lists.specs.Lists.{gather}
use Rattle.lists.proofs.Texts.{gather_append, if_true, if_false}
use Rattle.numbers.proofs.Numbers.{number_behind}
use Rattle.shelves.specs.Layout.{Layout, below, pair_place, start_of, length_of}
use Rattle.shelves.specs.Operations.{pair_of, pair_without}
use Rattle.shelves.proofs.Stored.{pair_length}
use Rattle.storing.proofs.Stores.{sets_append}
use Rattle.shelf.specs.Parts.{lowered_pair}

-- a pair has eight bytes whichever it is
lowered_length : (removed start size slot a n : ℕ) → length (lowered_pair removed start size slot a n) ≡ 8
unfolding lowered_pair
lowered_length removed start size slot a n = by (eqb slot removed) (ltb start a)
  where
    by : (t u : Bool) → length (if t then pair_of 0 0 else (if u then pair_of (a - size) n else pair_of a n)) ≡ 8
    by true u = pair_length 0 0
    by false true = pair_length (a - size) n
    by false false = pair_length a n

-- which of the three it is
module _ (removed start size slot a n : ℕ) where
  pub lowered_removed : slot ≡ removed → pair_of 0 0 ≡ lowered_pair removed start size slot a n
  unfolding lowered_pair
  lowered_removed e = sym (if_true (eqb slot removed) (pair_of 0 0) _ (eq-eqb slot removed e))

  module _ (d : slot ≡ removed → ⊥) where
    pub lowered_later : start < a → pair_of (a - size) n ≡ lowered_pair removed start size slot a n
    unfolding lowered_pair
    lowered_later h =
        sym (if_false (eqb slot removed) (pair_of 0 0) _ (ne_eqb slot removed d) ∙ if_true (ltb start a) (pair_of (a - size) n) (pair_of a n) (lt-ltb start a h))

    pub lowered_earlier : a ≤ start → pair_of a n ≡ lowered_pair removed start size slot a n
    unfolding lowered_pair
    lowered_earlier h =
        sym (if_false (eqb slot removed) (pair_of 0 0) _ (ne_eqb slot removed d) ∙ if_false (ltb start a) (pair_of (a - size) n) (pair_of a n) (le-ltb start a h))

module _ (l : Layout) (s : List ℕ) (removed : ℕ) where
  abbrev pub pairs : ℕ → List ℕ
  pairs n = gather (pair_without l s removed) (below n)

  without_is : (k : ℕ) → pair_without l s removed k ≡ lowered_pair removed (start_of l s removed) (length_of l s removed) k (start_of l s k) (length_of l s k)
  unfolding pair_without lowered_pair
  without_is k = refl

  pairs_next : (n : ℕ) → pairs (n + 1) ≡ pairs n ++ pair_without l s removed n
  unfolding below gather
  pairs_next n =
      ap pairs (add-one n)
      ∙ gather_append (pair_without l s removed) (below n) (n ∷ [])
      ∙ ap (λ (x : List ℕ). pairs n ++ x) (append-nil (pair_without l s removed n))

  pub pairs_length : (n : ℕ) → length (pairs n) ≡ n * 8
  unfolding below gather
  pairs_length zero = refl
  pairs_length (suc n) =
      ap length (ap pairs (sym (add-one n)) ∙ pairs_next n)
      ∙ length-append (pairs n) (pair_without l s removed n)
      ∙ omega
      (arith, pairs_length n, ap length (without_is n), lowered_length removed (start_of l s removed) (length_of l s removed) n (start_of l s n) (length_of l s n))

  -- the pairs of the slots to come are as they were
  module _ {now : List ℕ} (n : ℕ) (e : now ≡ sets s l.pairs (pairs n)) where
    start_stays : start_of l now n ≡ start_of l s n
    unfolding start_of pair_place
    start_stays =
        ap (λ (x : List ℕ). start_of l x n) e
        ∙ number_behind s l.pairs (pairs n) (l.pairs + n * 8) 4 (omega (arith, pairs_length n))

    length_stays : length_of l now n ≡ length_of l s n
    unfolding length_of pair_place
    length_stays =
        ap (λ (x : List ℕ). length_of l x n) e
        ∙ number_behind s l.pairs (pairs n) (l.pairs + n * 8 + 4) 4 (omega (arith, pairs_length n))

    -- one more is stored
    pub pair_stored : {start size : ℕ} {after : List ℕ} → start ≡ start_of l s removed → size ≡ length_of l s removed
        → after ≡ sets now (pair_place l n) (lowered_pair removed start size n (start_of l now n) (length_of l now n))
        → after ≡ sets s l.pairs (pairs (n + 1))
    unfolding pair_place
    pair_stored {start} {size} p q g =
        let pair = pair_without l s removed n in
        g
        ∙ ap₂ (λ (x : List ℕ) (y : List ℕ). sets x (l.pairs + n * 8) y) e
        (ap₂ (λ (a b : ℕ). lowered_pair removed start size n a b) start_stays length_stays
        ∙ ap₂ (λ (a b : ℕ). lowered_pair removed a b n (start_of l s n) (length_of l s n)) p q
        ∙ sym (without_is n))
        ∙ ap (λ (k : ℕ). sets (sets s l.pairs (pairs n)) (l.pairs + k) pair) (sym (pairs_length n))
        ∙ sym (sets_append s l.pairs (pairs n) pair)
        ∙ ap (sets s l.pairs) (sym (pairs_next n))

    -- what is to be lowered can be
    pub can_lower : {start size : ℕ} → start ≡ start_of l s removed → size ≡ length_of l s removed
        → (start_of l s removed < start_of l s n → length_of l s removed ≤ start_of l s n) → start < start_of l now n → size ≤ start_of l now n
    can_lower p q h i = let t = start_stays in omega (arith, h (omega arith))
