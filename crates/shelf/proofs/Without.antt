-- A shelf without one of its texts. Assumes nothing.
use Prim.Native.Nat.{ℕ, zero, suc, ◌+◌, ◌-◌, ◌*◌, ◌≤◌, ◌<◌}
use mathlib.Core.Path.{◌≡◌, refl, sym, ap, ap₂, ◌∙◌}
use mathlib.Core.Bool.{true, false}
use mathlib.Core.List.{List, [], ◌∷◌, ◌++◌}
use mathlib.Core.Logic.{⊎_elim}
use native.Mathlib.Nat.{add-sub_cancel_left}
use native.Mathlib.Omega.{arith}
use lib.ListN.{length, take, drop, replicate}
use lib.Seq.{sets}
use Rattle.lists.specs.Lists.{gather}
use Rattle.lists.proofs.Texts.{decided, gather_append}
use Rattle.numbers.proofs.Numbers.{number_before}
use Rattle.shelves.specs.Layout.{Layout, slot_count, below, is_occupied, base, pair_place, start_of, length_of, end_of}
use Rattle.shelves.specs.Soundness.{sound}
use Rattle.shelves.specs.Operations.{pair_without, texts_without}
use Rattle.shelves.proofs.Sound.{Sound, says_sound}
use Rattle.shelf.specs.Parts.{Lowers, cleared}
use Rattle.shelf.proofs.Pairs.{pairs}

module _ (l : Layout) (s : List ℕ) (slot : ℕ) (q : sound l s ≡ true) (i : slot < slot_count) (o : is_occupied s slot ≡ true) where
  shelf : Sound l s
  shelf = (says_sound l s).0 q

  -- where the text lies
  pub text_lies : (base l ≤ start_of l s slot) × (start_of l s slot + length_of l s slot ≤ end_of l s) × (end_of l s ≤ length s)
  text_lies = let h = shelf.lie slot (i, o) in (h.0, h.1, shelf.room)

  -- a text that starts later starts behind it
  pub later_lies : Lowers l s slot
  later_lies k j h = ⊎_elim kept free (decided (is_occupied s k))
    where
      kept : is_occupied s k ≡ true → length_of l s slot ≤ start_of l s k
      kept p =
          ⊎_elim
          (λ (a : start_of l s slot + length_of l s slot ≤ start_of l s k). omega arith)
          (λ (a : start_of l s k + length_of l s k ≤ start_of l s slot). absurd (omega arith))
          (shelf.disjoint slot k (i, o) (j, p) (λ e. omega (arith, ap (start_of l s) e)))

      free : is_occupied s k ≡ false → length_of l s slot ≤ start_of l s k
      free p = absurd (omega (arith, (shelf.blank k (j, p)).0))

  -- ---- after the texts were moved

  module _ {moved : List ℕ} (e : moved ≡ sets s (start_of l s slot) (texts_without l s slot)) where
    -- the pairs are as they were
    pub start_kept_lem : (k : ℕ) → k < slot_count → start_of l moved k ≡ start_of l s k
    unfolding start_of pair_place
    start_kept_lem k j =
        ap (λ (x : List ℕ). start_of l x k) e
        ∙ number_before s (start_of l s slot) (texts_without l s slot) (l.pairs + k * 8) 4 (let h = text_lies in omega arith)

    pub length_kept : (k : ℕ) → k < slot_count → length_of l moved k ≡ length_of l s k
    unfolding length_of pair_place
    length_kept k j =
        ap (λ (x : List ℕ). length_of l x k) e
        ∙ number_before s (start_of l s slot) (texts_without l s slot) (l.pairs + k * 8 + 4) 4 (let h = text_lies in omega arith)

    pub still_lower : Lowers l moved slot
    still_lower k j h =
        let a = start_kept_lem slot i in
        let b = start_kept_lem k j in
        let n = length_kept slot i in
        omega (arith, later_lies k j (omega arith))

    pair_kept : (k : ℕ) → k < slot_count → pair_without l moved slot k ≡ pair_without l s slot k
    unfolding pair_without
    pair_kept k j = rw (start_kept_lem slot i, start_kept_lem k j, length_kept slot i, length_kept k j)

    pairs_kept : (n : ℕ) → n ≤ slot_count → pairs l moved slot n ≡ pairs l s slot n
    unfolding below gather
    pairs_kept zero h = refl
    pairs_kept (suc n) h =
        gather_append (pair_without l moved slot) (below n) (n ∷ [])
        ∙ ap₂ (λ (x y : List ℕ). x ++ (y ++ [])) (pairs_kept n (omega arith)) (pair_kept n (omega arith))
        ∙ sym (gather_append (pair_without l s slot) (below n) (n ∷ []))

    pub taken_out : {paired : List ℕ} → paired ≡ sets moved l.pairs (pairs l moved slot slot_count) → paired ≡ cleared l s slot
    unfolding cleared
    taken_out p = p ∙ ap₂ (λ (x y : List ℕ). sets x l.pairs y) e (pairs_kept slot_count (omega arith))

-- the texts behind it, from the numbers that were read
pub texts_moved : (l : Layout) (s : List ℕ) (slot : ℕ) {a n end : ℕ} → a ≡ start_of l s slot → n ≡ length_of l s slot → end ≡ end_of l s
    → {after : List ℕ} → after ≡ sets s a (take (end - (a + n)) (drop (a + n) s) ++ replicate (a + n - a) 0)
    → after ≡ sets s (start_of l s slot) (texts_without l s slot)
unfolding texts_without
texts_moved l s slot {a} {n} {end} p q r g =
    g
    ∙ ap (λ (k : ℕ). sets s a (take (end - (a + n)) (drop (a + n) s) ++ replicate k 0)) (add-sub_cancel_left a n)
    ∙ ap₂ (λ (b m : ℕ). sets s b (take (end - (b + m)) (drop (b + m) s) ++ replicate m 0)) p q
    ∙ ap
    (λ (k : ℕ). sets s (start_of l s slot) (take (k - (start_of l s slot + length_of l s slot)) (drop (start_of l s slot + length_of l s slot) s) ++ replicate (length_of l s slot) 0))
    r
