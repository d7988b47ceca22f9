-- A slot that two sound shelves hold alike is answered alike; and how many slots are occupied. Assumes nothing.
use Rattle.std.specs.Prelude.{if◌then◌else◌}
use Prim.Native.Nat.{ℕ, ◌+◌, ◌≤◌, ◌<◌}
use mathlib.Core.Path.{◌≡◌, refl, sym, ap, ap₂, ◌∙◌}
use mathlib.Core.Bool.{Bool, true, false, ◌&&◌}
use mathlib.Core.List.{List, [], ◌∷◌, map}
use mathlib.Core.Logic.{⊎_elim}
use native.Mathlib.Omega.{arith}
use lib.Dec.{ltb}
use lib.ListN.{length, take, drop}
use Rattle.lists.specs.Lists.{those}
use Rattle.lists.proofs.Texts.{if_true, if_false}
use Rattle.lists.proofs.Tests.{Says, says_lt, says_both, decides}
use Rattle.answers.specs.Answers.{given}
use Rattle.shelves.specs.Layout.{Layout, slot_count, below, total, is_occupied, Occupied, occupied, length_of, text_of}
use Rattle.shelves.specs.Operations.{length_answer}
use Rattle.shelves.proofs.Sound.{says_sound}
use Rattle.shelves.proofs.Sums.{total_those, sum_below, sum_but_one}
use Rattle.shelves.proofs.Answered.{slot_there, slot_refused, slot_given}
use Rattle.shelf_laws.specs.Shelf.{Sound, got}
use Rattle.shelf_laws.proofs.Order.{free_refused}
use Rattle.shelf_laws.proofs.RemoveCases.{got_text}

-- ---- a slot in two shelves

-- what Get and its companion say of a slot is the same in both
abbrev pub SaysAlike : Layout → (s t : List ℕ) → ℕ → Type 0
SaysAlike l s t k = (length_answer l t k ≡ length_answer l s k) × (got l t k ≡ got l s k)

-- the test of being occupied
says_occupied : (s : List ℕ) (k : ℕ) → Says (ltb k slot_count && is_occupied s k) (Occupied s k)
says_occupied s k = says_both (ltb k slot_count) (is_occupied s k) (says_lt k slot_count) (λ h. h, λ h. h)

module _ (k : ℕ) where
  -- an occupied slot of a sound shelf
  measured : (l : Layout) (s : List ℕ) → Sound l s → Occupied s k → length_answer l s k ≡ given (length_of l s k ∷ [])
  measured l s sane o = (slot_given l s k (slot_there l s k sane ((says_occupied s k).1 o))).0

  -- of any other, zero bytes
  nothing : (l : Layout) (s : List ℕ) → Sound l s → (Occupied s k → ⊥) → got l s k ≡ []
  nothing l s sane u =
      let d = slot_refused l s k (free_refused l s k sane u) in
      ap₂ (λ (w n : ℕ). take w (drop n s)) d.2 d.1

  -- the shelves may have different layouts
  pub alike_in : (l m : Layout) → 13 ≤ l.pairs → 13 ≤ m.pairs → (s t : List ℕ) → Sound l s → Sound m t
      → (k < slot_count → is_occupied t k ≡ is_occupied s k) → (k < slot_count → length_of m t k ≡ length_of l s k)
      → (Occupied s k → text_of m t k ≡ text_of l s k) → (length_answer m t k ≡ length_answer l s k) × (got m t k ≡ got l s k)
  alike_in l m head heads s t was is same long text =
      ⊎_elim
      (λ (o : Occupied s k).
      let q : Occupied t k = (o.0, same o.0 ∙ o.1) in (
        measured m t is q ∙ ap (λ (n : ℕ). given (n ∷ [])) (long o.0) ∙ sym (measured l s was o),
        got_text m t k heads ((says_sound m t).0 is) q ∙ text o ∙ sym (got_text l s k head ((says_sound l s).0 was) o),
      ))
      (λ (u : Occupied s k → ⊥).
      let v : Occupied t k → ⊥ = λ q. u (q.0, sym (same q.0) ∙ q.1) in (
        (slot_refused m t k (free_refused m t k is v)).0 ∙ sym (slot_refused l s k (free_refused l s k was u)).0,
        nothing m t is v ∙ sym (nothing l s was u),
      ))
      (decides (ltb k slot_count && is_occupied s k) (says_occupied s k))

pub alike : (l : Layout) → 13 ≤ l.pairs → (k : ℕ) (s t : List ℕ) → Sound l s → Sound l t → (k < slot_count → is_occupied t k ≡ is_occupied s k)
    → (k < slot_count → length_of l t k ≡ length_of l s k) → (Occupied s k → text_of l t k ≡ text_of l s k) → SaysAlike l s t k
alike l head k = alike_in k l l head head

-- ---- how many are occupied

-- a slot counts one where it is occupied
abbrev one : List ℕ → ℕ → ℕ
one s k = if is_occupied s k then 1 else 0

length_total : (ks : List ℕ) → length ks ≡ total (map (λ k. 1) ks)
unfolding total
length_total [] = refl
length_total (k ∷ ks) = let e = length_total ks in omega arith

count_sum : (s : List ℕ) → length (occupied s) ≡ sum_below slot_count (one s)
unfolding occupied
count_sum s = length_total (those (is_occupied s) (below slot_count)) ∙ total_those (is_occupied s) (λ k. 1) (below slot_count)

module _ (s after : List ℕ) (slot : ℕ) (h : slot < slot_count)
    (others : (k : ℕ) → k < slot_count → (k ≡ slot → ⊥) → is_occupied after k ≡ is_occupied s k) where
  changed : length (occupied after) + one s slot ≡ length (occupied s) + one after slot
  changed =
      let e : sum_below slot_count (one after) + one s slot ≡ sum_below slot_count (one s) + one after slot =
      sum_but_one (one after) (one s) slot_count slot h (λ k i d. ap (λ (b : Bool). if b then 1 else 0) (others k i d)) in
      omega (arith, count_sum s, count_sum after)

  -- a slot that was free and is occupied is one more
  pub one_more : is_occupied s slot ≡ false → is_occupied after slot ≡ true → length (occupied after) ≡ length (occupied s) + 1
  one_more f o = omega (arith, changed, if_false {A = ℕ} (is_occupied s slot) 1 0 f, if_true {A = ℕ} (is_occupied after slot) 1 0 o)

  -- and the other way round one less
  pub one_less : is_occupied s slot ≡ true → is_occupied after slot ≡ false → length (occupied after) + 1 ≡ length (occupied s)
  one_less o f = omega (arith, changed, if_true {A = ℕ} (is_occupied s slot) 1 0 o, if_false {A = ℕ} (is_occupied after slot) 1 0 f)
