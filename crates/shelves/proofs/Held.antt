-- The bytes held, as a sum over all slots, and how they change where one slot changes. Assumes nothing.
use Rattle.std.specs.Prelude.{if◌then◌else◌}
use Prim.Native.Nat.{ℕ, ◌+◌, ◌≤◌, ◌<◌}
use mathlib.Core.Path.{◌≡◌, ap, ap₂}
use mathlib.Core.Bool.{Bool, true, false}
use mathlib.Core.List.{List, [], map}
use native.Mathlib.Omega.{arith}
use Rattle.lists.proofs.Texts.{if_true, if_false}
use Rattle.shelves.specs.Layout.{Layout, slot_count, below, total, is_occupied, Occupied, Free, occupied, length_of, held}
use Rattle.shelves.proofs.Sums.{total_those, sum_below, sum_but_one, sum_least}

module _ (l : Layout) where
  -- what a slot counts: the length of its text, and nothing where it is free
  abbrev pub weight : List ℕ → ℕ → ℕ
  weight s k = if is_occupied s k then length_of l s k else 0

  pub held_sum : (s : List ℕ) → held l s ≡ sum_below slot_count (weight s)
  unfolding held occupied
  held_sum s = total_those (is_occupied s) (length_of l s) (below slot_count)

  weight_occupied : (s : List ℕ) (k : ℕ) → is_occupied s k ≡ true → weight s k ≡ length_of l s k
  weight_occupied s k e = if_true (is_occupied s k) (length_of l s k) 0 e

  weight_free : (s : List ℕ) (k : ℕ) → is_occupied s k ≡ false → weight s k ≡ 0
  weight_free s k e = if_false (is_occupied s k) (length_of l s k) 0 e

  -- where no slot is occupied, nothing is held
  pub held_nothing : (s : List ℕ) → occupied s ≡ [] → held l s ≡ 0
  unfolding held total
  held_nothing s e = ap (λ (ks : List ℕ). total (map (length_of l s) ks)) e

  -- all slots but one are as they were
  pub record Others (s after : List ℕ) (slot : ℕ) : Type 0 where
    pub occupied_as : (k : ℕ) → k < slot_count → (k ≡ slot → ⊥) → is_occupied after k ≡ is_occupied s k
    pub length_as : (k : ℕ) → k < slot_count → (k ≡ slot → ⊥) → length_of l after k ≡ length_of l s k

  changed : (s after : List ℕ) (slot : ℕ) → slot < slot_count → Others s after slot → held l after + weight s slot ≡ held l s + weight after slot
  changed s after slot h o =
      let e : sum_below slot_count (weight after) + weight s slot ≡ sum_below slot_count (weight s) + weight after slot =
      sum_but_one (weight after) (weight s) slot_count slot h
      (λ k i d. ap₂ (λ (b : Bool) (n : ℕ). if b then n else 0) (o.occupied_as k i d) (o.length_as k i d)) in
      omega (arith, held_sum s, held_sum after)

  -- a slot that was free and is occupied adds its length
  pub held_more : (s after : List ℕ) (slot : ℕ) → Others s after slot → Free s slot → Occupied after slot
      → held l after ≡ held l s + length_of l after slot
  held_more s after slot o f q =
      omega (arith, changed s after slot f.0 o, weight_free s slot f.1, weight_occupied after slot q.1)

  -- a slot that was occupied and is free takes its length away
  pub held_less : (s after : List ℕ) (slot : ℕ) → Others s after slot → Occupied s slot → Free after slot
      → held l after + length_of l s slot ≡ held l s
  held_less s after slot o q f =
      omega (arith, changed s after slot f.0 o, weight_free after slot f.1, weight_occupied s slot q.1)

  -- a text is at most as long as all of them
  pub held_least : (s : List ℕ) (k : ℕ) → Occupied s k → length_of l s k ≤ held l s
  held_least s k o = omega (arith, held_sum s, weight_occupied s k o.1, sum_least (weight s) slot_count k o.0)
