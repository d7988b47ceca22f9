-- What is read of a shelf: whether a slot is occupied, and the sum of what the slots keep. Assumes nothing.
use Prim.Native.Nat.{ℕ, ◌+◌}
use mathlib.Core.Path.{◌≡◌, sym, ap, ◌∙◌}
use mathlib.Core.Bool.{Bool, true, false}
use mathlib.Core.List.{List, [], ◌∷◌, map, map-append}
use native.Mathlib.Numerals.{add-one}
use native.Mathlib.Omega.{arith}
use Rattle.lists.proofs.Texts.{if_true, if_false}
use Rattle.shelves.specs.Layout.{Layout, slot_count, below, total, bit, map_of, is_occupied, occupied, length_of, held}
use Rattle.shelves.proofs.Sums.{total_append, total_those, sum_below}
use Rattle.shelf_layout.specs.Laid.{kept_in}

-- what a test of the map says of the slot
pub occupied_by : (s : List ℕ) (k : ℕ) {m : ℕ} {r b : Bool} → m ≡ map_of s → r ≡ bit m k → r ≡ b → is_occupied s k ≡ b
unfolding is_occupied
occupied_by s k e f g = ap (λ (n : ℕ). bit n k) (sym e) ∙ sym f ∙ g

module _ (l : Layout) (s : List ℕ) where
  pub keeps_some : (k : ℕ) → is_occupied s k ≡ true → length_of l s k ≡ kept_in l s k
  unfolding kept_in
  keeps_some k e = sym (if_true (is_occupied s k) (length_of l s k) 0 e)

  pub keeps_none : (k : ℕ) → is_occupied s k ≡ false → 0 ≡ kept_in l s k
  unfolding kept_in
  keeps_none k e = sym (if_false (is_occupied s k) (length_of l s k) 0 e)

  -- all that the slots keep
  pub held_is : sum_below slot_count (kept_in l s) ≡ held l s
  unfolding held occupied kept_in
  held_is = sym (total_those (is_occupied s) (length_of l s) (below slot_count))

pub sum_more : (v : ℕ → ℕ) (n sum : ℕ) → sum ≡ sum_below n v → sum + v n ≡ sum_below (n + 1) v
unfolding below total
sum_more v n sum e =
    sym (ap (λ (k : ℕ). sum_below k v) (add-one n)
    ∙ ap total (map-append v (below n) (n ∷ []))
    ∙ total_append (map v (below n)) (v n ∷ [])
    ∙ omega arith)
