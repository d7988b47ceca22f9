-- The clauses of soundness, slot by slot, as the code asks them one after another. Assumes nothing.
use Rattle.std.specs.Prelude.{ℕ, ◌+◌, ◌≤◌, ◌<◌, ◌≡◌, Bool, true, ◌&&◌, List, ◌↔◌, eqb, length, get_or, drop, if◌then◌else◌}
use Rattle.lists.specs.Lists.{all}
use Rattle.shelves.specs.Layout.{Layout, most_shelf, slot_count, total, base, is_occupied, start_of, length_of, text_of, end_of}
use Rattle.shelves.specs.Soundness.{is_normal_form, lies, apart, differ, is_blank_pair}

-- the answer is "yes" exactly where the statement holds
abbrev pub Says : Bool → Type 0 → Type 0
Says t P = (t ≡ true) ↔ P

-- every slot from a number on has it
abbrev pub Each : (ℕ → Type 0) → ℕ → Type 0
Each P from = (k : ℕ) → from ≤ k → k < slot_count → P k

module _ (l : Layout) (s : List ℕ) where
  -- a kept text lies in the room that the texts fill, and a free slot's pair is blank
  unfoldable pub placed : ℕ → Bool
  placed k = if is_occupied s k then lies l s k else is_blank_pair l s k

  abbrev pub Placed : Type 0
  Placed = Each (λ k. placed k ≡ true) 0

  -- the sum of the bytes of what a slot keeps
  unfoldable pub sum_in : ℕ → ℕ
  sum_in k = if is_occupied s k then total (text_of l s k) else 0

  abbrev pub Summed : List ℕ → Type 0
  Summed sums = (k : ℕ) → k < slot_count → get_or sums k 0 ≡ sum_in k

  -- a slot's text and another's, where it keeps one, are apart and differ
  unfoldable pub parted : ℕ → ℕ → Bool
  parted j k = if is_occupied s k then apart l s j k && differ l s j k else true

  -- a kept text and those in later slots
  abbrev pub AloneAt : ℕ → Type 0
  AloneAt j = is_occupied s j ≡ true → Each (λ k. parted j k ≡ true) (j + 1)

  abbrev pub Alone : Type 0
  Alone = Each AloneAt 0

  -- what a slot keeps is a normal form
  unfoldable pub formed : ℕ → Bool
  formed k = if is_occupied s k then is_normal_form (text_of l s k) else true

  abbrev pub Formed : Type 0
  Formed = Each (λ k. formed k ≡ true) 0

  -- the shelf has its size, and every kept text lies in it
  pub record Ranged : Type 0 where
    pub least : base l ≤ length s
    pub most : length s ≤ most_shelf
    pub within : (k : ℕ) → k < slot_count → is_occupied s k ≡ true → start_of l s k + length_of l s k ≤ length s

  -- what is left to ask of such a shelf
  abbrev pub Kept : Type 0
  Kept = Alone × (all (eqb 0) (drop (end_of l s) s) ≡ true) × Formed
