-- Request 2026-13, two networks, either order. Each field of the record is a theorem; `proofs/Theorems.antt` proves it for every layout that has
-- the two sums, and so for version 2. Assumes nothing.
use Rattle.refusals.specs.declared.Refusal.{Refusal}
use Rattle.std.specs.Prelude.{ℕ, ◌+◌, ◌-◌, ◌≤◌, min, ◌≡◌, true, ◌⊎◌, ◌↔◌, length, if◌then◌else◌, Ok, None, Result}
use mathlib.Core.List.{List, [], ◌∷◌, ◌++◌, map, Memᴰ}
use Rattle.lists.specs.Lists.{same, all, any, those}
use Rattle.stages.specs.Contents.{normal_form}
use Rattle.operations.specs.Compare.{is_accepted}
use Rattle.shelves.specs.declared.Shelved.{Shelved}
use Rattle.shelves.specs.declared.Shelved.TheVariants as shelved
use Rattle.shelves.specs.declared.TwoSums.{TwoSums}
use Rattle.shelves.specs.Layout.{Layout, total, Occupied, occupied, free, duplicates_of, text_of, kept, held, end_of}
use Rattle.shelf_contracts.specs.Promises.{Puts, Counts, Sums}
use Rattle.shelf_laws.specs.Shelf.{Sound}

-- the text is kept on the shelf, in whatever slot
abbrev pub Kept : Layout → (s text : List ℕ) → Type 0
Kept l s text = (k : ℕ) × Occupied s k × (text_of l s k ≡ text)

-- "the same kept texts, bytes held and duplicates figure. Slot numbers may differ." As texts on a shelf differ, as many slots are occupied.
pub record Alike (l : Layout) (s t : List ℕ) : Type 0 where
  pub texts : (text : List ℕ) → Kept l s text ↔ Kept l t text
  pub slots : length (occupied s) ≡ length (occupied t)
  pub bytes : held l s ≡ held l t
  pub duplicates : duplicates_of s ≡ duplicates_of t

-- the bytes behind the last text
unfoldable pub free_bytes : Layout → (s : List ℕ) → ℕ
free_bytes l s = length s - end_of l s

-- of these texts, those that are not known, each once
unfoldable pub new_of : (known texts : List (List ℕ)) → List (List ℕ)
new_of known [] = []
new_of known (form ∷ forms) = if any (same form) known then new_of known forms else form ∷ new_of (form ∷ known) forms

-- the different normal forms of the interchanges that the shelf does not keep yet
unfoldable pub new_forms : Layout → (s : List ℕ) → (inputs : List (List ℕ)) → List (List ℕ)
new_forms l s inputs = new_of (kept l s) (map normal_form inputs)

-- a free slot for each of the new normal forms, and free bytes for all of them together; copies need none
pub record Room (l : Layout) (s : List ℕ) (inputs : List (List ℕ)) : Type 0 where
  pub slots : length (new_forms l s inputs) ≤ length (free s)
  pub bytes : total (map length (new_forms l s inputs)) ≤ free_bytes l s

-- a sound shelf has room for either of two accepted interchanges, and not for both
pub record RoomForEither (l : Layout) (s a b : List ℕ) : Type 0 where
  pub sane : Sound l s
  pub accepted_a : is_accepted a ≡ true
  pub accepted_b : is_accepted b ≡ true
  pub room_a : Room l s (a ∷ [])
  pub room_b : Room l s (b ∷ [])
  pub not_both : Room l s (a ∷ b ∷ []) → ⊥

-- the interchanges are put on the shelf s one after the other, and nothing is done between, which leaves the shelf t: each Put answers and
-- leaves what its contract allows
unfoldable pub PutAll : Layout → (s : List ℕ) → List (List ℕ) → (t : List ℕ) → Type 0
PutAll l s [] t = t ≡ s
PutAll l s (input ∷ inputs) t = (r : Result Shelved Refusal) × (after : List ℕ) × Puts l s input r after × PutAll l after inputs t

-- how often it stands in the list
unfoldable pub times_in : List (List ℕ) → List ℕ → ℕ
times_in texts text = length (those (same text) texts)

-- the one list is the other in some order: everything stands in both as often
abbrev pub Reordered : (first second : List (List ℕ)) → Type 0
Reordered first second = (text : List ℕ) → times_in first text ≡ times_in second text

pub record EitherOrder (l : Layout) : Type 0 where
  -- The request. Two sites have the same shelf. It is sound, and has at least two free slots, and free bytes for the normal forms of a and b
  -- together; both are accepted. One site puts a and then b, the other b and then a, and nothing between. Then both keep the same
  -- texts, hold as many bytes, and have the same duplicates figure: whether a and b are new, one or both are kept already, or they are the
  -- same under two spellings, and also where the figure is at its ceiling.
  pub two : (s a b : List ℕ) → Sound l s → is_accepted a ≡ true → is_accepted b ≡ true
      → 2 ≤ length (free s) → length (normal_form a) + length (normal_form b) ≤ free_bytes l s
      → (ra rb qb qa : Result Shelved Refusal) (afterA afterAB afterB afterBA : List ℕ)
      → Puts l s a ra afterA → Puts l afterA b rb afterAB
      → Puts l s b qb afterB → Puts l afterB a qa afterBA
      → Alike l afterAB afterBA
  -- The same of a whole morning: of any list of accepted interchanges with room for those that are new, in any two orders.
  pub any_order : (s : List ℕ) (first second : List (List ℕ)) → Sound l s → all is_accepted first ≡ true → Room l s first
      → Reordered first second
      → (t v : List ℕ) → PutAll l s first t → PutAll l s second v → Alike l t v
  -- And of two sites whose shelves are alike, though slots and sizes may differ, while each network spells the interchanges as it
  -- likes: it suffices that the normal forms are the same, each as often.
  pub two_sites : (s u : List ℕ) (first second : List (List ℕ)) → Sound l s → Sound l u → Alike l s u
      → all is_accepted first ≡ true → all is_accepted second ≡ true → Room l s first → Room l u second
      → Reordered (map normal_form first) (map normal_form second)
      → (t v : List ℕ) → PutAll l s first t → PutAll l u second v → Alike l t v
  -- There is room where there is a free slot for each interchange, and free bytes for all the normal forms together, copies too: `two` asks this.
  pub enough_room : (s : List ℕ) (inputs : List (List ℕ)) → length inputs ≤ length (free s)
      → total (map length (map normal_form inputs)) ≤ free_bytes l s → Room l s inputs
  -- What such a shelf then keeps: what it kept, the normal forms of all that was put, and nothing else. It is sound.
  pub keeps_all : (s : List ℕ) (inputs : List (List ℕ)) → Sound l s → all is_accepted inputs ≡ true → Room l s inputs
      → (t : List ℕ) → PutAll l s inputs t
      → Sound l t × ((text : List ℕ) → Kept l t text ↔ (Kept l s text ⊎ Memᴰ text (map normal_form inputs)))
  -- None of these puts is refused: each answers a slot, of a new text or of a copy.
  pub none_refused : (s : List ℕ) (before : List (List ℕ)) (input : List ℕ) (behind : List (List ℕ)) → Sound l s
      → all is_accepted (before ++ input ∷ behind) ≡ true → Room l s (before ++ input ∷ behind)
      → (m after : List ℕ) (r : Result Shelved Refusal) → PutAll l s before m → Puts l m input r after
      → (slot : ℕ) × ((r ≡ Ok (shelved.New slot)) ⊎ (r ≡ Ok (shelved.Copy slot)))
  -- The two figures then: the new normal forms' bytes are held too, and every other put found its copy and was counted, up to the ceiling.
  pub figures_then : (s : List ℕ) (inputs : List (List ℕ)) → Sound l s → all is_accepted inputs ≡ true → Room l s inputs
      → (t : List ℕ) → PutAll l s inputs t
      → (held l t ≡ held l s + total (map length (new_forms l s inputs)))
      × (duplicates_of s ≤ 4294967295
      → duplicates_of t ≡ min (duplicates_of s + (length inputs - length (new_forms l s inputs))) 4294967295)
  -- The room is needed: where there is room for either and not for both, each site keeps the one that it saw first, and not the other.
  pub room_needed : (s a b : List ℕ) → RoomForEither l s a b
      → (t v : List ℕ) → PutAll l s (a ∷ b ∷ []) t → PutAll l s (b ∷ a ∷ []) v
      → (Kept l t (normal_form a) × (Kept l t (normal_form b) → ⊥)) × (Kept l v (normal_form b) × (Kept l v (normal_form a) → ⊥))
  -- Shelves that are alike are told alike: the two sums, and how many slots are occupied.
  pub told_alike : (s t : List ℕ) → Sound l s → Sound l t → Alike l s t
      → ((r q : Result TwoSums Refusal) → Sums l s r → Sums l t q → r ≡ q)
      × ((n m j k : ℕ) → Counts l s (Ok (record { occupied = n; lowest_free = j })) → Counts l t (Ok (record { occupied = m; lowest_free = k })) → n ≡ m)
