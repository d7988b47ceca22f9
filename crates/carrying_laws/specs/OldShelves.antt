-- Request 2026-07, what follows for shelves that are carried over, and back. Each field is a theorem; `proofs/Theorems.antt` proves the record.
-- Assumes nothing.
use Rattle.std.specs.Prelude.{ℕ, ◌+◌, ◌-◌, ◌<◌, ◌≡◌, List, [], ◌∷◌, ◌↔◌, length, get_or}
use Rattle.std.proofs.lemmas.List.Edits.{sets}
use Rattle.refusals.specs.declared.Fault.TheVariants.{NoRoom, UnsoundShelf}
use Rattle.refusals.specs.declared.Refusal.{Refusal}
use Rattle.answers.specs.Answers.{given, refused}
use Rattle.shelves.specs.Layout.{Layout, version_one, version_two, Occupied, occupied, start_of, kept, held, end_of}
use Rattle.shelves.specs.Operations.{slots_of, sums_of, length_answer}
use Rattle.shelf_laws.specs.Shelf.{refused_at, Sound, got}
use Rattle.carrying.specs.Carrying.{carry, carry_shelf, carry_back, carry_back_shelf}

-- they are bytes, as those of a buffer are
abbrev pub Bytes : List ℕ → Type 0
Bytes s = (j : ℕ) → j < length s → get_or s j 0 < 256

-- "Slots and texts stay": the shelf t says in its layout what s says in its own. It has the size of s; the same slots are occupied, and each of
-- them, and each that is free or above 63, answers Get with the same bytes and the same length, or the same refusal
pub record SlotsAndTextsStay (from to : Layout) (s t : List ℕ) : Type 0 where
  pub size : length t ≡ length s
  pub slots : (occupied t ≡ occupied s) × (slots_of to t ≡ slots_of from s)
  pub gets : (slot : ℕ) → (got to t slot ≡ got from s slot) × (length_answer to t slot ≡ length_answer from s slot)
  pub texts : kept to t ≡ kept from s
  pub bytes : held to t ≡ held from s

pub record OldShelves : Type 0 where
  -- "19 if not sound in its version (place 0)": exactly then, in either direction; and no shelf is sound in both
  pub carry_nineteen : (s : List ℕ) → (carry s ≡ refused_at UnsoundShelf 0) ↔ (Sound version_one s → ⊥)
  pub back_nineteen : (s : List ℕ) → (carry_back s ≡ refused_at UnsoundShelf 0) ↔ (Sound version_two s → ⊥)
  pub one_version : (s : List ℕ) → Sound version_one s → Sound version_two s → ⊥
  -- "then 18 if old to new finds fewer than 8 free bytes (place 8)", and nothing else is refused
  pub carry_eighteen : (s : List ℕ) → Sound version_one s → (carry s ≡ refused_at NoRoom 8) ↔ (length s - end_of version_one s < 8)
  pub carry_else : (s : List ℕ) → Sound version_one s → (length s - end_of version_one s < 8 → ⊥) → carry s ≡ given []
  pub back_else : (s : List ℕ) → Sound version_two s → carry_back s ≡ given []
  -- "Refusals, shelf unchanged"
  pub carry_refused : (s : List ℕ) (r : Refusal) → carry s ≡ refused r → carry_shelf s ≡ s
  pub back_refused : (s : List ℕ) (r : Refusal) → carry_back s ≡ refused r → carry_back_shelf s ≡ s
  -- what is carried is sound in its other version
  pub carry_sound : (s : List ℕ) → carry s ≡ given [] → Sound version_two (carry_shelf s)
  pub back_sound : (s : List ℕ) → carry_back s ≡ given [] → Sound version_one (carry_back_shelf s)
  -- "Slots and texts stay"
  pub carry_stays : (s : List ℕ) → carry s ≡ given [] → SlotsAndTextsStay version_one version_two s (carry_shelf s)
  pub back_stays : (s : List ℕ) → carry_back s ≡ given [] → SlotsAndTextsStay version_two version_one s (carry_back_shelf s)
  -- the starts follow the texts: a text begins eight bytes higher in version 2
  pub carry_starts : (s : List ℕ) → carry s ≡ given [] → (k : ℕ) → Occupied s k → start_of version_two (carry_shelf s) k ≡ start_of version_one s k + 8
  pub back_starts : (s : List ℕ) → carry_back s ≡ given [] → (k : ℕ) → Occupied s k → start_of version_one (carry_back_shelf s) k + 8 ≡ start_of version_two s k
  -- "the duplicates figure starts at 0", beside the bytes held
  pub carry_sums : (s : List ℕ) → carry s ≡ given [] → sums_of version_two (carry_shelf s) ≡ given (held version_one s ∷ 0 ∷ [])
  -- "Unless refused, there and back gives the same bytes": the way back is then open
  pub there_and_back : (s : List ℕ) → Bytes s → carry s ≡ given []
      → (carry_back (carry_shelf s) ≡ given []) × (carry_back_shelf (carry_shelf s) ≡ s)
  -- "but for that figure": back and there gives the same bytes, with 0 as the duplicates figure; the way there is always open
  pub back_and_there : (s : List ℕ) → Bytes s → carry_back s ≡ given []
      → (carry (carry_back_shelf s) ≡ given []) × (carry_shelf (carry_back_shelf s) ≡ sets s 17 (0 ∷ 0 ∷ 0 ∷ 0 ∷ []))
