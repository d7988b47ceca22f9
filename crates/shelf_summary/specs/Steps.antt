-- Request 2026-06: the summary that an operation is lent, what a put or a removal does to it, and which fields stay. Assumes nothing.
use Rattle.refusals.specs.declared.Refusal.{Refusal}
use Rattle.answers.specs.Answers.{Stored}
use Rattle.std.specs.Prelude.{ℕ, ◌+◌, ◌≤◌, ◌<◌, ◌≡◌, true, false, List, ◌++◌, take, drop, Ok, Err, Result}
use Rattle.std.proofs.lemmas.List.Edits.{sets}
use Rattle.numbers.specs.Numbers.{in_bytes}
use Rattle.shelves.specs.declared.Shelved.{Shelved}
use Rattle.shelves.specs.declared.Shelved.TheVariants as shelved
use Rattle.shelves.specs.declared.Summary.{Summary}
use Rattle.shelves.specs.Layout.{map_place, bit}
use Rattle.shelves.specs.Summary.{summary_of, put_new, put_copy, removed}
use Rattle.shelf_summary.specs.declared.Placed.{Placed}
use Rattle.shelf_summary.specs.declared.Placed.TheVariants as placed

-- ---- at the shelf's head

-- all of its bytes
unfoldable pub summary_bytes : Summary → List ℕ
summary_bytes u = in_bytes 8 u.map ++ in_bytes 4 u.held ++ in_bytes 4 u.duplicates

-- the summary that is read from the shelf's head: these are its numbers, and they are spelled there
abbrev pub Heads : List ℕ → Summary → Type 0
Heads s u = (u ≡ summary_of s) × (summary_bytes u ≡ take 16 (drop map_place s))

-- and that is stored back there
unfoldable pub stored_back : List ℕ → Summary → List ℕ
stored_back s u = sets s map_place (summary_bytes u)

-- ---- Put

-- what Put says
unfoldable pub shelved_of : Result Placed Refusal → Result Shelved Refusal
shelved_of (Ok (placed.New slot size)) = Ok (shelved.New slot)
shelved_of (Ok (placed.Copy slot)) = Ok (shelved.Copy slot)
shelved_of (Err r) = Err r

-- what it does to the summary
unfoldable pub after_put : Summary → Result Placed Refusal → Summary
after_put u (Ok (placed.New slot size)) = put_new u slot size
after_put u (Ok (placed.Copy slot)) = put_copy u
after_put u (Err r) = u

-- the slot of a new text is free, and the bytes held fit in 32 bits with it
unfoldable pub PutFits : Summary → Result Placed Refusal → Type 0
PutFits u (Ok (placed.New slot size)) = ((slot < 64) × (bit u.map slot ≡ false)) × (u.held + size < 4294967296)
PutFits u (Ok (placed.Copy slot)) = Unit
PutFits u (Err r) = Unit

-- "alters only the fields that its own work concerns": a new text leaves the duplicates, a copy the map and the bytes held, a refusal all
unfoldable pub PutStays : Result Placed Refusal → (before after : Summary) → Type 0
PutStays (Ok (placed.New slot size)) u v = v.duplicates ≡ u.duplicates
PutStays (Ok (placed.Copy slot)) u v = (v.map ≡ u.map) × (v.held ≡ u.held)
PutStays (Err r) u v = v ≡ u

-- ---- Remove

unfoldable pub after_remove : Summary → (slot : ℕ) → Stored → Summary
after_remove u slot (Ok size) = removed u slot size
after_remove u slot (Err r) = u

-- the slot of a text that was taken out is occupied, and its bytes are held
unfoldable pub RemoveFits : Summary → (slot : ℕ) → Stored → Type 0
RemoveFits u slot (Ok size) = ((slot < 64) × (bit u.map slot ≡ true)) × (size ≤ u.held)
RemoveFits u slot (Err r) = Unit
