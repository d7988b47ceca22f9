-- Request 2026-06: "the summary of map and two sums", what Put and Remove do to it, and its bytes at the shelf's head. A layout without the
-- sums has the map alone: the others are cut off. Assumes nothing.
use Rattle.std.specs.Prelude.{ℕ, ◌+◌, ◌-◌, ◌^◌, min, List, ◌++◌, take}
use Rattle.numbers.specs.Numbers.{in_bytes}
use Rattle.shelves.specs.declared.Summary.{Summary}
use Rattle.shelves.specs.Layout.{Layout, map_place, duplicates_place, map_of, held_figure, duplicates_of}

-- as it stands at the shelf's head
unfoldable pub summary_of : List ℕ → Summary
summary_of s = record { map = map_of s; held = held_figure s; duplicates = duplicates_of s }

-- "and stays at 4,294,967,295"
abbrev pub most_duplicates : ℕ
most_duplicates = 4294967295

-- ---- "alters only the fields that its own work concerns"

-- a new text of so many bytes in a slot: its bit, and its bytes
unfoldable pub put_new : Summary → (slot size : ℕ) → Summary
put_new u slot size = record { map = u.map + 2 ^ slot; held = u.held + size; duplicates = u.duplicates }

-- "rises by one at each put that finds its copy"
unfoldable pub put_copy : Summary → Summary
put_copy u = record { map = u.map; held = u.held; duplicates = min (u.duplicates + 1) most_duplicates }

-- a text of so many bytes taken out of a slot
unfoldable pub removed : Summary → (slot size : ℕ) → Summary
removed u slot size = record { map = u.map - 2 ^ slot; held = u.held - size; duplicates = u.duplicates }

-- ---- its bytes

module _ (l : Layout) where
  -- the map, and behind it the text bytes held
  unfoldable pub map_and_held : Summary → List ℕ
  map_and_held u = take (l.pairs - map_place) (in_bytes 8 u.map ++ in_bytes 4 u.held)

  -- the duplicates found
  unfoldable pub duplicates_in : Summary → List ℕ
  duplicates_in u = take (l.pairs - duplicates_place) (in_bytes 4 u.duplicates)
