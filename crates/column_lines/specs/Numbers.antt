-- Request 2026-12: the four numbers in front of a value, "tab-separated, numbers from 0 in decimal without leading zeros", and the place behind
-- given bytes, where they stand at a place of a text. Assumes nothing.
use Rattle.std.specs.Prelude.{ℕ, ◌+◌, ◌≡◌, true, false, List, [], ◌∷◌, ◌++◌, Option, Some, None, length, drop}
use Rattle.lists.specs.Lists.{begins}
use Rattle.values.specs.Spelling.{Bytes}
use Rattle.columns.specs.Lines.{tab, in_decimal}
use Rattle.column_laws.specs.declared.Position.{Position}

-- a number and the tab after it
unfoldable pub cell : ℕ → Bytes
cell n = in_decimal n ++ tab ∷ []

-- the numbers in front of the value at a position
unfoldable pub numbers_at : Position → Bytes
numbers_at p = cell p.segment ++ (cell p.element ++ (cell p.repeat ++ cell p.component))

-- the place after the bytes, or none where they do not stand at the place
abbrev pub Ends : Bytes → List ℕ → ℕ → Option ℕ → Type 0
Ends bytes s place None = begins bytes (drop place s) ≡ false
Ends bytes s place (Some end) = (begins bytes (drop place s) ≡ true) × (end ≡ place + length bytes)
