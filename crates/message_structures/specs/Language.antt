-- Request 2026-08: the language of a table, a "choice of repeats within the limits" that "spells its tags". It does not speak of the walk.
-- Assumes nothing.
use Rattle.std.specs.Prelude.{ℕ, zero, suc, ◌≤◌, ◌≡◌, List, [], ◌∷◌, ◌++◌, if◌then◌else◌}
use Rattle.message_tables.specs.Structure.{Structure, done, entry}

abbrev pub Tags : Type 0
Tags = List (List ℕ)

-- so many repeats, one after another: each is the tag and what stands inside
unfoldable pub Repeats : (inside : Tags → Type 0) → (tag : List ℕ) → (n : ℕ) → Tags → Type 0
Repeats inside tag zero tags = tags ≡ []
Repeats inside tag (suc n) tags =
    (one : Tags) × (rest : Tags) × (tags ≡ tag ∷ (one ++ rest)) × inside one × Repeats inside tag n rest

-- an entry's repeats, 0 or 1 at least and its largest number at most, then what the entries that follow spell
unfoldable pub Spells : Structure → Tags → Type 0
Spells done tags = tags ≡ []
Spells (entry mandatory repeats tag inside following) tags =
    (n : ℕ)
    × ((if mandatory then 1 else 0) ≤ n)
    × (n ≤ repeats)
    × (own : Tags)
    × (rest : Tags)
    × (tags ≡ own ++ rest)
    × Repeats (Spells inside) tag n own
    × Spells following rest
