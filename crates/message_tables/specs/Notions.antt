-- The request's notions for the statements about this crate's definitions, with its numbers written out. `P → ⊥` says that P does not hold. What
-- stands before an entry is a list, the nearest first. Assumes nothing.
use Rattle.std.specs.Prelude.{ℕ, ◌+◌, ◌/◌, ◌%◌, ◌≤◌, ◌<◌, ◌≡◌, ◌⊎◌, length}
use mathlib.Core.List.{List, [], ◌∷◌, ◌++◌, reverse, Memᴰ}
use Rattle.message_tables.specs.Entries.{Entry, entries_of}
use Rattle.message_tables.specs.Soundness.{rooms}

-- "zeros for a group's own"
abbrev pub Group : Entry → Type 0
Group e = e.tag ≡ 0 ∷ 0 ∷ 0 ∷ []

-- "its segment tags obey rule 6, and UNS is the only one beginning `UN`"
abbrev pub TableTag : List ℕ → Type 0
TableTag tag =
    ((length tag ≡ 3) × ((b : ℕ) → Memᴰ b tag → ((65 ≤ b) × (b ≤ 90)) ⊎ ((48 ≤ b) × (b ≤ 57))))
    × (((rest : List ℕ) × (tag ≡ 85 ∷ 78 ∷ rest) → ⊥) ⊎ (tag ≡ 85 ∷ 78 ∷ 83 ∷ []))

-- a group that holds the entry: its number reaches it, and so many of its entries stand after it
abbrev pub Holds : List Entry → ℕ → Type 0
Holds past room =
    (nearer : List Entry)
    × (group : Entry)
    × (farther : List Entry)
    × (past ≡ nearer ++ group ∷ farther)
    × Group group
    × (group.under ≡ length nearer + 1 + room)

-- "a group's first entry is its trigger, a segment, mandatory and once"
abbrev pub Trigger : Entry → Type 0
Trigger e = (Group e → ⊥) × (e.status ≡ 77) × (e.repeats ≡ 1)

-- what the request asks of an entry, given what stands before it, and how many entries stand after it in the table
pub record Fitting (past : List Entry) (left : ℕ) (e : Entry) : Type 0 where
  -- "`M` mandatory or `C` conditional, a 16-bit largest number of repeats (1 to 999)"
  pub status : (e.status ≡ 77) ⊎ (e.status ≡ 67)
  pub repeats : (1 ≤ e.repeats) × (e.repeats ≤ 999)
  pub trigger : (group : Entry) (rest : List Entry) → past ≡ group ∷ rest → Group group → Trigger e
  -- "a 16-bit number of entries under it at any depth (1 or more for a group, else 0)"
  pub segment : (Group e → ⊥) → (e.under ≡ 0) × TableTag e.tag
  -- "groups may stand within groups, at most eight deep"; "groups end within the group or table that holds them"
  pub group : Group e → (1 ≤ e.under) × (length (rooms past) < 8) × (e.under ≤ left) × ((room : ℕ) → Holds past room → e.under ≤ room)

-- the entry of this number does not fit
abbrev pub Unfit : List Entry → ℕ → Type 0
Unfit es n =
    (before : List Entry)
    × (e : Entry)
    × (after : List Entry)
    × (es ≡ before ++ e ∷ after)
    × (n ≡ length before)
    × (Fitting (reverse before) (length after) e → ⊥)

-- the entry of this number is at fault: it does not fit, or is the last and not whole, or is entry 999 of more than 999
abbrev pub Faulty : List ℕ → ℕ → Type 0
Faulty table n =
    Unfit (entries_of table) n
    ⊎ ((length table % 8 ≡ 0 → ⊥) × (n ≡ length table / 8))
    ⊎ ((999 < length table / 8) × (n ≡ 999))
