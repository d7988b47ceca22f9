-- Request 2026-08: the entries of a table, "eight big-endian bytes an entry". Assumes nothing.
use Rattle.std.specs.Prelude.{ℕ, zero, suc, ◌/◌, Bool, List, [], ◌∷◌, length, take, drop}
use Rattle.lists.specs.Lists.{text, same, member}
use Rattle.numbers.specs.Numbers.{number_at}

-- "a three-byte tag (zeros for a group's own), `M` mandatory or `C` conditional, a 16-bit largest number of repeats (1 to 999), a 16-bit
-- number of entries under it at any depth"
pub record Entry : Type 0 where
  pub tag : List ℕ
  pub status : ℕ
  pub repeats : ℕ
  pub under : ℕ

-- the entry that the first eight bytes spell
unfoldable pub entry_of : List ℕ → Entry
entry_of bytes = record { tag = take 3 bytes; status = number_at bytes 3 1; repeats = number_at bytes 4 2; under = number_at bytes 6 2 }

-- the first so many entries
unfoldable pub entries_in : ℕ → List ℕ → List Entry
entries_in zero table = []
entries_in (suc n) table = entry_of table ∷ entries_in n (drop 8 table)

-- how many whole entries a table has
unfoldable pub whole_entries : List ℕ → ℕ
whole_entries table = length table / 8

unfoldable pub entries_of : List ℕ → List Entry
entries_of table = entries_in (whole_entries table) table

-- "zeros for a group's own"; any other entry is a segment's
unfoldable pub is_group : Entry → Bool
is_group e = same e.tag (0 ∷ 0 ∷ 0 ∷ [])

unfoldable pub is_mandatory : Entry → Bool
is_mandatory e = member e.status (text "M")
