-- Request 2026-08: when a table is sound, and which of its entries are at fault. Entries are numbered from 0. What stands before an entry is
-- a list, the nearest first. Assumes nothing.
use Rattle.std.specs.Prelude.{ℕ, suc, ◌-◌, ◌%◌, Bool, true, not, ◌&&◌, ◌||◌, List, [], ◌∷◌, ◌++◌, length, eqb, leb, ltb, if◌then◌else◌}
use Rattle.lists.specs.Lists.{text, same, begins, member, all, at, is_empty, maybe}
use Rattle.characters.specs.Characters.{between}
use Rattle.refusals.specs.Refusals.{place_if}
use Rattle.segments.specs.Tags.{is_tag}
use Rattle.message_tables.specs.Entries.{Entry, whole_entries, entries_of, is_group, is_mandatory}

-- "A table has 0 to 999 whole entries"; also the most repeats
abbrev pub most_entries : ℕ
most_entries = 999

abbrev pub most_repeats : ℕ
most_repeats = 999

-- "at most eight deep"
abbrev pub most_depth : ℕ
most_depth = 8

-- ---- a segment's entry

-- "its segment tags obey rule 6, and UNS is the only one beginning `UN`"
unfoldable pub is_table_tag : List ℕ → Bool
is_table_tag tag = is_tag tag && (not (begins (text "UN") tag) || same tag (text "UNS"))

-- "a 16-bit number of entries under it at any depth (1 or more for a group, else 0)"
unfoldable pub segment_fits : Entry → Bool
segment_fits e = eqb e.under 0 && is_table_tag e.tag

-- ---- a group's own entry

-- the groups that hold an entry are those before it whose numbers reach it: of each, how many of its entries stand after this one.
-- `distance` is how far before the entry the nearest of them stands.
unfoldable pub rooms_from : (distance : ℕ) → List Entry → List ℕ
rooms_from distance [] = []
rooms_from distance (e ∷ past) =
    place_if (is_group e && leb distance e.under) (e.under - distance) ++ rooms_from (suc distance) past

unfoldable pub rooms : List Entry → List ℕ
rooms past = rooms_from 1 past

-- "1 or more for a group"; "groups may stand within groups, at most eight deep"; "groups end within the group or table that holds them", of
-- which `left` entries stand after this one
unfoldable pub group_fits : List Entry → (left : ℕ) → Entry → Bool
group_fits past left e =
    leb 1 e.under && ltb (length (rooms past)) most_depth && all (leb e.under) (left ∷ rooms past)

-- ---- any entry

-- "a group's first entry is its trigger, a segment, mandatory and once"
unfoldable pub is_trigger : Entry → Bool
is_trigger e = not (is_group e) && is_mandatory e && eqb e.repeats 1

unfoldable pub triggers : List Entry → Entry → Bool
triggers past e = maybe true (λ before. not (is_group before) || is_trigger e) (at past 0)

-- "`M` mandatory or `C` conditional, a 16-bit largest number of repeats (1 to 999)"
unfoldable pub fits : List Entry → (left : ℕ) → Entry → Bool
fits past left e =
    member e.status (text "MC")
    && between 1 most_repeats e.repeats
    && triggers past e
    && (if is_group e then group_fits past left e else segment_fits e)

-- ---- the table

-- the numbers of the entries that are at fault, the first one's being given
unfoldable pub unfit : ℕ → List Entry → List Entry → List ℕ
unfit n past [] = []
unfit n past (e ∷ es) = place_if (not (fits past (length es) e)) n ++ unfit (suc n) (e ∷ past) es

-- 21: "the lowest entry at fault, a group's own for its depth or number; where there are more than 999, entry 999 is at fault too"; a last
-- entry that is not whole is at fault
unfoldable pub table_faults : List ℕ → List ℕ
table_faults table =
    unfit 0 [] (entries_of table)
    ++ (place_if (not (eqb (length table % 8) 0)) (whole_entries table)
    ++ place_if (ltb most_entries (whole_entries table)) most_entries)

-- "A table that breaks any of this is unsound."
unfoldable pub is_sound : List ℕ → Bool
is_sound table = is_empty (table_faults table)
