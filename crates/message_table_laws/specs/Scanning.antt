-- The lowest entry at fault, found from left to right: what is kept is whether the entry before is a group's own, and the rooms of the groups
-- that hold the present one, the nearest first. Assumes nothing.
use Rattle.std.specs.Prelude.{ℕ, zero, suc, ◌-◌, ◌%◌, ◌≤◌, Bool, false, not, ◌&&◌, ◌||◌, List, [], ◌∷◌, ◌++◌, length, eqb, leb, ltb, if◌then◌else◌}
use Rattle.std.proofs.Math.Option.{Option, none, some}
use Rattle.lists.specs.Lists.{text, member, all, maybe}
use Rattle.characters.specs.Characters.{between}
use Rattle.refusals.specs.Refusals.{place_if}
use Rattle.message_tables.specs.Entries.{Entry, whole_entries, entries_of, is_group}
use Rattle.message_tables.specs.Soundness.{most_entries, most_repeats, most_depth, segment_fits, is_trigger}

-- the rooms one entry on: a group without room has ended
abbrev pub lower : List ℕ → List ℕ
lower [] = []
lower (room ∷ rest) = place_if (leb 1 room) (room - 1) ++ lower rest

-- what an entry holds itself
abbrev pub own_room : Entry → List ℕ
own_room e = place_if (is_group e) e.under

-- the room of the nearest group, or what the table has left
abbrev pub nearest : (left : ℕ) → List ℕ → ℕ
nearest left [] = left
nearest left (room ∷ rest) = room

-- no room is larger than that of the group around it, nor than what the table has left
abbrev pub Rises : (left : ℕ) → List ℕ → Type 0
Rises left [] = Unit {0}
Rises left (room ∷ rest) = (room ≤ nearest left rest) × Rises left rest

-- a group's own entry, and any entry, from what is kept
unfoldable pub group_fits_in : (held : List ℕ) (left : ℕ) → Entry → Bool
group_fits_in held left e = leb 1 e.under && ltb (length held) most_depth && all (leb e.under) (left ∷ held)

unfoldable pub fits_in : (after : Bool) (held : List ℕ) (left : ℕ) → Entry → Bool
fits_in after held left e =
    member e.status (text "MC")
    && between 1 most_repeats e.repeats
    && (not after || is_trigger e)
    && (if is_group e then group_fits_in held left e else segment_fits e)

-- the first of at most so many entries that does not fit; the number of the first of them is given
unfoldable pub scanned : (most n : ℕ) → (after : Bool) (held : List ℕ) → List Entry → Option ℕ
scanned zero n after held es = none
scanned (suc most) n after held [] = none
scanned (suc most) n after held (e ∷ es) =
    if fits_in after held (length es) e then scanned most (suc n) (is_group e) (lower (own_room e ++ held)) es else some n

-- what is at fault where none of the first 999 entries is: the next, or the last where it is not whole
unfoldable pub size_fault : List ℕ → Option ℕ
size_fault table =
    if ltb most_entries (whole_entries table) then some most_entries
    else (if eqb (length table % 8) 0 then none else some (whole_entries table))

unfoldable pub first_fault : List ℕ → Option ℕ
first_fault table = maybe (size_fault table) some (scanned most_entries 0 false [] (entries_of table))
