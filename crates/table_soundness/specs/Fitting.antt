-- What is asked of an entry, from what is kept of those before it: whether the last was a group's own, how many groups hold the present one,
-- and behind which entry each of them ends. `ends` holds first where the table ends, then where the outermost group does, and so on to the
-- nearest; `next` is the number of the entry that follows the present one. Assumes nothing.
use Rattle.std.specs.Prelude.{ℕ, zero, suc, ◌-◌, ◌≤◌, Bool, not, ◌&&◌, ◌||◌, List, [], ◌∷◌, get_or, leb, ltb, if◌then◌else◌, Ok}
use Rattle.std.proofs.Math.Option.{Option, none, some}
use Rattle.lists.specs.Lists.{text, member}
use Rattle.characters.specs.Characters.{between}
use Rattle.refusals.specs.declared.Fault.TheVariants.{UnsoundTable}
use Rattle.refusals.specs.Refusals.{failed_at, Outcome}
use Rattle.message_tables.specs.Entries.{Entry, is_group}
use Rattle.message_tables.specs.Soundness.{most_entries, most_repeats, most_depth, segment_fits, is_trigger}

-- how many entries are asked one by one
abbrev pub asked : ℕ → ℕ
asked whole = if ltb most_entries whole then most_entries else whole

-- ---- an entry

unfoldable pub stated : Entry → Bool
stated e = member e.status (text "MC") && between 1 most_repeats e.repeats

unfoldable pub group_fits_within : (depth room under : ℕ) → Bool
group_fits_within depth room under = leb 1 under && ltb depth most_depth && leb under room

-- it stands in so many groups, of the nearest of which so many entries are left
unfoldable pub fits_within : (after : Bool) (depth room : ℕ) → Entry → Bool
fits_within after depth room e =
    stated e && (not after || is_trigger e) && (if is_group e then group_fits_within depth room e.under else segment_fits e)

-- ---- the groups that hold it

-- how many entries each of them has left, the nearest first
unfoldable pub rooms_in : (next depth : ℕ) (ends : List ℕ) → List ℕ
rooms_in next zero ends = []
rooms_in next (suc depth) ends = (get_or ends (suc depth) 0 - next) ∷ rooms_in next depth ends

-- each ends within the one around it, or within the table, and not before `next`
abbrev pub Nested : (next depth : ℕ) (ends : List ℕ) → Type 0
Nested next zero ends = Unit {0}
Nested next (suc depth) ends = (next ≤ get_or ends (suc depth) 0) × (get_or ends (suc depth) 0 ≤ get_or ends depth 0) × Nested next depth ends

-- ---- the answer

-- refused at the entry that is at fault, if there is one
abbrev pub found_at : Option ℕ → Outcome
found_at none = Ok tt
found_at (some n) = failed_at UnsoundTable n
