-- Where the walk stands, and what it is given of a table: the entries from a number up to another. Assumes nothing.
use Rattle.std.specs.Prelude.{ℕ, ◌+◌, ◌-◌, ◌*◌, ◌≤◌, ◌<◌, ◌≡◌, true, false, List, [], ◌∷◌, length, take, drop, eqb, if◌then◌else◌, Result, Ok, Err}
use Rattle.lists.specs.Lists.{same}
use Rattle.characters.specs.declared.Characters.{Characters}
use Rattle.values.specs.Tokens.{Segment, segments, tokens_at}
use Rattle.segments.specs.Tags.{tag_of}
use Rattle.message_tables.specs.Entries.{Entry, entry_of, whole_entries, entries_of, is_group, is_mandatory}
use Rattle.message_tables.specs.Structure.{lead_of}
use Rattle.message_structures.specs.Walking.{Walked as Told, stopped, through}
use Rattle.table_rows.specs.Rows.{tag_bytes}
use Rattle.table_walk.specs.declared.Next.{Next}
use Rattle.table_walk.specs.declared.Part.{Part}

-- the walk went through all entries, or stopped
abbrev pub Walked : Type 0
Walked = Result Next Next

-- ---- the segments

abbrev pub zeros : List ℕ
zeros = 0 ∷ 0 ∷ 0 ∷ []

-- the tag of the segment that comes next, zeros where it is not of three bytes or there is no segment
unfoldable pub tag_here : List Segment → List ℕ
tag_here [] = zeros
tag_here (g ∷ gs) = if eqb (length (tag_of g)) 3 then tag_of g else zeros

-- a tag that a segment may have in a table
abbrev pub Tagged : List ℕ → Type 0
Tagged tag = same tag zeros ≡ false

module _ (c : Characters) (s : List ℕ) where
  -- those from a place on
  abbrev pub segments_at : ℕ → List Segment
  segments_at at = segments (tokens_at c s at)

  -- the walk knows the tag of the segment before which it stands
  abbrev pub Marked : Next → Type 0
  Marked n = tag_bytes n.tag ≡ tag_here (segments_at n.at)

  -- what is left, where the walk stopped or went through all entries
  abbrev pub told : Walked → Told Segment
  told (Err n) = stopped (segments_at n.at)
  told (Ok n) = through (segments_at n.at)

-- where the walk stands then
abbrev pub standing : Walked → Next
standing (Err n) = n
standing (Ok n) = n

-- ---- the table

module _ (table : List ℕ) where
  -- the entries from a number up to another
  abbrev pub within : ℕ → ℕ → List Entry
  within from end = take (end - from) (drop from (entries_of table))

  -- the entry of a number
  abbrev pub entry_at : ℕ → Entry
  entry_at n = entry_of (drop (n * 8) table)

  -- it stands in the table with all that is under it; a group's trigger does
  abbrev pub Lying : ℕ → Type 0
  Lying n = (n + (entry_at n).under < whole_entries table) × (is_group (entry_at n) ≡ true → 1 ≤ (entry_at n).under)

  -- what the walk asks of it
  pub record Parted (n : ℕ) (p : Part) : Type 0 where
    pub mandatory : p.mandatory ≡ is_mandatory (entry_at n)
    pub most : p.most ≡ (entry_at n).repeats
    pub lead : tag_bytes p.lead ≡ lead_of (entry_at n) (drop (n + 1) (entries_of table))
    pub from : p.from ≡ n + 2
    pub end : p.end ≡ n + 1 + (entry_at n).under
