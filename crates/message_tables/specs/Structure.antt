-- Request 2026-08: a table as a tree, for the walk and for the language. Assumes nothing.
use Rattle.std.specs.Prelude.{ℕ, zero, suc, ◌-◌, Bool, List, [], ◌∷◌, ◌++◌, take, drop, if◌then◌else◌}
use Rattle.lists.specs.Lists.{at, maybe}
use Rattle.message_tables.specs.Entries.{Entry, entries_of, is_group, is_mandatory}
use Rattle.message_tables.specs.Soundness.{most_depth}

-- The entries of one level, one after another. Each repeat of an entry begins with a segment that has its tag, a segment's own or that of a
-- group's trigger, and goes on with what the group holds behind its trigger; a segment holds nothing.
pub data Structure : Type 0 where
  done : Structure
  entry : (mandatory : Bool) (repeats : ℕ) (tag : List ℕ) (inside following : Structure) → Structure

-- the tag with which each repeat of an entry begins, of those that follow it the first being a group's trigger
unfoldable pub lead_of : Entry → List Entry → List ℕ
lead_of e es = if is_group e then maybe [] (λ trigger. trigger.tag) (at es 0) else e.tag

-- the entries that a group holds behind its trigger
unfoldable pub held_by : Entry → List Entry → List Entry
held_by e es = take (e.under - 1) (drop 1 es)

-- the entries of a level, of which so many at the beginning stand under the one before; `nested` is the level below
module _ (nested : List Entry → Structure) where
  unfoldable pub level : (under : ℕ) → List Entry → Structure
  level under [] = done
  level zero (e ∷ es) = entry (is_mandatory e) e.repeats (lead_of e es) (nested (held_by e es)) (level e.under es)
  level (suc under) (e ∷ es) = level under es

-- so many levels, the outermost one being the first of them
unfoldable pub levels : ℕ → List Entry → Structure
levels zero es = done
levels (suc n) es = level (levels n) 0 es

-- the outermost level, and below it those of groups "at most eight deep"
unfoldable pub structure_of : List ℕ → Structure
structure_of table = levels (suc most_depth) (entries_of table)

-- ---- the tags

-- the tags of the segments in a structure, in the table's order
unfoldable pub tags_in : Structure → List (List ℕ)
tags_in done = []
tags_in (entry mandatory repeats tag inside following) = tag ∷ (tags_in inside ++ tags_in following)

-- those of a table
unfoldable pub segment_tags : List Entry → List (List ℕ)
segment_tags [] = []
segment_tags (e ∷ es) = if is_group e then segment_tags es else e.tag ∷ segment_tags es
