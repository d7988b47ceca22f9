-- Request 2026-08: what follows for message structures. Each field is a theorem; `proofs/Theorems.antt` proves the record. When an entry is at
-- fault is said in the request's words in `message_tables` (specs/Notions.antt). Assumes nothing.
use Rattle.std.specs.Prelude.{ℕ, ◌≡◌, List, [], ◌++◌, ◌↔◌}
use Rattle.std.proofs.Math.Option.{some}
use Rattle.refusals.specs.declared.Fault.TheVariants.{UnsoundTable, UnmatchedBody}
use Rattle.refusals.specs.declared.Refusal.{Refusal}
use Rattle.refusals.specs.Refusals.{answering}
use Rattle.values.specs.Tokens.{Segment}
use Rattle.segments.specs.Tags.{tag_of}
use Rattle.stages.specs.Stages.{stages_in}
use Rattle.answers.specs.Answers.{refused}
use Rattle.operations.specs.Judge.{judge}
use Rattle.operations.specs.Notions.{Lowest}
use Rattle.message_tables.specs.Entries.{entries_of}
use Rattle.message_tables.specs.Structure.{structure_of, tags_in, segment_tags}
use Rattle.message_tables.specs.Notions.{Faulty}
use Rattle.message_structures.specs.Walking.{unmatched}
use Rattle.message_structures.specs.Judging.{judge_by_table}
use Rattle.message_structures.specs.Notions.{Message, body_of, StopsAt}
use Rattle.structure_laws.specs.Notions.{Sound, OnceIn, Matches, Spelled, Passes12, refused_at}

pub record Structures : Type 0 where
  -- ---- the walk and the language

  -- where no segment tag stands twice, the walk goes through exactly the bodies that a choice of repeats within the limits spells
  pub exactly : (table : List ℕ) → Sound table → OnceIn table → (body : List Segment) → Matches table body ↔ Spelled table body
  -- it never goes through another body, whatever tags the table has
  pub never_more : (table : List ℕ) → Sound table → (body : List Segment) → Matches table body → Spelled table body
  -- a table of no entries allows exactly the empty body
  pub no_entries : (body : List Segment) → Matches [] body ↔ (body ≡ [])
  -- the tree, of which both speak, has the tags of the table's segments in their order
  pub tree_tags : (table : List ℕ) → Sound table → tags_in (structure_of table) ≡ segment_tags (entries_of table)
  -- what is left where the walk stopped is the end of the body
  pub left_end : (table : List ℕ) (body left : List Segment) → unmatched tag_of (structure_of table) body ≡ some left
      → (taken : List Segment) × (body ≡ taken ++ left)
  -- ---- the second Judge

  -- 21 before all else, exactly at the lowest entry at fault; a table is sound exactly if it has none
  pub twenty_one : (table s : List ℕ) (n : ℕ) → (judge_by_table table s ≡ refused_at UnsoundTable n) ↔ Lowest (Faulty table) n
  pub sound_exactly : (table : List ℕ) → Sound table ↔ ((n : ℕ) → Faulty table n → ⊥)
  -- then 1 to 12, as Judge refuses
  pub judge_first : (table s : List ℕ) (r : Refusal) → Sound table → answering (stages_in s 1 12) ≡ some r
      → (judge_by_table table s ≡ refused r) × (judge s ≡ refused r)
  -- then 22, exactly at the lowest place at which the walk through a message stops
  pub twenty_two : (table s : List ℕ) (p : ℕ) → Sound table → Passes12 s
      → (judge_by_table table s ≡ refused_at UnmatchedBody p) ↔ Lowest (StopsAt table s) p
  -- "a body is refused exactly if no choice of repeats within the limits spells its tags"
  pub refused_exactly : (table s : List ℕ) → Sound table → OnceIn table → Passes12 s
      → ((p : ℕ) × (judge_by_table table s ≡ refused_at UnmatchedBody p)) ↔ ((m : Message s) × (Spelled table (body_of m) → ⊥))
  -- where every body matches, it answers as Judge does
  pub as_judge : (table s : List ℕ) → Sound table → ((m : Message s) → Matches table (body_of m)) → judge_by_table table s ≡ judge s
