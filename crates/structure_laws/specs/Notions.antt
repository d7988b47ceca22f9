-- Notions for the statements about message structures. `P → ⊥` says that P does not hold. Assumes nothing.
use Rattle.std.specs.Prelude.{ℕ, ◌≡◌, true, List, ◌∷◌, ◌++◌, map}
use Rattle.std.proofs.Math.Option.{none}
use Rattle.refusals.specs.declared.Fault.{Fault}
use Rattle.refusals.specs.Refusals.{answering}
use Rattle.values.specs.Tokens.{Segment}
use Rattle.segments.specs.Tags.{tag_of}
use Rattle.stages.specs.Stages.{stages_in}
use Rattle.answers.specs.Answers.{Answer, refused}
use Rattle.message_tables.specs.Entries.{entries_of}
use Rattle.message_tables.specs.Soundness.{is_sound}
use Rattle.message_tables.specs.Structure.{structure_of, segment_tags}
use Rattle.message_structures.specs.Walking.{unmatched}
use Rattle.message_structures.specs.Language.{Tags, Spells}

-- ---- tables

abbrev pub Sound : List ℕ → Type 0
Sound table = is_sound table ≡ true

-- none of them stands at two places
abbrev pub Once : Tags → Type 0
Once tags = (before middle after : Tags) (tag : List ℕ) → tags ≡ before ++ tag ∷ (middle ++ tag ∷ after) → ⊥

-- "no segment tag stands twice in the table"
abbrev pub OnceIn : List ℕ → Type 0
OnceIn table = Once (segment_tags (entries_of table))

-- ---- bodies

-- the walk goes through the body, and nothing is left over
abbrev pub Matches : List ℕ → List Segment → Type 0
Matches table body = unmatched tag_of (structure_of table) body ≡ none

-- some "choice of repeats within the limits spells its tags"
abbrev pub Spelled : List ℕ → List Segment → Type 0
Spelled table body = Spells (structure_of table) (map tag_of body)

-- ---- answers

-- none of 1 to 12 is met
abbrev pub Passes12 : List ℕ → Type 0
Passes12 s = answering (stages_in s 1 12) ≡ none

-- the answer that refuses with this fault at this place
abbrev pub refused_at : Fault → ℕ → Answer
refused_at fault place = refused (record { fault = fault; place = place })
