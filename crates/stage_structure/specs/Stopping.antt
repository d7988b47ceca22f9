-- What became of a message, and what stage 22 answers. Assumes nothing.
use Rattle.std.specs.Prelude.{ℕ, ◌≤◌, ◌≡◌, List, Result, Ok, Err}
use Rattle.std.proofs.Math.Option.{Option, none, some}
use Rattle.characters.specs.declared.Characters.{Characters}
use Rattle.refusals.specs.declared.Fault.TheVariants.{UnmatchedBody}
use Rattle.refusals.specs.declared.Refusal.{Refusal}
use Rattle.refusals.specs.Refusals.{failed_at, Outcome}
use Rattle.values.specs.Tokens.{segments, tokens_at}
use Rattle.segments.specs.Tags.{tag_of}
use Rattle.message_tables.specs.Structure.{structure_of}
use Rattle.message_structures.specs.Walking.{walk}
use Rattle.structure_walks.specs.Walks.{stop_of, first_stop}

-- the message whose UNH stands before `from`: 22 where the walk stopped; or that it did not, and what is left begins at a later place
module _ (table : List ℕ) (c : Characters) (s : List ℕ) (from : ℕ) where
  abbrev pub Says : Result ℕ Refusal → Type 0
  Says (Err r) =
      (stop_of (walk tag_of (structure_of table) (segments (tokens_at c s from))) ≡ some r.place)
      × (r ≡ record { fault = UnmatchedBody; place = r.place })
  Says (Ok place) =
      (stop_of (walk tag_of (structure_of table) (segments (tokens_at c s from))) ≡ none)
      × (first_stop (structure_of table) (segments (tokens_at c s from)) ≡ first_stop (structure_of table) (segments (tokens_at c s place)))
      × (from ≤ place)

-- refused at the first stop, if there is one
abbrev pub stopped_at : Option ℕ → Outcome
stopped_at none = Ok tt
stopped_at (some place) = failed_at UnmatchedBody place
