-- The request's notions for the statements about this crate's definitions. `P → ⊥` says that P does not hold. Assumes nothing.
use Rattle.std.specs.Prelude.{ℕ, ◌≡◌, List, ◌∷◌, ◌++◌}
use Rattle.std.proofs.Math.Option.{some}
use Rattle.lists.specs.Lists.{at, maybe}
use Rattle.values.specs.Tokens.{Segment, start}
use Rattle.segments.specs.declared.Kind.TheVariants.{Unh}
use Rattle.segments.specs.Tags.{tag_of, kind_of}
use Rattle.stages.specs.Contents.{segments_of}
use Rattle.message_tables.specs.Structure.{structure_of}
use Rattle.message_structures.specs.Walking.{unmatched}
use Rattle.message_structures.specs.Bodies.{body_in, trailer_start}

-- a message of an input: its UNH, and all that follows it
pub record Message (s : List ℕ) : Type 0 where
  pub past : List Segment
  pub header : Segment
  pub after : List Segment
  pub splits : segments_of s ≡ past ++ header ∷ after
  pub opens : kind_of header ≡ Unh

-- "the segments between UNH and UNT"
abbrev pub body_of : {s : List ℕ} → Message s → List Segment
body_of m = body_in m.after

-- the walk through a message stops here: "start of the segment, perhaps UNT, before which the walk stopped"
abbrev pub StopsAt : (table s : List ℕ) → ℕ → Type 0
StopsAt table s p =
    (m : Message s)
    × (left : List Segment)
    × (unmatched tag_of (structure_of table) (body_of m) ≡ some left)
    × (p ≡ maybe (trailer_start m.after) start (at left 0))
