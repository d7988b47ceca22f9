-- Request 2026-08: "The walk covers, in each message, the segments between UNH and UNT". Assumes nothing.
use Rattle.std.specs.Prelude.{ℕ, Bool, List, [], ◌∷◌, ◌++◌, if◌then◌else◌}
use Rattle.lists.specs.Lists.{first, at, maybe}
use Rattle.values.specs.Tokens.{Segment, start}
use Rattle.segments.specs.declared.Kind.TheVariants.{Unh, Unt}
use Rattle.segments.specs.Kinds.{is}
use Rattle.segments.specs.Tags.{tag_of, kind_of}
use Rattle.stages.specs.Contents.{segments_of}
use Rattle.message_tables.specs.Structure.{Structure, structure_of}
use Rattle.message_structures.specs.Walking.{unmatched}

-- those before the first that passes the test; all where none passes
unfoldable pub before : {A : Type 0} → (A → Bool) → List A → List A
before t [] = []
before t (x ∷ xs) = if t x then [] else x ∷ before t xs

abbrev pub is_trailer : Segment → Bool
is_trailer g = is Unt (kind_of g)

-- of what follows a UNH: the segments before its UNT, and where that begins
unfoldable pub body_in : List Segment → List Segment
body_in gs = before is_trailer gs

unfoldable pub trailer_start : List Segment → ℕ
trailer_start gs = maybe 0 start (first is_trailer gs)

module _ (structure : Structure) where
  -- of what follows a UNH: "start of the segment, perhaps UNT, before which the walk stopped"
  unfoldable pub mismatch : List Segment → List ℕ
  mismatch gs = maybe [] (λ left. maybe (trailer_start gs) start (at left 0) ∷ []) (unmatched tag_of structure (body_in gs))

  -- "in each message"
  unfoldable pub mismatches : List Segment → List ℕ
  mismatches [] = []
  mismatches (g ∷ gs) = (if is Unh (kind_of g) then mismatch gs else []) ++ mismatches gs

-- 22: "body doesn't match"
unfoldable pub unmatched_bodies : (table s : List ℕ) → List ℕ
unmatched_bodies table s = mismatches (structure_of table) (segments_of s)
