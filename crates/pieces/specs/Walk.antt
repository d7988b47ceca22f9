-- How a piece ends, and the walk over the segments from a place on, to the end of the piece. Assumes nothing.
use Rattle.std.specs.Prelude.{ℕ, Bool, true, false, List, length}
use Rattle.std.proofs.Math.Option.{Option}
use Rattle.lists.specs.Lists.{maybe}
use Rattle.characters.specs.declared.Characters.{Characters}
use Rattle.refusals.specs.declared.Refusal.{Refusal}
use Rattle.values.specs.Tokens.{Segment, segments, tokens_at}
use Rattle.segments.specs.declared.Kind.{Kind}
use Rattle.segments.specs.declared.Kind.TheVariants.{Unb, Ung, Unh, Uns, Unt, Une, Unz, User}
use Rattle.stage_walks.specs.Walks.{worded}
use Rattle.mailbox_files.specs.Pieces.{first_unz, end_behind, unz_of}
use Rattle.mailbox_files.specs.Stops.{stop_of}
use Rattle.pieces.specs.declared.Ending.{Ending}
use Rattle.pieces.specs.declared.Ending.TheVariants.{AfterUnz, Stopped, FileEnd}

-- from the UNZ, if there is one, and else from what stopped the cutting, if anything did
unfoldable pub ending : List ℕ → Option Segment → Option Refusal → Ending
ending rest unz stop = maybe (maybe FileEnd Stopped stop) (λ g. AfterUnz (end_behind rest g)) unz

-- how the first piece ends
unfoldable pub ending_of : List ℕ → Ending
ending_of rest = ending rest (unz_of rest) (stop_of rest)

-- how the piece ends of which a segment begins at the place
unfoldable pub ending_from : Characters → List ℕ → ℕ → Ending
ending_from c rest at = ending rest (first_unz (segments (tokens_at c rest at))) (worded (length rest) (tokens_at c rest at))

-- where the piece ends, of which a segment begins at the place
unfoldable pub end_from : Characters → List ℕ → ℕ → ℕ
end_from c rest at = maybe (length rest) (end_behind rest) (first_unz (segments (tokens_at c rest at)))

-- where it ends
unfoldable pub end_in : List ℕ → Ending → ℕ
end_in rest (AfterUnz end) = end
end_in rest (Stopped r) = length rest
end_in rest FileEnd = length rest

-- a kind is UNZ's, kind by kind
abbrev pub is_unz : Kind → Bool
is_unz Unb = false
is_unz Ung = false
is_unz Unh = false
is_unz Uns = false
is_unz Unt = false
is_unz Une = false
is_unz Unz = true
is_unz User = false
