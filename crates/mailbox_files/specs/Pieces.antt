-- Request 2026-02: "files .. with interchanges end to end", cut into pieces. Assumes nothing.
use Rattle.std.specs.Prelude.{ℕ, zero, suc, ◌+◌, Bool, not, ◌&&◌, ◌||◌, List, [], ◌∷◌, length, take, drop, if◌then◌else◌}
use Rattle.std.proofs.Math.Option.{Option, none, some}
use Rattle.lists.specs.Lists.{maybe}
use Rattle.characters.specs.Characters.{after_breaks, bad_advice, opens}
use Rattle.values.specs.Tokens.{Segment}
use Rattle.values.specs.Values.{end_place, finished}
use Rattle.segments.specs.declared.Kind.TheVariants.{Unz}
use Rattle.segments.specs.Kinds.{is}
use Rattle.segments.specs.Tags.{kind_of, tag_rule}
use Rattle.stages.specs.Contents.{segments_of}

-- the segment meets none of 4, 5 and 6
unfoldable pub is_whole : Segment → Bool
is_whole g = finished g && tag_rule g

-- the first UNZ segment, unless a segment before it, or it, meets a fault 4 to 6, or the end comes first
unfoldable pub first_unz : List Segment → Option Segment
first_unz [] = none
first_unz (g ∷ gs) = if is_whole g then (if is Unz (kind_of g) then some g else first_unz gs) else none

-- 2 or 3 is met
unfoldable pub is_unopened : List ℕ → Bool
is_unopened rest = bad_advice rest || not (opens rest)

-- "its first UNZ segment", unless the cutting "meets a fault 2 to 6 or the file's end" before it. The service characters are those of
-- the piece's own beginning.
unfoldable pub unz_of : List ℕ → Option Segment
unz_of rest = if is_unopened rest then none else first_unz (segments_of rest)

-- "after its first UNZ segment and the breaks behind it"
unfoldable pub end_behind : List ℕ → Segment → ℕ
end_behind rest unz = after_breaks rest (end_place unz + 1)

-- Where the first piece of what is left of a file ends. "Where the cutting meets a fault 2 to 6 or the file's end before a UNZ, the rest
-- is one .. piece"
unfoldable pub piece_end : List ℕ → ℕ
piece_end rest = maybe (length rest) (end_behind rest) (unz_of rest)

-- the pieces, n of them at most
unfoldable pub pieces_up_to : ℕ → List ℕ → List (List ℕ)
pieces_up_to zero rest = []
pieces_up_to (suc n) [] = []
pieces_up_to (suc n) (b ∷ bs) = take (piece_end (b ∷ bs)) (b ∷ bs) ∷ pieces_up_to n (drop (piece_end (b ∷ bs)) (b ∷ bs))

-- The list of pieces. "A file of no bytes has no pieces." Each piece has a byte at least, so that there are no more pieces than bytes.
unfoldable pub pieces : List ℕ → List (List ℕ)
pieces file = pieces_up_to (length file) file
