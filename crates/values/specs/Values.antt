-- Paper 01, "From bytes to values": a segment's elements and their values; request 2026-10: "an element may be several repeats of
-- components". Assumes nothing.
use Rattle.std.specs.Prelude.{ℕ, zero, ◌-◌, Bool, true, false, not, ◌&&◌, List, [], ◌∷◌, map}
use Rattle.lists.specs.Lists.{cut, all, last_or, gather, is_empty}
use Rattle.values.specs.Tokens.{Token, byte, separator, fault, ends, place_of, Segment, start}

-- the value's bytes without their release characters, and where it is spelled in the input
pub record Value : Type 0 where
  pub bytes : List ℕ
  pub offset : ℕ
  pub spelled : ℕ

unfoldable pub byte_of : Token → List ℕ
byte_of (byte b from place) = b ∷ []
byte_of (separator rank place) = []
byte_of (fault place) = []

unfoldable pub bytes_of : List Token → List ℕ
bytes_of ts = gather byte_of ts

-- where the last token of a piece stands: what ended the piece, if it is ended
unfoldable pub end_place : List Token → ℕ
end_place [] = zero
end_place (t ∷ ts) = place_of (last_or t ts)

-- the value of a piece that a separator ends
unfoldable pub value_of : List Token → Value
value_of ts = record { bytes = bytes_of ts; offset = start ts; spelled = end_place ts - start ts }

-- "A segment is one or more elements, an element one or more" repeats, a repeat one or more "values": cut after element separators, then
-- after repetition separators, then after component separators
unfoldable pub values_of : List Token → List Value
values_of repeat = map value_of (cut (ends 3) repeat)

unfoldable pub repeats_of : List Token → List (List Value)
repeats_of element = map values_of (cut (ends 2) element)

unfoldable pub elements_of : Segment → List (List (List Value))
elements_of segment = map repeats_of (cut (ends 1) segment)

-- ---- finished segments

unfoldable pub is_fault : Token → Bool
is_fault (byte b from place) = false
is_fault (separator rank place) = false
is_fault (fault place) = true

-- what a separator of this rank ends has ended here
unfoldable pub ended_by : ℕ → List Token → Bool
ended_by rank [] = false
ended_by rank (t ∷ ts) = ends rank (last_or t ts)

-- the tokens end inside a segment
unfoldable pub ends_inside : List Token → Bool
ends_inside ts = not (is_empty ts) && not (ended_by 0 ts)

-- "A segment is finished when its terminator ends it and no fault 4 lies in it."
unfoldable pub finished : Segment → Bool
finished segment = ended_by 0 segment && all (λ t. not (is_fault t)) segment
