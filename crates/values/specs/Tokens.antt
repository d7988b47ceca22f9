-- Paper 01, "From bytes to values": the body as tokens, in which releases are settled before anything is split; request 2026-01: line
-- breaks between segments bring no token. Assumes nothing.
use Rattle.std.specs.Prelude.{ℕ, zero, suc, ◌+◌, Bool, false, List, [], ◌∷◌, leb, drop, if◌then◌else◌}
use Rattle.characters.specs.declared.Characters.{Characters}
use Rattle.characters.specs.declared.Role.{Role}
use Rattle.characters.specs.declared.Role.TheVariants.{Separator, Release, Plain}
use Rattle.characters.specs.Characters.{role, is_break}
use Rattle.lists.specs.Lists.{cut}
use Rattle.nesting.specs.Nesting.{by_depth}

-- A byte of a value stands at `place` and is spelled from `from`, which is its release character's place where it has one.
-- A separator of rank 0 ends a segment, 1 an element, 2 a repeat, 3 a component.
-- A fault is a release character that no service character follows.
pub data Token : Type 0 where
  byte : (b from place : ℕ) → Token
  separator : (rank place : ℕ) → Token
  fault : (place : ℕ) → Token

-- Where reading stands: inside a segment, after the release character at `from`, or directly after a terminator, where it passes over
-- line breaks.
pub data Reading : Type 0 where
  inside : Reading
  released : (from : ℕ) → Reading
  passing : Reading

-- an unreleased byte, in front of the tokens that follow it; a release character is taken with the next byte
unfoldable pub unreleased : Role → ℕ → ℕ → List Token → List Token
unreleased (Separator rank) b place rest = separator rank place ∷ rest
unreleased Release b place rest = rest
unreleased Plain b place rest = byte b place place ∷ rest

-- where reading stands after an unreleased byte at a place
unfoldable pub reading : Role → ℕ → Reading
reading (Separator zero) place = passing
reading (Separator (suc rank)) place = inside
reading Release place = released place
reading Plain place = inside

-- "The release character takes the next byte with it": a byte after the release character at `from`
unfoldable pub taken : Role → ℕ → ℕ → ℕ → List Token → List Token
taken (Separator rank) b from place rest = byte b from place ∷ rest
taken Release b from place rest = byte b from place ∷ rest
taken Plain b from place rest = fault from ∷ rest

-- The tokens of the bytes from a place on. Breaks "directly after a segment terminator .. are to be passed over, however many. Inside a
-- segment they remain errors."
unfoldable pub tokens_from : Characters → Reading → ℕ → List ℕ → List Token
tokens_from c inside place [] = []
tokens_from c (released from) place [] = fault from ∷ []
tokens_from c passing place [] = []
tokens_from c inside place (b ∷ bs) = unreleased (role c b) b place (tokens_from c (reading (role c b) place) (place + 1) bs)
tokens_from c (released from) place (b ∷ bs) = taken (role c b) b from place (tokens_from c inside (place + 1) bs)
tokens_from c passing place (b ∷ bs) =
    if is_break b then tokens_from c passing (place + 1) bs
    else unreleased (role c b) b place (tokens_from c (reading (role c b) place) (place + 1) bs)

-- the tokens of a segment's bytes and of all that follows; its first byte stands at the place
unfoldable pub tokens : Characters → ℕ → List ℕ → List Token
tokens c place bs = tokens_from c inside place bs

-- the token ends what a separator of this rank ends: a terminator also ends the element, either of them also the repeat, and each of
-- them also the component
unfoldable pub ends : ℕ → Token → Bool
ends rank (byte b from place) = false
ends rank (separator r place) = leb r rank
ends rank (fault place) = false

-- Ranks count from the outside, depths from the inside: a value is of depth 0, a repeat of depth 1, an element of depth 2, a segment of
-- depth 3. The token ends a part of this depth:
abbrev pub ends_part : ℕ → Token → Bool
ends_part depth t = by_depth 3 ends depth t

-- where the token's spelling begins
unfoldable pub place_of : Token → ℕ
place_of (byte b from place) = from
place_of (separator rank place) = place
place_of (fault place) = place

-- A segment is its tokens with its terminator, if that ended it. "An unreleased terminator ends a segment"
abbrev pub Segment : Type 0
Segment = List Token

unfoldable pub segments : List Token → List Segment
segments ts = cut (ends 0) ts

-- where a piece begins: at its first token, which may be what ends it
unfoldable pub start : List Token → ℕ
start [] = zero
start (t ∷ ts) = place_of t

-- the tokens of the input from a place on
unfoldable pub tokens_at : Characters → List ℕ → ℕ → List Token
tokens_at c s at = tokens c at (drop at s)
