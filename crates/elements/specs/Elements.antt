-- The pieces of a larger piece, over the tokens from left to right. Assumes nothing.
use Rattle.std.specs.Prelude.{ℕ, zero, suc, ◌≤◌, ◌≡◌, Bool, false, not, List, [], ◌∷◌, length, if◌then◌else◌}
use Rattle.std.proofs.Math.Option.{Option, none, some}
use Rattle.lists.specs.Lists.{is_empty, through}
use Rattle.characters.specs.declared.Characters.{Characters}
use Rattle.values.specs.Tokens.{Token, ends, tokens_at}
use Rattle.values.specs.Values.{bytes_of}

module _ {A : Type 0} where
  -- what follows that many smaller pieces of the larger piece that the list begins with; nothing where it ends before
  unfoldable pub piece_from : (larger smaller : A → Bool) → ℕ → List A → List A
  piece_from t u zero xs = xs
  piece_from t u (suc k) [] = []
  piece_from t u (suc k) (x ∷ xs) = if t x then [] else (if u x then piece_from t u k xs else piece_from t u (suc k) xs)

-- what ends the larger piece, by the kind of separator that ends the smaller ones: a separator of the next lower kind, and nothing
-- ends what segments are pieces of
abbrev pub outer : ℕ → Token → Bool
outer zero = λ t. false
outer (suc rank) = ends rank

-- the tokens from the segment of a number on,
abbrev pub segment_from : ℕ → List Token → List Token
segment_from k ts = piece_from (outer 0) (ends 0) k ts

-- from the element of a number on, in the segment that they begin,
abbrev pub element_from : ℕ → List Token → List Token
element_from k ts = piece_from (ends 0) (ends 1) k ts

-- from the repeat of a number on, in the element that they begin,
abbrev pub repeat_from : ℕ → List Token → List Token
repeat_from k ts = piece_from (ends 1) (ends 2) k ts

-- and from the component of a number on, in the repeat that they begin; nothing where there are fewer
abbrev pub component_from : ℕ → List Token → List Token
component_from k ts = piece_from (ends 2) (ends 3) k ts

-- the piece that tokens begin with, which a separator of this rank ends; none where there are no tokens
unfoldable pub first_piece : ℕ → List Token → Option (List Token)
first_piece rank [] = none
first_piece rank (t ∷ ts) = some (through (ends rank) (t ∷ ts))

-- a byte of a value stands in what a separator of this rank ends
unfoldable pub holds_byte : ℕ → List Token → Bool
holds_byte rank ts = not (is_empty (bytes_of (through (ends rank) ts)))

module _ (c : Characters) (s : List ℕ) (from : ℕ) where
  -- the place at which the piece of a number begins, which a separator of this kind ends, in the larger piece that begins at a place
  abbrev pub PieceAt : ℕ → ℕ → ℕ → Type 0
  PieceAt rank number r =
      (tokens_at c s r ≡ piece_from (outer rank) (ends rank) number (tokens_at c s from)) × (from ≤ length s → r ≤ length s)

  -- the same for a segment, an element, a repeat and a component
  abbrev pub SegmentAt : ℕ → ℕ → Type 0
  SegmentAt number r = PieceAt 0 number r

  abbrev pub ElementAt : ℕ → ℕ → Type 0
  ElementAt number r = PieceAt 1 number r

  abbrev pub RepeatAt : ℕ → ℕ → Type 0
  RepeatAt number r = PieceAt 2 number r

  abbrev pub ComponentAt : ℕ → ℕ → Type 0
  ComponentAt number r = PieceAt 3 number r
