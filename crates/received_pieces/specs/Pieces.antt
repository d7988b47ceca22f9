-- The tokens of a piece without what ends it, and what is next in it. Assumes nothing.
use Rattle.std.specs.Prelude.{ℕ, ◌≤◌, ◌<◌, ◌≡◌, true, not, List, [], ◌∷◌, ◌++◌, map, leb, length, if◌then◌else◌}
use Rattle.lists.specs.Lists.{is_empty, any, all, through}
use Rattle.characters.specs.declared.Characters.{Characters}
use Rattle.values.specs.Tokens.{Token, byte, separator, fault, ends, tokens_at}
use Rattle.values.specs.Values.{bytes_of, repeats_of, is_fault}
use Rattle.values.specs.Trimming.{trim_element}
use Rattle.values.specs.Spelling.{Bytes}
use Rattle.received_pieces.specs.declared.Within.{Within}
use Rattle.received_pieces.specs.declared.Within.TheVariants.{Byte, Separator, Ended}

-- the bytes and separators up to a separator of this rank or a lower one, which is not one of them; what they spell does not depend on
-- where they stand
unfoldable pub piece_of : ℕ → List Token → List Token
piece_of rank [] = []
piece_of rank (byte b from place ∷ ts) = byte b 0 0 ∷ piece_of rank ts
piece_of rank (separator r place ∷ ts) = if leb r rank then [] else separator r 0 ∷ piece_of rank ts
piece_of rank (fault place ∷ ts) = piece_of rank ts

-- a piece with a terminator that ends it
abbrev pub ended : List Token → List Token
ended piece = piece ++ separator 0 0 ∷ []

module _ (d : Characters) (s : List ℕ) (rank from : ℕ) where
  -- what is next in the piece that begins at a place
  abbrev pub NextIn : Within → Type 0
  NextIn (Byte b next) =
      (piece_of rank (tokens_at d s from) ≡ byte b 0 0 ∷ piece_of rank (tokens_at d s next)) × (from < next) × (next ≤ length s)
  NextIn (Separator r next) =
      (piece_of rank (tokens_at d s from) ≡ separator r 0 ∷ piece_of rank (tokens_at d s next)) × (from < next) × (next ≤ length s)
  NextIn Ended = piece_of rank (tokens_at d s from) ≡ []

-- the element that tokens begin with, as it stands in the contents
unfoldable pub element_in : List Token → List (List Bytes)
element_in ts = trim_element is_empty (map (map (λ v. v.bytes)) (repeats_of (through (ends 1) ts)))

-- What is asked of the tokens from an element on: it is ended, no release character in it is stray, and a byte of a value stands in it.
pub record Spelt (ts : List Token) : Type 0 where
  pub ends_there : any (ends 1) ts ≡ true
  pub faultless : all (λ t. not (is_fault t)) ts ≡ true
  pub holds : not (is_empty (bytes_of (piece_of 1 ts))) ≡ true
