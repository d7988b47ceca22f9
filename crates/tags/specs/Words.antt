-- A value as its size and its last four bytes, and what ends it. Assumes nothing.
use Rattle.std.specs.Prelude.{ℕ, ◌+◌, ◌≤◌, ◌≡◌, List, [], ◌∷◌, length, leb}
use Rattle.lists.specs.Lists.{through}
use Rattle.characters.specs.declared.Characters.{Characters}
use Rattle.values.specs.Tokens.{Token, ends, tokens_at}
use Rattle.values.specs.Values.{bytes_of, ended_by}
use Rattle.scanner.specs.Scan.{Skips}
use Rattle.tags.specs.declared.Word.{Word}

-- ---- the last four bytes

pub record Four : Type 0 where
  pub first : ℕ
  pub second : ℕ
  pub third : ℕ
  pub fourth : ℕ

-- four bytes, each further byte moving them on by one
unfoldable pub moved_on : Four → List ℕ → Four
moved_on q [] = q
moved_on q (b ∷ bs) = moved_on (record { first = q.second; second = q.third; third = q.fourth; fourth = b }) bs

-- the last four bytes of a value, with zeros in front of fewer
unfoldable pub last_four : List ℕ → Four
last_four value = moved_on (record { first = 0; second = 0; third = 0; fourth = 0 }) value

-- ---- a value as it is read

abbrev pub four_of : Word → Four
four_of w = record { first = w.first; second = w.second; third = w.third; fourth = w.fourth }

abbrev pub begun : ℕ → Word
begun from = record { size = 0; first = 0; second = 0; third = 0; fourth = 0; rank = 4; next = from }

abbrev pub grown : Word → ℕ → ℕ → Word
grown w b next =
    record { size = w.size + 1; first = w.second; second = w.third; third = w.fourth; fourth = b; rank = 4; next = next }

abbrev pub passed : Word → ℕ → ℕ → Word
passed w rank next =
    record { size = w.size; first = w.first; second = w.second; third = w.third; fourth = w.fourth; rank = rank; next = next }

-- ---- the value that begins at a place

module _ (c : Characters) (s : List ℕ) (from : ℕ) where
  -- its tokens, with the separator that ends it
  abbrev pub piece_at : List Token
  piece_at = through (ends 3) (tokens_at c s from)

  -- the tokens of its repeat, with the separator that ends that
  abbrev pub repeat_at : List Token
  repeat_at = through (ends 2) (tokens_at c s from)

  -- its bytes
  abbrev pub value_at : List ℕ
  value_at = bytes_of piece_at

  -- the word says its size, its last four bytes, the rank of the separator that ends it (4 for none), and the place after that
  pub record Words (w : Word) : Type 0 where
    pub sized : w.size ≡ length value_at
    pub last : four_of w ≡ last_four value_at
    pub known : w.rank ≤ 4
    pub ended : (rank : ℕ) → rank ≤ 3 → ended_by rank piece_at ≡ leb w.rank rank
    pub after : Skips (ends 3) c s from w.next
