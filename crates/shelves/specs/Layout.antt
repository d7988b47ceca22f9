-- Requests 2026-04 and 2026-06: what stands where in a shelf. Assumes nothing.
use Rattle.std.specs.Prelude.{ℕ, zero, suc, ◌+◌, ◌*◌, ◌/◌, ◌%◌, ◌^◌, ◌<◌, ◌≡◌, Bool, true, false, not, List, [], ◌∷◌, ◌++◌, map, take, drop, eqb, leb}
use Rattle.lists.specs.Lists.{text, those}
use Rattle.numbers.specs.Numbers.{number_at, in_bytes}

-- A layout: its version, and where its 64 pairs begin. All else follows.
pub record Layout : Type 0 where
  pub version : ℕ
  pub pairs : ℕ

-- "`EDS`, a 16-bit version (1), a 64-bit map of occupied slots .., 64 pairs of 32-bit start and length, then the normal forms"
abbrev pub version_one : Layout
version_one = record { version = 1; pairs = 13 }

-- "Version 2 of the shelf has, after the map, 32 bits of text bytes held and 32 bits of duplicates found"
abbrev pub version_two : Layout
version_two = record { version = 2; pairs = 21 }

-- "a lent buffer of 525 to 65,536 bytes", "texts start at byte 533, which is the new least size": 525 and 533 are where the texts begin
abbrev pub most_shelf : ℕ
most_shelf = 65536

abbrev pub slot_count : ℕ
slot_count = 64

-- where the map stands, and the two sums in the layouts that have them
abbrev pub map_place : ℕ
map_place = 5

abbrev pub held_place : ℕ
held_place = 13

abbrev pub duplicates_place : ℕ
duplicates_place = 17

-- the numbers below n, from 0
unfoldable pub below : ℕ → List ℕ
below zero = []
below (suc n) = below n ++ n ∷ []

-- the sum of them
unfoldable pub total : List ℕ → ℕ
total [] = zero
total (n ∷ ns) = n + total ns

-- the map of occupied slots
unfoldable pub map_of : List ℕ → ℕ
map_of s = number_at s map_place 8

-- the text bytes held and the duplicates found, as they stand there
unfoldable pub held_figure : List ℕ → ℕ
held_figure s = number_at s held_place 4

unfoldable pub duplicates_of : List ℕ → ℕ
duplicates_of s = number_at s duplicates_place 4

-- "slot k is the bit worth 2^k"
unfoldable pub bit : ℕ → ℕ → Bool
bit map k = eqb (map / 2 ^ k % 2) 1

unfoldable pub is_occupied : List ℕ → ℕ → Bool
is_occupied s k = bit (map_of s) k

-- the slot is one of the 64, and occupied, or free
abbrev pub Occupied : List ℕ → ℕ → Type 0
Occupied s k = (k < slot_count) × (is_occupied s k ≡ true)

abbrev pub Free : List ℕ → ℕ → Type 0
Free s k = (k < slot_count) × (is_occupied s k ≡ false)

unfoldable pub occupied : List ℕ → List ℕ
occupied s = those (is_occupied s) (below slot_count)

unfoldable pub free : List ℕ → List ℕ
free s = those (λ k. not (is_occupied s k)) (below slot_count)

module _ (l : Layout) where
  -- the pairs leave room for the two sums
  unfoldable pub has_sums : Bool
  has_sums = leb (duplicates_place + 4) l.pairs

  -- where the texts begin, and the least size of a shelf
  abbrev pub base : ℕ
  base = l.pairs + 512

  -- "`EDS`, a 16-bit version"
  unfoldable pub heading : List ℕ
  heading = text "EDS" ++ in_bytes 2 l.version

  -- where a slot's pair stands
  unfoldable pub pair_place : ℕ → ℕ
  pair_place k = l.pairs + k * 8

  module _ (s : List ℕ) where
    -- "starts count from the buffer's beginning"
    unfoldable pub start_of : ℕ → ℕ
    start_of k = number_at s (pair_place k) 4

    unfoldable pub length_of : ℕ → ℕ
    length_of k = number_at s (pair_place k + 4) 4

    unfoldable pub text_of : ℕ → List ℕ
    text_of k = take (length_of k) (drop (start_of k) s)

    -- the kept texts
    unfoldable pub kept : List (List ℕ)
    kept = map text_of (occupied s)

    -- how many bytes the texts have together
    unfoldable pub held : ℕ
    held = total (map length_of (occupied s))

    -- where the free bytes begin
    unfoldable pub end_of : ℕ
    end_of = base + held
