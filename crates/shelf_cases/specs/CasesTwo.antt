-- Requests 2026-06, 2026-10 and 2026-13: shelves of version 2 written out byte by byte, what the operations do to the two sums, texts of syntax
-- version 4 on them, and a shelf that has room for either of two texts and not for both. Assumes nothing.
use Rattle.std.specs.Prelude.{ℕ, List, [], ◌∷◌, ◌++◌, length, take, replicate, T, eqb}
use Rattle.lists.specs.Lists.{is_empty, text}
use Rattle.stages.specs.Contents.{normal_form}
use Rattle.operations.specs.Compare.{is_accepted}
use Rattle.shelves.specs.Layout.{version_two, occupied}
use Rattle.shelves.specs.Soundness.{sound}
use Rattle.shelves.specs.Operations.{start, start_shelf, slots_of, sums_of, put, put_shelf, remove, remove_shelf}
use Rattle.starred_cases.specs.Cases.{x}
use Rattle.shelf_cases.specs.Cases.{long, short, pair, none, summed, one, Row, row}

-- the texts begin at 533 (2 * 256 + 21): the text bytes held, and the four bytes of the duplicates found
abbrev shelf_two : (held : ℕ) (duplicates : List ℕ) (slots : ℕ) (a b c texts : List ℕ) (free : ℕ) → List ℕ
shelf_two held duplicates slots a b c texts free = summed "EDS" 2 slots (0 ∷ 0 ∷ 0 ∷ held ∷ duplicates) a b c texts free

abbrev figure : (high low : ℕ) → List ℕ
figure high low = 0 ∷ 0 ∷ high ∷ low ∷ []

-- 4,294,967,295
abbrev ceiling : List ℕ
ceiling = replicate 4 255

abbrev empty : ℕ → List ℕ
empty free = shelf_two 0 (figure 0 0) 0 none none none [] free

abbrev one_two : (duplicates : List ℕ) → List ℕ
one_two duplicates = shelf_two 93 duplicates 1 (pair 2 21 93) none none long 60

-- the short text is in slot 0 and the long one in slot 2; the long one lies first
abbrev two : (duplicates : List ℕ) → List ℕ
two duplicates = shelf_two 145 duplicates 5 (pair 2 114 52) none (pair 2 21 93) (long ++ short) 8

-- Request 2026-10: a normal form of syntax version 4 with two repeats, the second a released `*` (55 bytes); and a text that names version 4 with a
-- space in the fifth place: it is accepted, and its normal form, which is as long, has `*` there (52 bytes)
abbrev fourth : List ℕ
fourth = text "UNA:+.?*'UNB+UNOA:4+A*?*+B+1+R'UNH+1+M'UNT+2+1'UNZ+1+R'"

abbrev named4 : (fifth : ℕ) → List ℕ
named4 fifth = text "UNA:+.?" ++ fifth ∷ text "'UNB+UNOA:4+A+B+1+R'UNH+1+M'UNT+2+1'UNZ+1+R'"

-- a text of syntax version 1 and one of version 4, which begins at 585 (2 * 256 + 73)
abbrev both_versions : (duplicates : List ℕ) → List ℕ
both_versions duplicates = shelf_two 107 duplicates 3 (pair 2 21 52) (pair 2 73 55) none (short ++ fourth) 52

abbrev one_named4 : (fifth : ℕ) → List ℕ
one_named4 fifth = shelf_two 52 (figure 0 0) 1 (pair 2 21 52) none none (named4 fifth) 60

-- the duplicates figure may be anything
unfoldable pub sound_two : List (List ℕ)
sound_two =
    empty 0
    ∷ shelf_two 0 ceiling 0 none none none [] 0
    ∷ one_two (figure 0 0)
    ∷ one_two ceiling
    ∷ two (figure 3 7)
    ∷ both_versions (figure 0 0)
    ∷ one_named4 42
    ∷ []

-- a shelf of version 1, and one byte too few
unfoldable pub damaged_two : List (List ℕ)
damaged_two = one ∷ take 532 (empty 0) ∷ []

-- each of these fails one of the things that soundness asks: the text bytes held are wrong by one, or in another byte; version 1's number; and a text
-- that is no normal form by its fifth byte alone
unfoldable pub damaged_two_once : List (List ℕ)
damaged_two_once =
    shelf_two 92 (figure 0 0) 1 (pair 2 21 93) none none long 60
    ∷ shelf_two 94 (figure 0 0) 1 (pair 2 21 93) none none long 60
    ∷ shelf_two 1 (figure 0 0) 0 none none none [] 0
    ∷ summed "EDS" 2 1 (1 ∷ 0 ∷ 0 ∷ 93 ∷ figure 0 0) (pair 2 21 93) none none long 60
    ∷ summed "EDS" 1 1 (0 ∷ 0 ∷ 0 ∷ 93 ∷ figure 0 0) (pair 2 21 93) none none long 60
    ∷ one_named4 32
    ∷ []

abbrev puts : List ℕ → List ℕ → ℕ → List ℕ → List ℕ → Row
puts s input number values after = row (put version_two s input) number values (put_shelf version_two s input) after

abbrev removes : List ℕ → ℕ → ℕ → List ℕ → List ℕ → Row
removes s slot number values after = row (remove version_two s slot) number values (remove_shelf version_two s slot) after

abbrev sums : List ℕ → ℕ → List ℕ → Row
sums s number values = row (sums_of version_two s) number values s s

-- request 2026-13: an empty shelf with 93 free bytes, and with the long text or the short one in it
unfoldable pub narrow : List ℕ
narrow = empty 93

abbrev narrow_long : List ℕ
narrow_long = shelf_two 93 (figure 0 0) 1 (pair 2 21 93) none none long 0

abbrev narrow_short : List ℕ
narrow_short = shelf_two 52 (figure 0 0) 1 (pair 2 21 52) none none short 41

-- it is sound, and either text fits it, and not both
abbrev pub FitsEither : Type 0
FitsEither =
    T (sound version_two narrow)
    × T (is_empty (occupied narrow))
    × T (eqb (length narrow) 626)
    × T (is_accepted x)
    × T (is_accepted short)
    × T (eqb (length (normal_form x)) 93)
    × T (eqb (length (normal_form short)) 52)

unfoldable pub rows_two : List Row
rows_two =
    row (start version_two (replicate 533 7)) 0 [] (start_shelf version_two (replicate 533 7)) (empty 0)
    ∷ row (start version_two (replicate 532 7)) 19 (0 ∷ []) (start_shelf version_two (replicate 532 7)) (replicate 532 7)
    -- a new text: the map and the text bytes held change, and the duplicates found stay
    ∷ puts (empty 153) x 0 (0 ∷ 1 ∷ []) (one_two (figure 0 0))
    ∷ puts (one_two (figure 0 9)) short 0 (1 ∷ 1 ∷ []) (shelf_two 145 (figure 0 9) 3 (pair 2 21 93) (pair 2 114 52) none (long ++ short) 8)
    -- a copy: the duplicates found, up to their ceiling
    ∷ puts (one_two (figure 0 0)) x 0 (0 ∷ 0 ∷ []) (one_two (figure 0 1))
    ∷ puts (two (figure 0 255)) x 0 (2 ∷ 0 ∷ []) (two (figure 1 0))
    ∷ puts (one_two (255 ∷ 255 ∷ 255 ∷ 254 ∷ [])) x 0 (0 ∷ 0 ∷ []) (one_two ceiling)
    ∷ puts (one_two ceiling) x 0 (0 ∷ 0 ∷ []) (one_two ceiling)
    -- a refused put raises nothing: Judge's, 18, and 19 for a version 1 shelf
    ∷ puts (one_two (figure 0 0)) (take 83 x) 5 (83 ∷ []) (one_two (figure 0 0))
    ∷ puts (empty 92) x 18 (93 ∷ []) (empty 92)
    ∷ puts one x 19 (0 ∷ []) one
    -- request 2026-13, room for either of two texts and not for both: the one that is put first is kept, and the other is refused by 18
    ∷ puts narrow x 0 (0 ∷ 1 ∷ []) narrow_long
    ∷ puts narrow_long short 18 (52 ∷ []) narrow_long
    ∷ puts narrow short 0 (0 ∷ 1 ∷ []) narrow_short
    ∷ puts narrow_short x 18 (93 ∷ []) narrow_short
    -- Remove leaves the duplicates figure
    ∷ removes (two (figure 0 4)) 2 0 (93 ∷ []) (shelf_two 52 (figure 0 4) 1 (pair 2 21 52) none none short 101)
    ∷ removes (two ceiling) 0 0 (52 ∷ []) (shelf_two 93 ceiling 4 none none (pair 2 21 93) long 60)
    ∷ removes (two ceiling) 1 20 (1 ∷ []) (two ceiling)
    -- the two sums, and the two numbers read off the map
    ∷ sums (two (figure 3 7)) 0 (145 ∷ 775 ∷ [])
    ∷ sums (one_two ceiling) 0 (93 ∷ 4294967295 ∷ [])
    ∷ sums one 19 (0 ∷ [])
    ∷ row (slots_of version_two (two ceiling)) 0 (2 ∷ 1 ∷ []) [] []
    -- request 2026-10: a text of version 4 beside one of version 1, and its copy under another repetition separator
    ∷ puts (shelf_two 52 (figure 0 0) 1 (pair 2 21 52) none none short 107) fourth 0 (1 ∷ 1 ∷ []) (both_versions (figure 0 0))
    ∷ puts (both_versions (figure 0 0)) (text "UNA:+.?!'UNB+UNOA:4+A!*+B+1+R'UNH+1+M'UNT+2+1'UNZ+1+R'") 0 (1 ∷ 0 ∷ []) (both_versions (figure 0 1))
    -- with a space in the fifth place it is kept with `*` there; a shelf that keeps the space is 19 at 0
    ∷ puts (empty 112) (named4 32) 0 (0 ∷ 1 ∷ []) (one_named4 42)
    ∷ puts (one_named4 32) x 19 (0 ∷ []) (one_named4 32)
    ∷ []
