-- Shelves of version 1 written out byte by byte: sound ones, damaged ones, and what the operations do to them; and what is asked of a shelf
-- of any version. Assumes nothing.
use Rattle.std.specs.Prelude.{ℕ, Bool, not, ◌&&◌, List, [], ◌∷◌, ◌++◌, length, take, drop, replicate, eqb, leb}
use Prim.Native.String.{String}
use Rattle.lists.specs.Lists.{text, same, begins, all, those}
use Rattle.answers.specs.Answers.{Answer}
use Rattle.shelves.specs.Layout.{Layout, version_one, occupied, free, heading, text_of, end_of}
use Rattle.shelves.specs.Soundness.{is_normal_form, each_two, is_sized, lies, apart, differ, is_blank_pair, is_summed, sound}
use Rattle.shelves.specs.Operations.{start, start_shelf, slots_of, put, put_shelf, got_offset, got_length, length_answer, remove, remove_shelf}
use Rattle.starred_cases.specs.Cases.{bgm, unz, with, x, says}

-- ---- shelves

-- the normal form of X (93 bytes), and a shorter one (52 bytes)
abbrev pub long : List ℕ
long = text "UNA:+.? '" ++ x

abbrev pub short : List ℕ
short = text "UNA:+.? 'UNB+UNOA:1+A+B+1+R'UNH+1+M'UNT+2+1'UNZ+1+R'"

-- the eight bytes of a map of the slots 0 to 7, and the pairs of the first three slots
abbrev mapped : ℕ → List ℕ
mapped slots = replicate 7 0 ++ slots ∷ []

abbrev pub pair : (high low size : ℕ) → List ℕ
pair high low size = 0 ∷ 0 ∷ high ∷ low ∷ 0 ∷ 0 ∷ 0 ∷ size ∷ []

abbrev pub none : List ℕ
none = replicate 8 0

-- the bytes of the two sums stand behind the map, where the version has them
abbrev pub summed : (first : String) (version slots : ℕ) (sums a b c texts : List ℕ) (free : ℕ) → List ℕ
summed first version slots sums a b c texts free =
    text first ++ 0 ∷ version ∷ mapped slots ++ sums ++ a ++ b ++ c ++ replicate 488 0 ++ texts ++ replicate free 0

abbrev pub shelf_of : (first : String) (version slots : ℕ) (a b c texts : List ℕ) (free : ℕ) → List ℕ
shelf_of first version slots a b c texts free = summed first version slots [] a b c texts free

-- the first text begins at 525 (2 * 256 + 13), the one behind the short one at 577, the one behind the long one at 618
abbrev pub one : List ℕ
one = shelf_of "EDS" 1 1 (pair 2 13 93) none none long 60

-- the short text is in slot 0 and the long one in slot 2; the long one lies first
abbrev two : List ℕ
two = shelf_of "EDS" 1 5 (pair 2 106 52) none (pair 2 13 93) (long ++ short) 8

unfoldable pub sound_shelves : List (List ℕ)
sound_shelves = shelf_of "EDS" 1 0 none none none [] 0 ∷ one ∷ two ∷ []

-- none of them is sound; most of them fail several of the things that soundness asks
unfoldable pub damaged : List (List ℕ)
damaged =
    -- one byte too few; another beginning; another version
    take 524 (shelf_of "EDS" 1 0 none none none [] 0)
    ∷ shelf_of "EDT" 1 1 (pair 2 13 93) none none long 60
    ∷ shelf_of "EDS" 2 1 (pair 2 13 93) none none long 60
    -- the map names another slot, or one more
    ∷ shelf_of "EDS" 1 2 (pair 2 13 93) none none long 60
    ∷ shelf_of "EDS" 1 3 (pair 2 13 93) none none long 60
    -- it begins a byte later, or is a byte shorter or longer
    ∷ shelf_of "EDS" 1 1 (pair 2 14 93) none none (0 ∷ long) 60
    ∷ shelf_of "EDS" 1 1 (pair 2 13 92) none none long 60
    ∷ shelf_of "EDS" 1 1 (pair 2 13 94) none none long 60
    -- a gap between two; the second over the last byte of the first; both at the same place
    ∷ shelf_of "EDS" 1 5 (pair 2 107 52) none (pair 2 13 93) (long ++ 0 ∷ short) 8
    ∷ shelf_of "EDS" 1 5 (pair 2 105 52) none (pair 2 13 93) (take 92 long ++ short) 8
    ∷ shelf_of "EDS" 1 5 (pair 2 13 93) none (pair 2 13 93) long 200
    -- the same text twice; a text that is no normal form; a text beyond the end
    ∷ shelf_of "EDS" 1 3 (pair 2 13 52) (pair 2 65 52) none (short ++ short) 8
    ∷ shelf_of "EDS" 1 1 (pair 2 13 84) none none x 60
    ∷ shelf_of "EDS" 1 1 (pair 2 13 93) none none (take 92 long) 0
    -- a free entry or a free byte that is not zero
    ∷ shelf_of "EDS" 1 1 (pair 2 13 93) (pair 2 13 0) none long 60
    ∷ (shelf_of "EDS" 1 1 (pair 2 13 93) none none long 59 ++ 1 ∷ [])
    ∷ []

-- its own normal form, but not accepted: the message has three segments
abbrev pub miscounted : List ℕ
miscounted = text "UNA:+.? '" ++ with bgm "UNT+4+1'" unz

-- each of these fails one of them alone
unfoldable pub damaged_once : List (List ℕ)
damaged_once =
    -- the texts end behind the shelf's end; a free entry's length is not zero
    shelf_of "EDS" 1 1 (pair 2 13 94) none none long 0
    ∷ shelf_of "EDS" 1 1 (pair 2 13 93) (pair 0 0 1) none long 60
    -- an occupied slot has no bytes; a text is not accepted
    ∷ shelf_of "EDS" 1 3 (pair 2 13 93) (pair 2 106 0) none long 60
    ∷ shelf_of "EDS" 1 1 (pair 2 13 93) none none miscounted 60
    -- a text has a line break after its advice, or after a terminator; a text names a section that there is not
    ∷ shelf_of "EDS" 1 1 (pair 2 13 94) none none (text "UNA:+.? '" ++ 10 ∷ x) 60
    ∷ shelf_of "EDS" 1 1 (pair 2 13 95) none none (long ++ 13 ∷ 10 ∷ []) 60
    ∷ shelf_of "EDS" 1 1 (pair 2 13 99) none none (text "UNA:+.? '" ++ with bgm "UNS+X'UNT+4+1'" unz) 60
    ∷ []

-- ---- what the operations answer and leave

-- an answer with its number and values, and a shelf as it is and as it is to be
pub record Row : Type 0 where
  pub answer : Answer
  pub number : ℕ
  pub values : List ℕ
  pub shelf : List ℕ
  pub expected : List ℕ

abbrev pub row : Answer → ℕ → List ℕ → List ℕ → List ℕ → Row
row answer number values shelf expected =
    record { answer = answer; number = number; values = values; shelf = shelf; expected = expected }

abbrev empty : ℕ → List ℕ
empty free = shelf_of "EDS" 1 0 none none none [] free

abbrev puts : List ℕ → List ℕ → ℕ → List ℕ → List ℕ → Row
puts s input number values after = row (put version_one s input) number values (put_shelf version_one s input) after

abbrev removes : List ℕ → ℕ → ℕ → List ℕ → List ℕ → Row
removes s slot number values after = row (remove version_one s slot) number values (remove_shelf version_one s slot) after

-- what Get hands back
abbrev gets : List ℕ → ℕ → ℕ → List ℕ → List ℕ → Row
gets s slot number values part =
    row (length_answer version_one s slot) number values (take (got_length version_one s slot) (drop (got_offset version_one s slot) s)) part

unfoldable pub rows : List Row
rows =
    row (start version_one (replicate 530 7)) 0 [] (start_shelf version_one (replicate 530 7)) (empty 5)
    ∷ row (start version_one (replicate 524 7)) 19 (0 ∷ []) (start_shelf version_one (replicate 524 7)) (replicate 524 7)
    -- a new text, its copy, and one more, in the lowest free slot behind the last text
    ∷ puts (empty 153) x 0 (0 ∷ 1 ∷ []) one
    ∷ puts one x 0 (0 ∷ 0 ∷ []) one
    ∷ puts one short 0 (1 ∷ 1 ∷ []) (shelf_of "EDS" 1 3 (pair 2 13 93) (pair 2 106 52) none (long ++ short) 8)
    ∷ puts two x 0 (2 ∷ 0 ∷ []) two
    -- with line breaks, a text and its copy
    ∷ puts (empty 153) (x ++ 13 ∷ 10 ∷ []) 0 (0 ∷ 1 ∷ []) one
    ∷ puts one (text "UNA:+.? '" ++ 13 ∷ 10 ∷ x) 0 (0 ∷ 0 ∷ []) one
    -- 19, then Judge's, then 18
    ∷ puts (take 524 one) x 19 (0 ∷ []) (take 524 one)
    ∷ puts (take 524 one) (take 83 x) 19 (0 ∷ []) (take 524 one)
    ∷ puts one (take 83 x) 5 (83 ∷ []) one
    ∷ puts (empty 0) (take 83 x) 5 (83 ∷ []) (empty 0)
    ∷ puts (empty 92) x 18 (93 ∷ []) (empty 92)
    -- Get, and 20 after 19
    ∷ gets two 0 0 (52 ∷ []) short
    ∷ gets two 2 0 (93 ∷ []) long
    ∷ gets two 1 20 (1 ∷ []) []
    ∷ gets two 64 20 (64 ∷ []) []
    ∷ gets (take 524 one) 0 19 (0 ∷ []) []
    ∷ gets (take 524 one) 1 19 (0 ∷ []) []
    -- the later text moves down, and what was vacated is zero
    ∷ removes two 2 0 (93 ∷ []) (shelf_of "EDS" 1 1 (pair 2 13 52) none none short 101)
    ∷ removes two 0 0 (52 ∷ []) (shelf_of "EDS" 1 4 none none (pair 2 13 93) long 60)
    ∷ removes two 3 20 (3 ∷ []) two
    ∷ removes (take 524 one) 64 19 (0 ∷ []) (take 524 one)
    -- how many slots are occupied, and the lowest free one
    ∷ row (slots_of version_one two) 0 (2 ∷ 1 ∷ []) two two
    ∷ row (slots_of version_one (take 524 one)) 19 (0 ∷ []) (take 524 one) (take 524 one)
    ∷ []

unfoldable pub right : Row → Bool
right r = says r.answer 0 r.number r.values && same r.shelf r.expected

module _ (l : Layout) where
  unfoldable pub is_sound : List ℕ → Bool
  is_sound s = sound l s

  unfoldable pub is_unsound : List ℕ → Bool
  is_unsound s = not (sound l s)

  -- what soundness asks, in the order of its definition
  unfoldable pub asked : List ℕ → List Bool
  asked s =
      is_sized l s
      ∷ begins (heading l) s
      ∷ leb (end_of l s) (length s)
      ∷ all (lies l s) (occupied s)
      ∷ each_two (apart l s) (occupied s)
      ∷ all (λ k. is_normal_form (text_of l s k)) (occupied s)
      ∷ each_two (differ l s) (occupied s)
      ∷ all (is_blank_pair l s) (free s)
      ∷ all (eqb 0) (drop (end_of l s) s)
      ∷ is_summed l s
      ∷ []

  unfoldable pub fails_one : List ℕ → Bool
  fails_one s = eqb (length (those not (asked s))) 1
