-- Files written out, with the sizes of their pieces, the number that Judge gives each, and the figures. Assumes nothing.
use Rattle.std.specs.Prelude.{ℕ, Bool, ◌&&◌, List, [], ◌∷◌, ◌++◌, map, length, take, eqb}
use Prim.Native.String.{String}
use Rattle.lists.specs.Lists.{text, same, those}
use Rattle.operations.specs.Judge.{judge}
use Rattle.mailbox_files.specs.Pieces.{pieces}
use Rattle.mailbox_files.specs.Report.{numbers, report}
use Rattle.starred_cases.specs.Cases.{bgm, unt, unz, with, x, respelled, says}

-- ---- interchanges

-- 43 bytes, with a normal form of 52; and the same with another text for UNB, and with another for UNZ
abbrev short_with : String → String → List ℕ
short_with first last = text first ++ text "UNH+1+M'UNT+2+1'" ++ text last

abbrev short : List ℕ
short = short_with "UNB+UNOA:1+A+B+1+R'" "UNZ+1+R'"

-- 81 bytes, with a normal form of 90: a group with two messages, in 8 segments
abbrev grouped : List ℕ
grouped = text "UNB+UNOA:1+A+B+1+R'UNG+M+A+B+1+G'UNH+1+M'UNT+2+1'UNH+2+M'UNT+2+2'UNE+2+G'UNZ+1+R'"

-- the short one under the bytes 28, 29 and 31
abbrev control : List ℕ
control =
    text "UNB" ++ 29 ∷ text "UNOA" ++ 31 ∷ text "1" ++ 29 ∷ text "A" ++ 29 ∷ text "B" ++ 29 ∷ text "1" ++ 29 ∷ text "R" ++ 28
    ∷ text "UNH" ++ 29 ∷ text "1" ++ 29 ∷ text "M" ++ 28 ∷ text "UNT" ++ 29 ∷ text "2" ++ 29 ∷ text "1" ++ 28
    ∷ text "UNZ" ++ 29 ∷ text "1" ++ 29 ∷ text "R" ++ 28 ∷ []

-- a carriage return and a line feed
abbrev new_line : List ℕ
new_line = 13 ∷ 10 ∷ []

-- ---- rows

pub record Row : Type 0 where
  pub file : List ℕ
  -- of each piece its size and the number that Judge gives it, 0 for an accepted one
  pub sizes : List ℕ
  pub judged : List ℕ
  -- segments, messages, total of normal lengths, longest normal length
  pub figures : List ℕ

abbrev row : List ℕ → List ℕ → List ℕ → List ℕ → Row
row file sizes judged figures = record { file = file; sizes = sizes; judged = judged; figures = figures }

unfoldable pub rows : List Row
rows =
    -- "A file of no bytes has no pieces."
    row [] [] [] (0 ∷ 0 ∷ 0 ∷ 0 ∷ [])
    -- one, and three end to end
    ∷ row x (84 ∷ []) (0 ∷ []) (5 ∷ 1 ∷ 93 ∷ 93 ∷ [])
    ∷ row (short ++ x ++ short) (43 ∷ 84 ∷ 43 ∷ []) (0 ∷ 0 ∷ 0 ∷ []) (13 ∷ 3 ∷ 197 ∷ 93 ∷ [])
    -- two messages in a group: what is counted is segments and messages, and neither interchanges nor groups
    ∷ row grouped (81 ∷ []) (0 ∷ []) (8 ∷ 2 ∷ 90 ∷ 90 ∷ [])
    ∷ row (short ++ grouped ++ short) (43 ∷ 81 ∷ 43 ∷ []) (0 ∷ 0 ∷ 0 ∷ []) (16 ∷ 4 ∷ 194 ∷ 90 ∷ [])
    -- the breaks behind UNZ are the piece's
    ∷ row (short ++ new_line ++ new_line ++ x ++ new_line) (47 ∷ 86 ∷ []) (0 ∷ 0 ∷ []) (9 ∷ 2 ∷ 145 ∷ 93 ∷ [])
    -- breaks alone, or at the beginning, are under 3, and the rest with them
    ∷ row new_line (2 ∷ []) (3 ∷ []) (0 ∷ 0 ∷ 0 ∷ 0 ∷ [])
    ∷ row (new_line ++ short ++ x) (129 ∷ []) (3 ∷ []) (0 ∷ 0 ∷ 0 ∷ 0 ∷ [])
    -- each piece has the service characters of its own beginning
    ∷ row (control ++ x ++ respelled "UNA;*.! ~") (43 ∷ 84 ∷ 92 ∷ []) (0 ∷ 0 ∷ 0 ∷ []) (14 ∷ 3 ∷ 238 ∷ 93 ∷ [])
    ∷ row (text "UNA:+.? '" ++ new_line ++ short ++ control) (54 ∷ 43 ∷ []) (0 ∷ 0 ∷ []) (8 ∷ 2 ∷ 104 ∷ 52 ∷ [])
    -- 7 to 12 do not stop the cutting; the longest normal form is that of an accepted one
    ∷ row (with bgm "UNT+4+1'" unz ++ short) (84 ∷ 43 ∷ []) (12 ∷ 0 ∷ []) (4 ∷ 1 ∷ 52 ∷ 52 ∷ [])
    ∷ row (with bgm "UNT+3+2'" unz ++ with bgm "UNT+3+'" unz ++ short) (84 ∷ 83 ∷ 43 ∷ []) (11 ∷ 10 ∷ 0 ∷ []) (4 ∷ 1 ∷ 52 ∷ 52 ∷ [])
    ∷ row (short_with "UNB+UNOC:1+A+B+1+R'" "UNZ+1+R'" ++ short_with "UNB+UNOA:1+a+B+1+R'" "UNZ+1+R'" ++ short)
    (43 ∷ 43 ∷ 43 ∷ [])
    (7 ∷ 8 ∷ 0 ∷ [])
    (4 ∷ 1 ∷ 52 ∷ 52 ∷ [])
    -- a repetition separator with version 1 is under 7; versions 1 and 4 may stand in one file, each with its own characters
    ∷ row (text "UNA:+.?*'" ++ x ++ short) (93 ∷ 43 ∷ []) (7 ∷ 0 ∷ []) (4 ∷ 1 ∷ 52 ∷ 52 ∷ [])
    ∷ row (short_with "UNB+UNOA:4+A*C+B+1+R'" "UNZ+1+R'" ++ short_with "UNB+UNOA:1+A*C+B+1+R'" "UNZ+1+R'")
    (45 ∷ 45 ∷ [])
    (0 ∷ 0 ∷ [])
    (8 ∷ 2 ∷ 108 ∷ 54 ∷ [])
    -- UNZ ends a piece wherever it stands: 9, and the cutting goes on
    ∷ row (text "UNB+UNOA:1+A'UNZ+0+R'" ++ short) (21 ∷ 43 ∷ []) (9 ∷ 0 ∷ []) (4 ∷ 1 ∷ 52 ∷ 52 ∷ [])
    -- 2 to 6 before a UNZ, or in it: the rest is one piece from its beginning on, and nothing behind it is counted
    ∷ row (short ++ text "UNA:+.?A'" ++ x) (43 ∷ 93 ∷ []) (0 ∷ 2 ∷ []) (4 ∷ 1 ∷ 52 ∷ 52 ∷ [])
    ∷ row (short ++ text "UNZ+1+R'" ++ x) (43 ∷ 92 ∷ []) (0 ∷ 3 ∷ []) (4 ∷ 1 ∷ 52 ∷ 52 ∷ [])
    ∷ row (short ++ with "BGM+220+A?B'" unt unz ++ x) (43 ∷ 167 ∷ []) (0 ∷ 4 ∷ []) (4 ∷ 1 ∷ 52 ∷ 52 ∷ [])
    ∷ row (short ++ take 42 short) (43 ∷ 42 ∷ []) (0 ∷ 5 ∷ []) (4 ∷ 1 ∷ 52 ∷ 52 ∷ [])
    ∷ row (short ++ with "bgm'" unt unz ++ x) (43 ∷ 159 ∷ []) (0 ∷ 6 ∷ []) (4 ∷ 1 ∷ 52 ∷ 52 ∷ [])
    ∷ row (with bgm unt "UNZ+1+?R'" ++ x) (168 ∷ []) (4 ∷ []) (0 ∷ 0 ∷ 0 ∷ 0 ∷ [])
    ∷ row (with bgm unt "UNZ:1+R1'" ++ x) (168 ∷ []) (6 ∷ []) (0 ∷ 0 ∷ 0 ∷ 0 ∷ [])
    -- the end before a UNZ: counted under what Judge says of the rest, which may be 7, 8 or 9
    ∷ row (short ++ text "UNB+UNOC:1'") (43 ∷ 11 ∷ []) (0 ∷ 7 ∷ []) (4 ∷ 1 ∷ 52 ∷ 52 ∷ [])
    ∷ row (short ++ text "UNB+UNOA:1+a'UNH+1+M'") (43 ∷ 21 ∷ []) (0 ∷ 8 ∷ []) (4 ∷ 1 ∷ 52 ∷ 52 ∷ [])
    ∷ row (short ++ take 35 short ++ new_line) (43 ∷ 37 ∷ []) (0 ∷ 9 ∷ []) (4 ∷ 1 ∷ 52 ∷ 52 ∷ [])
    -- one byte more than an interchange
    ∷ row (x ++ text "A") (84 ∷ 1 ∷ []) (0 ∷ 3 ∷ []) (5 ∷ 1 ∷ 93 ∷ 93 ∷ [])
    ∷ []

-- how many of them are n
unfoldable pub how_many : List ℕ → ℕ → ℕ
how_many ns n = length (those (eqb n) ns)

-- the figures that the row's numbers make: interchanges accepted, those under 1 to 13, and the row's own four
unfoldable pub expected : Row → List ℕ
expected r = how_many r.judged 0 ∷ 0 ∷ (map (how_many r.judged) numbers ++ r.figures)

unfoldable pub right : Row → Bool
right r =
    same (map length (pieces r.file)) r.sizes
    && same (map (λ piece. (judge piece).number) (pieces r.file)) r.judged
    && says (report r.file) 0 0 (expected r)
