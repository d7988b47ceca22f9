-- Further cases, computed as the starred ones are: numbers, places and characters that no starred case answers. Assumes nothing.
use Rattle.std.specs.Prelude.{ℕ, List, [], ◌∷◌, ◌++◌, Bool, take, replicate}
use Prim.Native.String.{String}
use Rattle.lists.specs.Lists.{text}
use Rattle.answers.specs.Answers.{Answer}
use Rattle.operations.specs.Judge.{judge, normalise}
use Rattle.operations.specs.Compare.{compare}
use Rattle.operations.specs.Locate.{locate}
use Rattle.operations.specs.Read.{read}
use Rattle.operations.specs.Write.{write}
use Rattle.starred_cases.specs.Cases.{unb, unh, bgm, unt, unz, with, x, says}

-- an answer, and the number and the values that it has
pub record Row : Type 0 where
  pub answer : Answer
  pub number : ℕ
  pub values : List ℕ

abbrev row : Answer → ℕ → List ℕ → Row
row answer number values = record { answer = answer; number = number; values = values }

-- X with another UNB or UNH
abbrev headed : String → String → List ℕ
headed first second = text first ++ text second ++ text bgm ++ text unt ++ text unz

-- X in a group, with this UNE and this UNZ
abbrev grouped : String → String → List ℕ
grouped une last =
    text unb ++ text "UNG+ORDERS+AA+BB+260105:0930+G1+UN+1:901'" ++ text unh ++ text bgm ++ text unt ++ text une ++ text last

-- X under 31, 29 and 28, without a release character, of this version and with this value in the place of `A+B`
abbrev controlled : String → String → List ℕ
controlled version value =
    text "UNB" ++ 29 ∷ text "UNOA" ++ 31 ∷ text version ++ 29 ∷ text "AA" ++ 29 ∷ text "BB" ++ 29 ∷ text "260105" ++ 31 ∷ text "0930"
    ++ 29 ∷ text "R1" ++ 28 ∷ text "UNH" ++ 29 ∷ text "1" ++ 29 ∷ text "ORDERS" ++ 31 ∷ text "1" ++ 31 ∷ text "901" ++ 31 ∷ text "UN"
    ++ 28 ∷ text "BGM" ++ 29 ∷ text "220" ++ 29 ∷ text value ++ 28 ∷ text "UNT" ++ 29 ∷ text "3" ++ 29 ∷ text "1"
    ++ 28 ∷ text "UNZ" ++ 29 ∷ text "1" ++ 29 ∷ text "R1" ++ 28 ∷ []

-- Write's six bytes, and a value list of `AB` and `C`
abbrev six : List ℕ
six = text ":+.? '"

-- X with bytes after each of its segments, and after what stands before it
abbrev spaced : List ℕ → List ℕ → List ℕ
spaced before gap =
    before ++ (text unb ++ (gap ++ (text unh ++ (gap ++ (text bgm ++ (gap ++ (text unt ++ (gap ++ (text unz ++ gap)))))))))

-- X with other bytes in the place of its third segment
abbrev third : List ℕ → List ℕ
third bytes = text unb ++ (text unh ++ (bytes ++ (text unt ++ text unz)))

-- request 2026-10: X in version 4, with other segments in the place of its last three
abbrev unb4 : String
unb4 = "UNB+UNOA:4+AA+BB+260105:0930+R1'"

abbrev with4 : String → String → List ℕ
with4 third fourth = text unb4 ++ text unh ++ text third ++ text fourth ++ text unz

-- Judge's answer for an accepted interchange of five segments and one message
abbrev five : String → ℕ → List ℕ
five six size = text six ++ 5 ∷ 1 ∷ 0 ∷ size ∷ []

unfoldable pub rows : List Row
rows =
    -- 6: the tag rule
    row (judge (with "bGM+220'" unt unz)) 6 (54 ∷ [])
    ∷ row (judge (with "BGMM+220'" unt unz)) 6 (54 ∷ [])
    ∷ row (judge (with "UNX+220'" unt unz)) 6 (54 ∷ [])
    ∷ row (judge (with "UNS:1+220'" unt unz)) 6 (54 ∷ [])
    -- 7: level and version
    ∷ row (judge (headed "UNB+UNOC:1+AA+BB+260105:0930+R1'" unh)) 7 (0 ∷ [])
    ∷ row (judge (headed "UNB+UNOA:3+AA+BB+260105:0930+R1'" unh)) 7 (0 ∷ [])
    ∷ row (judge (headed "UNA:+.? 'UNB+UNOA:3+AA+BB+260105:0930+R1'" unh)) 7 (9 ∷ [])
    -- 10: references of 1 to 14 bytes, counts of 1 to 6 digits
    ∷ row (judge (headed "UNB+UNOA:1+AA+BB+260105:0930'" unh)) 10 (0 ∷ [])
    ∷ row (judge (headed "UNB+UNOA:1+AA+BB+260105:0930+123456789012345'" unh)) 10 (0 ∷ [])
    ∷ row (judge (headed unb "UNH+1:1+ORDERS:1:901:UN'")) 10 (32 ∷ [])
    ∷ row (judge (with bgm "UNT+A+1'" unz)) 10 (67 ∷ [])
    ∷ row (judge (with bgm "UNT+0000003+1'" unz)) 10 (67 ∷ [])
    ∷ row (judge (with bgm "UNT+000003+1'" unz)) 0 (text ":+.? '" ++ 5 ∷ 1 ∷ 0 ∷ 98 ∷ [])
    -- 1
    ∷ row (judge (replicate 32001 65)) 1 (0 ∷ [])
    -- groups, and their counts
    ∷ row (judge (grouped "UNE+1+G1'" "UNZ+1+R1'")) 0 (text ":+.? '" ++ 7 ∷ 1 ∷ 1 ∷ 143 ∷ [])
    ∷ row (judge (grouped "UNE+1+G2'" "UNZ+1+R1'")) 11 (116 ∷ [])
    ∷ row (judge (grouped "UNE+2+G1'" "UNZ+1+R1'")) 12 (116 ∷ [])
    -- 9: a group without a message is refused at its UNE
    ∷ row (judge (text unb ++ text "UNG+ORDERS+AA+BB+260105:0930+G1+UN+1:901'" ++ text "UNE+0+G1'" ++ text unz)) 9 (73 ∷ [])
    -- 9: the sections of a message. D; S; D and S; D twice; S and then D; S twice
    ∷ row (judge (with "UNS+D'" unt unz)) 0 (text ":+.? '" ++ 5 ∷ 1 ∷ 0 ∷ 86 ∷ [])
    ∷ row (judge (with "UNS+S'" unt unz)) 0 (text ":+.? '" ++ 5 ∷ 1 ∷ 0 ∷ 86 ∷ [])
    ∷ row (judge (with "UNS+D'UNS+S'" "UNT+4+1'" unz)) 0 (text ":+.? '" ++ 6 ∷ 1 ∷ 0 ∷ 92 ∷ [])
    ∷ row (judge (with "UNS+D'UNS+D'" "UNT+4+1'" unz)) 9 (60 ∷ [])
    ∷ row (judge (with "UNS+S'UNS+D'" "UNT+4+1'" unz)) 9 (60 ∷ [])
    ∷ row (judge (with "UNS+S'UNS+S'" "UNT+4+1'" unz)) 9 (60 ∷ [])
    -- one component of the first element, trimmed
    ∷ row (judge (with "UNS+D:+'" unt unz)) 0 (text ":+.? '" ++ 5 ∷ 1 ∷ 0 ∷ 86 ∷ [])
    ∷ row (judge (with "UNS+D+1:2'" unt unz)) 0 (text ":+.? '" ++ 5 ∷ 1 ∷ 0 ∷ 90 ∷ [])
    ∷ row (judge (with "UNS'" unt unz)) 9 (54 ∷ [])
    ∷ row (judge (with "UNS+D:S'" unt unz)) 9 (54 ∷ [])
    ∷ row (judge (with "UNS++D'" unt unz)) 9 (54 ∷ [])
    ∷ row (judge (with "UNS+DS'" unt unz)) 9 (54 ∷ [])
    -- they begin anew at each UNH
    ∷ row (judge (with "UNS+S'UNT+3+1'UNH+2'UNS+D'" "UNT+3+2'" "UNZ+2+R1'")) 0 (text ":+.? '" ++ 8 ∷ 2 ∷ 0 ∷ 106 ∷ [])
    -- the other opening without advice
    ∷ row (judge (controlled "1" "A+B")) 0 (31 ∷ 29 ∷ 46 ∷ 32 ∷ 32 ∷ 28 ∷ 5 ∷ 1 ∷ 0 ∷ 93 ∷ [])
    ∷ row (compare x (controlled "1" "A+B")) 0 (1 ∷ [])
    ∷ row (compare x (take 3 x)) 3 (2 ∷ 0 ∷ [])
    -- where a value is spelled
    ∷ row (locate x 2 2 0 0) 0 (62 ∷ 4 ∷ [])
    ∷ row (locate x 2 3 0 0) 0 []
    -- 14: of Normalise and Read
    ∷ row (normalise (replicate 92 0) x) 14 (93 ∷ [])
    ∷ row (read (replicate 59 0) (replicate 68 0) x) 14 (60 ∷ [])
    ∷ row (read (replicate 60 0) (replicate 68 0) x) 14 (69 ∷ [])
    ∷ row (read (replicate 60 0) (replicate 69 0) x) 0 (60 ∷ 69 ∷ [])
    -- Write: 15, 2, 16, 14
    ∷ row (write six (text "AB") (0 ∷ 0 ∷ []) []) 15 (0 ∷ [])
    ∷ row (write six (text "AB") (1 ∷ 0 ∷ 1 ∷ []) []) 15 (0 ∷ [])
    ∷ row (write six (text "AB") (0 ∷ 0 ∷ 1 ∷ 4 ∷ 0 ∷ 0 ∷ 1 ∷ 2 ∷ 1 ∷ []) []) 15 (1 ∷ [])
    ∷ row (write six (text "AB") (0 ∷ 0 ∷ 1 ∷ 1 ∷ 0 ∷ 2 ∷ 1 ∷ 2 ∷ 1 ∷ []) []) 15 (2 ∷ [])
    ∷ row (write (text ":+.?.'") (text "AB") (0 ∷ 0 ∷ 1 ∷ []) []) 2 (0 ∷ [])
    ∷ row (write (text ":+.? '!") (text "AB") (0 ∷ 0 ∷ 1 ∷ []) []) 2 (0 ∷ [])
    ∷ row (write (text ":+.  '") (text "A'B:") (0 ∷ 0 ∷ 1 ∷ 1 ∷ 1 ∷ 2 ∷ 2 ∷ 3 ∷ 1 ∷ []) []) 16 (1 ∷ [])
    ∷ row (write six (text "AB") (0 ∷ 0 ∷ 1 ∷ 1 ∷ 1 ∷ 1 ∷ []) []) 14 (13 ∷ [])
    ∷ row (write six (text "AB") (0 ∷ 0 ∷ 1 ∷ 1 ∷ 1 ∷ 1 ∷ []) (replicate 13 7)) 3 (9 ∷ [])
    -- request 2026-01: "X and a line feed is now the same as X", and so is X with breaks after every terminator, and after an advice
    ∷ row (judge (x ++ 10 ∷ [])) 0 (text ":+.? '" ++ 5 ∷ 1 ∷ 0 ∷ 93 ∷ [])
    ∷ row (compare x (x ++ 10 ∷ [])) 0 (1 ∷ [])
    ∷ row (judge (spaced [] (13 ∷ 10 ∷ []))) 0 (text ":+.? '" ++ 5 ∷ 1 ∷ 0 ∷ 93 ∷ [])
    ∷ row (compare x (spaced [] (13 ∷ 10 ∷ []))) 0 (1 ∷ [])
    ∷ row (compare x (spaced (text "UNA:+.? '" ++ 13 ∷ 10 ∷ 10 ∷ []) (10 ∷ 13 ∷ []))) 0 (1 ∷ [])
    ∷ row (locate (spaced [] (13 ∷ 10 ∷ [])) 2 2 0 0) 0 (66 ∷ 4 ∷ [])
    -- no other byte is passed over, and breaks count in the 32,000 bytes
    ∷ row (judge (x ++ 12 ∷ [])) 5 (85 ∷ [])
    ∷ row (judge (x ++ replicate 31917 10)) 1 (0 ∷ [])
    -- 3: after an advice and its breaks; before an advice, or without one, a break is no part of an interchange
    ∷ row (judge (text "UNA:+.? '" ++ 10 ∷ 10 ∷ [])) 3 (11 ∷ [])
    ∷ row (judge (10 ∷ text "UNA:+.? '" ++ x)) 3 (0 ∷ [])
    ∷ row (judge (10 ∷ x)) 3 (0 ∷ [])
    -- 9 and 5: the input length is that of all that was lent
    ∷ row (judge (take 75 x ++ 10 ∷ [])) 9 (76 ∷ [])
    ∷ row (judge (x ++ 10 ∷ 65 ∷ [])) 5 (86 ∷ [])
    -- places are those after the breaks
    ∷ row (judge (text unb ++ 10 ∷ text "UNZ+0+R1'")) 9 (33 ∷ [])
    -- "Inside a segment they remain errors": in a tag and behind it, after a release character, in a value, after a released terminator
    ∷ row (judge (third (66 ∷ 10 ∷ text "M+220'"))) 6 (54 ∷ [])
    ∷ row (judge (third (text "BGM" ++ 13 ∷ text "+220'"))) 6 (54 ∷ [])
    ∷ row (judge (third (text "BGM+220+A?" ++ 10 ∷ text "B'"))) 4 (63 ∷ [])
    ∷ row (judge (third (text "BGM+" ++ 13 ∷ text "220'"))) 8 (58 ∷ [])
    ∷ row (judge (third (text "BGM+220+A" ++ 10 ∷ text "B'"))) 8 (63 ∷ [])
    ∷ row (judge (third (text "BGM+220+A?'" ++ 10 ∷ text "B'"))) 8 (65 ∷ [])
    -- "No segment of a list may begin with a break. Refusals: 15 at such a record."
    ∷ row (write six (10 ∷ text "A") (0 ∷ 0 ∷ 2 ∷ []) []) 15 (0 ∷ [])
    ∷ row (write six (65 ∷ 13 ∷ text "B") (0 ∷ 0 ∷ 1 ∷ 0 ∷ 1 ∷ 2 ∷ 3 ∷ 0 ∷ 1 ∷ []) []) 15 (1 ∷ [])
    -- an element or a component may, and so may what follows an empty first value
    ∷ row (write six (65 ∷ 10 ∷ []) (0 ∷ 0 ∷ 1 ∷ 1 ∷ 1 ∷ 1 ∷ []) []) 14 (13 ∷ [])
    ∷ row (write six (10 ∷ []) (0 ∷ 0 ∷ 0 ∷ 2 ∷ 0 ∷ 1 ∷ []) []) 14 (12 ∷ [])
    -- request 2026-10: "Input beginning `UNB+UNOA:4` .. has `*`", and so does its normal form; it is another than that of version 1
    ∷ row (judge (with4 bgm unt)) 0 (five ":+.?*'" 93)
    ∷ row (compare x (with4 bgm unt)) 0 (0 ∷ [])
    -- under another mark it is another interchange, as in the older versions
    ∷ row (compare (with4 bgm unt) (text "UNA:+.?*'" ++ with4 bgm unt)) 0 (1 ∷ [])
    ∷ row (compare (with4 bgm unt) (text "UNA:+,?*'" ++ with4 bgm unt)) 0 (0 ∷ [])
    -- these ten bytes, and no fewer: `?*` is then no fault 4
    ∷ row (judge (text "UNB+UNOA:41+?*'")) 7 (0 ∷ [])
    ∷ row (judge (with "BGM+220+A?*B'" unt unz)) 4 (63 ∷ [])
    -- "an element may be several repeats of components"
    ∷ row (judge (with4 "BGM+220*221:A*B'" unt)) 0 (five ":+.?*'" 96)
    -- "Trimming takes empty components at the end of every repeat, down to one, then empty repeats at an element's end, down to one, then
    -- elements as before."
    ∷ row (judge (with4 "BGM+220**221:**'" unt)) 0 (five ":+.?*'" 93)
    ∷ row (compare (with4 "BGM+220**221:**'" unt) (with4 "BGM+220:**221'" unt)) 0 (1 ∷ [])
    ∷ row (compare (with4 "BGM+220**221'" unt) (with4 "BGM+220*221'" unt)) 0 (0 ∷ [])
    ∷ row (judge (with4 "BGM+*:*+'" unt)) 0 (five ":+.?*'" 84)
    -- a space as the fifth byte means "none": `*` is plain in the input, and released in the normal form
    ∷ row (judge (text "UNA:+.? '" ++ with4 "BGM+220+A*B'" unt)) 0 (five ":+.? '" 93)
    ∷ row (compare (with4 "BGM+220+A?*B'" unt) (text "UNA:+.? '" ++ with4 "BGM+220+A*B'" unt)) 0 (1 ∷ [])
    -- another repetition separator
    ∷ row (compare (with4 "BGM+220*A?*B'" unt) (text "UNA:+.?!'" ++ with4 "BGM+220!A*B'" unt)) 0 (1 ∷ [])
    -- input that begins `UNB` and byte 29 has none
    ∷ row (compare (with4 "BGM+220+A?*B'" unt) (controlled "4" "A*B")) 0 (1 ∷ [])
    -- 2: "under the same rules as the other separators"
    ∷ row (judge (text "UNA:+.?A'" ++ with4 bgm unt)) 2 (0 ∷ [])
    ∷ row (judge (text "UNA:+.??'" ++ with4 bgm unt)) 2 (0 ∷ [])
    ∷ row (judge (text "UNA:+.?.'" ++ with4 bgm unt)) 2 (0 ∷ [])
    -- 6: "also when a repetition separator follows within a tag element"
    ∷ row (judge (with4 "BGM*+1'" unt)) 6 (54 ∷ [])
    ∷ row (judge (with4 "BGM:1*2+1'" unt)) 6 (54 ∷ [])
    -- 7: "also when UNB's first element has more", trimmed, "or the fifth byte isn't a space and the version isn't 4"
    ∷ row (judge (headed "UNB+UNOA:4*X+AA+BB+260105:0930+R1'" unh)) 7 (0 ∷ [])
    ∷ row (judge (headed "UNB+UNOA:4*+AA+BB+260105:0930+R1'" unh)) 0 (five ":+.?*'" 93)
    ∷ row (judge (text "UNA:+.?*'" ++ x)) 7 (9 ∷ [])
    ∷ row (judge (text "UNA:+.?*'UNB+UNOA:1+?*'")) 7 (9 ∷ [])
    -- 9 and 10: UNS's first element and control elements "have one repeat", as they stand in the trimmed contents
    ∷ row (judge (with4 "UNS+D*S'" unt)) 9 (54 ∷ [])
    ∷ row (judge (with4 "UNS+D*'" unt)) 0 (five ":+.?*'" 86)
    ∷ row (judge (with4 bgm "UNT+3*3+1'")) 10 (67 ∷ [])
    ∷ row (judge (with4 bgm "UNT+3*+1'")) 0 (five ":+.?*'" 93)
    -- "locate a repeat number"
    ∷ row (locate (with4 "BGM+220*221:A'" unt) 2 1 1 1) 0 (66 ∷ 1 ∷ [])
    ∷ row (locate (with4 "BGM+220*221:A'" unt) 2 1 0 1) 0 []
    ∷ row (locate (with4 "BGM+220*221:A'" unt) 2 1 2 0) 0 []
    -- "value lists gain kind 3 (a next repeat's first value)"
    ∷ row (write (text ":+.?*'") (text "AB") (0 ∷ 0 ∷ 1 ∷ 3 ∷ 1 ∷ 1 ∷ []) []) 14 (13 ∷ [])
    ∷ row (write (text ":+.?*'") (text "AB") (0 ∷ 0 ∷ 1 ∷ 3 ∷ 1 ∷ 0 ∷ []) []) 14 (11 ∷ [])
    ∷ row (write (text ":+.?*'") (text "AB") (3 ∷ 0 ∷ 1 ∷ []) []) 15 (0 ∷ [])
    -- 16: "also at a kind 3 record where the writer's fifth byte is a space", also where trimming would drop it
    ∷ row (write six (text "AB") (0 ∷ 0 ∷ 1 ∷ 3 ∷ 1 ∷ 1 ∷ []) []) 16 (1 ∷ [])
    ∷ row (write six (text "AB") (0 ∷ 0 ∷ 1 ∷ 3 ∷ 1 ∷ 0 ∷ []) []) 16 (1 ∷ [])
    ∷ row (write (text ":+. *'") (text "A*") (0 ∷ 0 ∷ 2 ∷ []) []) 16 (0 ∷ [])
    ∷ row (write (text ":+.  '") (text "A*") (0 ∷ 0 ∷ 2 ∷ []) []) 14 (12 ∷ [])
    ∷ []

unfoldable pub right : Row → Bool
right r = says r.answer 0 r.number r.values
