-- Interchanges and texts in columns written out, with what export and import give. In the lines a blank stands for a tab. Assumes nothing.
use Rattle.std.specs.Prelude.{ℕ, ◌-◌, Bool, ◌&&◌, List, [], ◌∷◌, ◌++◌, map, length, take, drop, replicate, eqb, if◌then◌else◌}
use Prim.Native.String.{String}
use Rattle.lists.specs.Lists.{text, same, gather}
use Rattle.starred_cases.specs.Cases.{unh, bgm, unt, unz, with, x, respelled, says}
use Rattle.columns.specs.Lines.{in_decimal}
use Rattle.columns.specs.Operations.{exports, export_buffer, imports, import_output}

-- ---- texts

abbrev tabbed : String → List ℕ
tabbed line = map (λ b. if eqb b 32 then 9 else b) (text line)

abbrev lined : String → List ℕ
lined line = tabbed line ++ 10 ∷ []

-- the lines after the heading
abbrev columned : List String → List ℕ
columned lines = lined "segment element repeat component value" ++ gather lined lines

-- X's UNB after its tag, and its other segments
abbrev after_tag : List String
after_tag =
    "0 1 0 0 UNOA" ∷ "0 1 0 1 1" ∷ "0 2 0 0 AA" ∷ "0 3 0 0 BB" ∷ "0 4 0 0 260105" ∷ "0 4 0 1 0930" ∷ "0 5 0 0 R1" ∷ []

abbrev other_segments : List String
other_segments =
    "1 0 0 0 UNH" ∷ "1 1 0 0 1" ∷ "1 2 0 0 ORDERS" ∷ "1 2 0 1 1" ∷ "1 2 0 2 901" ∷ "1 2 0 3 UN"
    ∷ "2 0 0 0 BGM" ∷ "2 1 0 0 220" ∷ "2 2 0 0 A+B"
    ∷ "3 0 0 0 UNT" ∷ "3 1 0 0 3" ∷ "3 2 0 0 1"
    ∷ "4 0 0 0 UNZ" ∷ "4 1 0 0 1" ∷ "4 2 0 0 R1" ∷ []

-- X in columns; with another line for its first; and with lines behind UNB's
abbrev led : String → List ℕ
led first = columned (first ∷ after_tag ++ other_segments)

abbrev x_columns : List ℕ
x_columns = led "0 0 0 0 UNB"

abbrev longer : List String → List ℕ
longer more = columned ("0 0 0 0 UNB" ∷ after_tag ++ more ++ other_segments)

-- an interchange of version 4 with repeats, and its lines
abbrev repeated : List ℕ
repeated = text "UNB+UNOA:4+A**C::D:*+B+1+R'UNH+1+M'UNT+2+1'UNZ+1+R'"

abbrev repeated_columns : List ℕ
repeated_columns =
    columned ("0 0 0 0 UNB" ∷ "0 1 0 0 UNOA" ∷ "0 1 0 1 4" ∷ "0 2 0 0 A" ∷ "0 2 1 0 " ∷ "0 2 2 0 C" ∷ "0 2 2 1 " ∷ "0 2 2 2 D" ∷ "0 3 0 0 B"
    ∷ "0 4 0 0 1" ∷ "0 5 0 0 R" ∷ "1 0 0 0 UNH" ∷ "1 1 0 0 1" ∷ "1 2 0 0 M" ∷ "2 0 0 0 UNT" ∷ "2 1 0 0 2" ∷ "2 2 0 0 1"
    ∷ "3 0 0 0 UNZ" ∷ "3 1 0 0 1" ∷ "3 2 0 0 R" ∷ [])

-- an interchange of version 4 in whose lines each number goes above 9, and its lines
abbrev wide : List ℕ
wide =
    text "UNB+UNOA:4+A*A*A*A*A*A*A*A*A*A*A:A:A:A:A:A:A:A:A:A:A+B+1+R++++++A'UNH+1+M'"
    ++ text "AAA'AAA'AAA'AAA'AAA'AAA'AAA'AAA'UNT+10+1'UNZ+1+R'"

abbrev wide_columns : List ℕ
wide_columns =
    columned ("0 0 0 0 UNB" ∷ "0 1 0 0 UNOA" ∷ "0 1 0 1 4"
    ∷ "0 2 0 0 A" ∷ "0 2 1 0 A" ∷ "0 2 2 0 A" ∷ "0 2 3 0 A" ∷ "0 2 4 0 A" ∷ "0 2 5 0 A" ∷ "0 2 6 0 A" ∷ "0 2 7 0 A" ∷ "0 2 8 0 A" ∷ "0 2 9 0 A"
    ∷ "0 2 10 0 A" ∷ "0 2 10 1 A" ∷ "0 2 10 2 A" ∷ "0 2 10 3 A" ∷ "0 2 10 4 A" ∷ "0 2 10 5 A" ∷ "0 2 10 6 A" ∷ "0 2 10 7 A" ∷ "0 2 10 8 A"
    ∷ "0 2 10 9 A" ∷ "0 2 10 10 A"
    ∷ "0 3 0 0 B" ∷ "0 4 0 0 1" ∷ "0 5 0 0 R" ∷ "0 6 0 0 " ∷ "0 7 0 0 " ∷ "0 8 0 0 " ∷ "0 9 0 0 " ∷ "0 10 0 0 " ∷ "0 11 0 0 A"
    ∷ "1 0 0 0 UNH" ∷ "1 1 0 0 1" ∷ "1 2 0 0 M"
    ∷ "2 0 0 0 AAA" ∷ "3 0 0 0 AAA" ∷ "4 0 0 0 AAA" ∷ "5 0 0 0 AAA" ∷ "6 0 0 0 AAA" ∷ "7 0 0 0 AAA" ∷ "8 0 0 0 AAA" ∷ "9 0 0 0 AAA"
    ∷ "10 0 0 0 UNT" ∷ "10 1 0 0 10" ∷ "10 2 0 0 1" ∷ "11 0 0 0 UNZ" ∷ "11 1 0 0 1" ∷ "11 2 0 0 R" ∷ [])

-- X in columns with a value of one byte behind UNB's
abbrev with_byte : ℕ → List ℕ
with_byte b = columned ("0 0 0 0 UNB" ∷ after_tag) ++ tabbed "0 6 0 0 " ++ b ∷ 10 ∷ gather lined other_segments

-- ---- rows

pub data Expected : Type 0 where
  gives : List ℕ → Expected
  refuses : (number place : ℕ) → Expected

-- an interchange, the number of bytes of the buffer, and what export gives
pub record ExportRow : Type 0 where
  pub input : List ℕ
  pub room : ℕ
  pub expected : Expected

-- six service bytes, a text, the number of bytes of the output, and what import gives
pub record ImportRow : Type 0 where
  pub service : String
  pub columns : List ℕ
  pub room : ℕ
  pub expected : Expected

abbrev out : List ℕ → ℕ → Expected → ExportRow
out input room expected = record { input = input; room = room; expected = expected }

abbrev back : String → List ℕ → ℕ → Expected → ImportRow
back service columns room expected = record { service = service; columns = columns; room = room; expected = expected }

-- a text that is no export's, whatever the service bytes
abbrev no_export : List ℕ → ImportRow
no_export columns = back ":+.? '" columns 120 (refuses 24 0)

unfoldable pub export_rows : List ExportRow
export_rows =
    -- X, in a buffer that just holds it and in a longer one
    out x (length x_columns) (gives x_columns)
    ∷ out x 500 (gives x_columns)
    -- other service characters and an untrimmed spelling have the same lines
    ∷ out (respelled "UNA;*,! ~") 500 (gives x_columns)
    ∷ out (with "BGM+220+A?+B+::+'" unt unz) 500 (gives x_columns)
    -- version 4
    ∷ out repeated 500 (gives repeated_columns)
    ∷ out wide 600 (gives wide_columns)
    -- Judge's refusals, also where the buffer is short; then 14
    ∷ out (with bgm "UNT+4+1'" unz) 500 (refuses 12 67)
    ∷ out (take 83 x) 0 (refuses 5 83)
    ∷ out [] 500 (refuses 3 0)
    ∷ out (x ++ replicate 31917 10) 500 (refuses 1 0)
    ∷ out x (length x_columns - 1) (refuses 14 (length x_columns))
    ∷ out x 0 (refuses 14 (length x_columns))
    ∷ []

unfoldable pub import_rows : List ImportRow
import_rows =
    -- X, under its own service characters and under others
    back ":+.? '" x_columns 93 (gives (text "UNA:+.? '" ++ x))
    ∷ back ";*.! ~" x_columns 120 (gives (respelled "UNA;*.! ~"))
    -- version 4; a repetition separator is needed
    ∷ back ":+.?*'" repeated_columns 120 (gives (text "UNA:+.?*'UNB+UNOA:4+A**C::D+B+1+R'UNH+1+M'UNT+2+1'UNZ+1+R'"))
    ∷ back ":+.? '" repeated_columns 120 (refuses 16 4)
    -- numbers above 9
    ∷ back ":+.?*'" wide_columns 140 (gives (text "UNA:+.?*'" ++ wide))
    -- a spreadsheet's damage: carriage returns at all lines, or at the last one; quotes around all columns, or around the numbers
    ∷ no_export (gather (λ b. if eqb b 10 then 13 ∷ 10 ∷ [] else b ∷ []) x_columns)
    ∷ no_export (take (length x_columns - 1) x_columns ++ 13 ∷ 10 ∷ [])
    ∷ no_export (led "\"0\" \"0\" \"0\" \"0\" \"UNB\"")
    ∷ no_export (led "\"0\" 0 0 0 UNB")
    -- quotes around a value are of the value: the body does not begin with UNB
    ∷ back ":+.? '" (led "0 0 0 0 \"UNB\"") 120 (refuses 3 9)
    -- leading zeros, signs, blanks, nothing for a number
    ∷ no_export (led "00 0 0 0 UNB")
    ∷ no_export (led "0 0 0 00 UNB")
    ∷ no_export (led "+0 0 0 0 UNB")
    ∷ no_export (led "0 -0 0 0 UNB")
    ∷ no_export (led "0 0  0 UNB")
    ∷ no_export (led " 0 0 0 UNB")
    ∷ no_export (led "0 0 0.0 0 UNB")
    -- a number that is skipped: a segment, an element, a repeat, a component; one that stands twice; lines out of order
    ∷ no_export (led "1 0 0 0 UNB")
    ∷ no_export (led "0 1 0 0 UNB")
    ∷ no_export (longer ("0 7 0 0 A" ∷ []))
    ∷ no_export (longer ("0 5 2 0 A" ∷ []))
    ∷ no_export (longer ("0 5 0 2 A" ∷ []))
    ∷ no_export (longer ("0 5 0 0 R1" ∷ []))
    ∷ no_export (longer ("2 0 0 0 A" ∷ []))
    ∷ no_export (longer ("0 7 0 0 A" ∷ "0 6 0 0 A" ∷ []))
    -- an empty end: of a repeat, an element, a segment
    ∷ no_export (longer ("0 5 0 1 " ∷ []))
    ∷ no_export (longer ("0 5 1 0 " ∷ []))
    ∷ no_export (longer ("0 6 0 0 " ∷ []))
    ∷ no_export (longer ("0 6 0 0 A" ∷ "0 6 0 1 " ∷ "0 7 0 0 A" ∷ []))
    -- an empty value that something follows is no empty end, and is taken
    ∷ back ":+.? '" (longer ("0 6 0 0 " ∷ "0 6 0 1 A" ∷ "0 7 0 0 " ∷ "0 8 0 0 A" ∷ [])) 120
    (gives (text "UNA:+.? 'UNB+UNOA:1+AA+BB+260105:0930+R1+:A++A'" ++ text unh ++ text bgm ++ text unt ++ text unz))
    -- blank lines, at the end and between; no last line feed; a column too many or too few
    ∷ no_export (x_columns ++ 10 ∷ [])
    ∷ no_export (longer ("" ∷ []))
    ∷ no_export (take (length x_columns - 1) x_columns)
    ∷ no_export (led "0 0 0 0 UNB ")
    ∷ no_export (led "0 0 0 UNB")
    -- a carriage return in a value
    ∷ no_export (columned [] ++ tabbed "0 0 0 0 UNB" ++ 13 ∷ text "A" ++ 10 ∷ [])
    -- another heading, no heading, a byte order mark, nothing at all
    ∷ no_export (lined "Segment element repeat component value" ++ gather lined ("0 0 0 0 UNB" ∷ after_tag ++ other_segments))
    ∷ no_export (gather lined ("0 0 0 0 UNB" ∷ after_tag ++ other_segments))
    ∷ no_export (239 ∷ 187 ∷ 191 ∷ x_columns)
    ∷ no_export []
    -- the heading alone is the text of the empty list; without its line feed it is no list's text
    ∷ back ":+.? '" (columned []) 9 (refuses 3 9)
    ∷ back ":+.? '" (columned []) 8 (refuses 14 9)
    ∷ back ":+.? " (columned []) 9 (refuses 2 0)
    ∷ no_export (tabbed "segment element repeat component value")
    -- 24 is told by the text alone; then the writer's: 2, 16, 14, and 3 to 13 as Judge answers for the text
    ∷ back "" (x_columns ++ 10 ∷ []) 0 (refuses 24 0)
    ∷ back ":+.?A'" x_columns 120 (refuses 2 0)
    ∷ back ":+.  '" x_columns 120 (refuses 16 16)
    ∷ back ";*.! ~" x_columns 91 (refuses 14 92)
    ∷ back ":+.? '" (led "0 0 0 0 ") 120 (refuses 3 9)
    ∷ back ":+.? '" (longer ("0 6 0 0 a" ∷ [])) 120 (refuses 8 41)
    -- any other byte than a tab, a carriage return or a line feed is for the writer to judge
    ∷ back ":+.? '" (with_byte 0) 120 (refuses 8 41)
    ∷ back ":+.? '" (with_byte 11) 120 (refuses 8 41)
    ∷ back ":+.? '" (with_byte 28) 120 (refuses 8 41)
    ∷ back ":+.? '" (with_byte 127) 120 (refuses 8 41)
    ∷ back ":+.? '" (with_byte 200) 120 (refuses 8 41)
    ∷ back ":+.?*'" x_columns 120 (refuses 7 9)
    ∷ []

-- the bytes that are there before: none of them is zero
unfoldable pub lent : ℕ → List ℕ
lent room = replicate room 7

unfoldable pub export_meets : ExportRow → Expected → Bool
export_meets r (gives bytes) =
    says (exports (lent r.room) r.input) 0 0 (length bytes ∷ [])
    && same (export_buffer (lent r.room) r.input) (bytes ++ drop (length bytes) (lent r.room))
export_meets r (refuses number place) =
    says (exports (lent r.room) r.input) 0 number (place ∷ [])
    && same (export_buffer (lent r.room) r.input) (lent r.room)

unfoldable pub import_meets : ImportRow → Expected → Bool
import_meets r (gives bytes) =
    says (imports (text r.service) r.columns (lent r.room)) 0 0 (length bytes ∷ [])
    && same (import_output (text r.service) r.columns (lent r.room)) (bytes ++ drop (length bytes) (lent r.room))
import_meets r (refuses number place) =
    says (imports (text r.service) r.columns (lent r.room)) 0 number (place ∷ [])
    && same (import_output (text r.service) r.columns (lent r.room)) (replicate r.room 0)

unfoldable pub export_right : ExportRow → Bool
export_right r = export_meets r r.expected

unfoldable pub import_right : ImportRow → Bool
import_right r = import_meets r r.expected

-- ---- numbers

pub record NumberRow : Type 0 where
  pub number : ℕ
  pub digits : String

abbrev numbered : ℕ → String → NumberRow
numbered number digits = record { number = number; digits = digits }

unfoldable pub number_rows : List NumberRow
number_rows =
    numbered 0 "0" ∷ numbered 1 "1" ∷ numbered 9 "9" ∷ numbered 10 "10" ∷ numbered 42 "42" ∷ numbered 100 "100" ∷ numbered 1009 "1009"
    ∷ numbered 31999 "31999" ∷ numbered 65536 "65536" ∷ numbered 99999 "99999" ∷ numbered 100000 "100000" ∷ []

unfoldable pub number_right : NumberRow → Bool
number_right r = same (in_decimal r.number) (text r.digits)
