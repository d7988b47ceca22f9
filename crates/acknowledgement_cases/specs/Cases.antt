-- Received interchanges and lent lists written out, with the text of the acknowledgement or the refusal. Assumes nothing.
use Rattle.std.specs.Prelude.{ℕ, Bool, ◌&&◌, List, [], ◌∷◌, ◌++◌, length, take, drop, replicate}
use Prim.Native.String.{String}
use Rattle.lists.specs.Lists.{text, same}
use Rattle.operations.specs.ValueList.{Item, list_bytes, list_table}
use Rattle.starred_cases.specs.Cases.{unb, unh, bgm, unt, unz, with, x, respelled, says}
use Rattle.acknowledgements.specs.Lent.{Lent, lent_by}
use Rattle.acknowledgements.specs.Acknowledgement.{acknowledge, acknowledge_output}

-- ---- what is lent

abbrev item : ℕ → String → Item
item kind value = record { kind = kind; value = text value }

abbrev lent : List Item → List Item → List Item → Lent
lent date reference message =
    lent_by (list_bytes date) (list_table date) (list_bytes reference) (list_table reference) (list_bytes message) (list_table message)

-- a date and a time, a control reference, an identification of CONTRL
abbrev dated : List Item
dated = item 0 "260106" ∷ item 2 "0800" ∷ []

abbrev referenced : List Item
referenced = item 0 "A1" ∷ []

abbrev identified : List Item
identified = item 0 "CONTRL" ∷ item 2 "2" ∷ item 2 "2" ∷ item 2 "UN" ∷ []

abbrev usual : Lent
usual = lent dated referenced identified

-- the usual ones with these bytes and this table for date and time
abbrev dated_by : String → List ℕ → Lent
dated_by bytes table = lent_by (text bytes) table (list_bytes referenced) (list_table referenced) (list_bytes identified) (list_table identified)

-- ---- what is received

-- X with another UNB
abbrev headed : String → List ℕ
headed first = text first ++ text unh ++ text bgm ++ text unt ++ text unz

-- X with its message in a group
abbrev grouped : List ℕ
grouped = text unb ++ text "UNG+ORDERS+AA+BB+260105:0930+G1'" ++ text unh ++ text bgm ++ text unt ++ text "UNE+1+G1'" ++ text unz

-- an interchange under the bytes 28, 29 and 31
abbrev control : List ℕ
control =
    text "UNB" ++ 29 ∷ text "UNOA" ++ 31 ∷ text "1" ++ 29 ∷ text "A+" ++ 29 ∷ text "B" ++ 29 ∷ text "1" ++ 29 ∷ text "R" ++ 28
    ∷ text "UNH" ++ 29 ∷ text "1" ++ 29 ∷ text "M" ++ 28 ∷ text "UNT" ++ 29 ∷ text "2" ++ 29 ∷ text "1" ++ 28
    ∷ text "UNZ" ++ 29 ∷ text "1" ++ 29 ∷ text "R" ++ 28 ∷ []

-- ---- rows

pub data Expected : Type 0 where
  writes : List ℕ → Expected
  refuses : (number place : ℕ) → Expected

pub record Row : Type 0 where
  pub received : List ℕ
  pub lists : Lent
  -- the number of bytes of the output
  pub room : ℕ
  pub expected : Expected

abbrev row : List ℕ → Lent → ℕ → Expected → Row
row received lists room expected = record { received = received; lists = lists; room = room; expected = expected }

-- the acknowledgement of X with an action code
abbrev answered : String → List ℕ
answered code =
    text "UNA:+.? 'UNB+UNOA:1+BB+AA+260106:0800+A1'UNH+1+CONTRL:2:2:UN'UCI+R1+AA+BB+" ++ text code ++ text "'UNT+3+1'UNZ+1+A1'"

-- the same with another text for its UNB, and for what UCI carries
abbrev answer : String → String → String → List ℕ
answer advice first carried =
    text advice ++ text "UNB+" ++ text first ++ text "+260106:0800+A1'UNH+1+CONTRL:2:2:UN'UCI+" ++ text carried ++ text "'UNT+3+1'UNZ+1+A1'"

unfoldable pub rows : List Row
rows =
    -- X is accepted; then 10, 11 and 12
    row x usual 93 (writes (answered "7"))
    ∷ row x usual 120 (writes (answered "7"))
    ∷ row (with bgm "UNT+3+'" unz) usual 93 (writes (answered "4"))
    ∷ row (with bgm "UNT+3+2'" unz) usual 93 (writes (answered "4"))
    ∷ row (with bgm "UNT+4+1'" unz) usual 93 (writes (answered "4"))
    -- any other refusal
    ∷ row (text "UNA:+.?A'" ++ x) usual 120 (refuses 23 0)
    ∷ row [] usual 120 (refuses 23 0)
    ∷ row (with "BGM+220+A?B'" unt unz) usual 120 (refuses 23 0)
    ∷ row (take 83 x) usual 120 (refuses 23 0)
    ∷ row (with "bgm'" unt unz) usual 120 (refuses 23 0)
    ∷ row (headed "UNB+UNOC:1+AA+BB+260105:0930+R1'") usual 120 (refuses 23 0)
    ∷ row (with "BGM+220+A?+b'" unt unz) usual 120 (refuses 23 0)
    ∷ row (with bgm unt "") usual 120 (refuses 23 0)
    ∷ row (x ++ replicate 31917 10) usual 120 (refuses 23 0)
    -- a reference in UNB that is not as document 01 asks: absent, empty, two components, two repeats, 15 bytes
    ∷ row (headed "UNB+UNOA:1+AA+BB+260105:0930'") usual 120 (refuses 23 0)
    ∷ row (headed "UNB+UNOA:1+AA+BB+260105:0930++X'") usual 120 (refuses 23 0)
    ∷ row (headed "UNB+UNOA:1+AA+BB+260105:0930+R1:2'") usual 120 (refuses 23 0)
    ∷ row (headed "UNB+UNOA:4+AA+BB+260105:0930+R1*R2'") usual 120 (refuses 23 0)
    ∷ row (headed "UNB+UNOA:1+AA+BB+260105:0930+123456789012345'") usual 120 (refuses 23 0)
    -- one empty value for a sender, also where 12 refuses, or for a recipient; what is not one empty value is copied whole, and trimmed
    ∷ row (headed "UNB+UNOA:1++BB+260105:0930+R1'") usual 120 (refuses 23 0)
    ∷ row (text "UNB+UNOA:1++BB+260105:0930+R1'" ++ text unh ++ text bgm ++ text "UNT+4+1'" ++ text unz) usual 120 (refuses 23 0)
    ∷ row (headed "UNB+UNOA:1+AA+::+260105:0930+R1'") usual 120 (refuses 23 0)
    ∷ row (headed "UNB+UNOA:1+:A?+:+BB::C:+260105:0930+R1'") usual 120
    (writes (answer "UNA:+.? '" "UNOA:1+BB::C+:A?+" "R1+:A?++BB::C+7"))
    -- nothing is asked of the received date, and nothing taken over of what follows the reference (D1114); groups are no matter
    ∷ row (headed "UNB+UNOA:1+AA+BB++R1'") usual 93 (writes (answered "7"))
    ∷ row (headed "UNB+UNOA:1+AA+BB+260105:0930+R1+P+ORDERS++1+A+1'") usual 93 (writes (answered "7"))
    ∷ row grouped usual 93 (writes (answered "7"))
    -- a third component of UNB's element 1 is not taken over
    ∷ row (headed "UNB+UNOA:2:X+AA+BB+260105:0930+R1'") usual 120 (writes (answer "UNA:+.? '" "UNOA:2+BB+AA" "R1+AA+BB+7"))
    -- other service characters, of which the mark is kept
    ∷ row (respelled "UNA;*,! ~") usual 120 (writes (answer "UNA:+,? '" "UNOA:1+BB+AA" "R1+AA+BB+7"))
    ∷ row control usual 120 (writes (answer "UNA:+.? '" "UNOA:1+B+A?+" "R+A?++B+7"))
    ∷ row (text "UNA:+,?*'" ++ headed "UNB+UNOA:4+AA+BB+260105:0930+R1'") usual 120 (writes (answer "UNA:+,?*'" "UNOA:4+BB+AA" "R1+AA+BB+7"))
    -- version 4: repeats in the sender; `*` in the fifth place, also where the received one has none
    ∷ row (headed "UNB+UNOB:4+AA*C::D:**+BB+260105:0930+R1'") usual 120
    (writes (answer "UNA:+.?*'" "UNOB:4+BB+AA*C::D" "R1+AA*C::D+BB+7"))
    ∷ row (text "UNA:+.? '" ++ headed "UNB+UNOA:4+A*A+BB+260105:0930+R1'") usual 120
    (writes (answer "UNA:+.?*'" "UNOA:4+BB+A?*A" "R1+A?*A+BB+7"))
    -- a lent list that is empty, has kind 0 or 1 after its first record, begins with another kind than 0 or with a break, has a kind above 3
    ∷ row x (lent [] referenced identified) 120 (refuses 15 0)
    ∷ row x (lent dated [] identified) 120 (refuses 15 0)
    ∷ row x (lent dated referenced []) 120 (refuses 15 0)
    ∷ row x (lent (item 0 "260106" ∷ item 0 "0800" ∷ []) referenced identified) 120 (refuses 15 0)
    ∷ row x (lent dated (item 0 "A" ∷ item 1 "1" ∷ []) identified) 120 (refuses 15 0)
    ∷ row x (lent dated referenced (item 1 "CONTRL" ∷ [])) 120 (refuses 15 0)
    ∷ row x (lent (record { kind = 0; value = 10 ∷ [] } ∷ []) referenced identified) 120 (refuses 15 0)
    ∷ row x (lent dated referenced (item 0 "CONTRL" ∷ item 4 "2" ∷ [])) 120 (refuses 15 0)
    ∷ row x (lent (item 0 "260106" ∷ item 2 "0800" ∷ item 1 "X" ∷ []) referenced identified) 120 (refuses 15 0)
    ∷ row x (lent (item 0 "260106" ∷ item 2 "0800" ∷ item 0 "X" ∷ []) referenced identified) 120 (refuses 15 0)
    -- one with a value that runs out of its bytes, or with a number too many; values in any order are lent as well
    ∷ row x (dated_by "260106" (0 ∷ 0 ∷ 7 ∷ [])) 120 (refuses 15 0)
    ∷ row x (dated_by "260106" (0 ∷ 0 ∷ 6 ∷ 2 ∷ [])) 120 (refuses 15 0)
    ∷ row x (dated_by "0800260106" (0 ∷ 4 ∷ 6 ∷ 2 ∷ 0 ∷ 4 ∷ [])) 93 (writes (answered "7"))
    -- 23 comes before 15
    ∷ row [] (lent [] [] []) 120 (refuses 23 0)
    -- a repeat where the version has none: the record's number in the list put together
    ∷ row x (lent (item 0 "260106" ∷ item 3 "0800" ∷ []) referenced identified) 120 (refuses 16 6)
    ∷ row (headed "UNB+UNOA:1+AA:1:+BB::2+260105:0930+R1'") (lent dated referenced (item 0 "C" ∷ item 2 "" ∷ item 3 "" ∷ [])) 120 (refuses 16 15)
    ∷ row (headed "UNB+UNOA:4+AA+BB+260105:0930+R1'") (lent dated referenced (item 0 "C" ∷ item 3 "D" ∷ [])) 120
    (writes (text "UNA:+.?*'UNB+UNOA:4+BB+AA+260106:0800+A1'UNH+1+C*D'UCI+R1+AA+BB+7'UNT+3+1'UNZ+1+A1'"))
    -- lent elements are trimmed as they are written
    ∷ row x (lent (item 0 "" ∷ item 2 "" ∷ []) referenced (item 0 "C" ∷ item 2 "" ∷ [])) 120
    (writes (text "UNA:+.? 'UNB+UNOA:1+BB+AA++A1'UNH+1+C'UCI+R1+AA+BB+7'UNT+3+1'UNZ+1+A1'"))
    -- the writer's: a short output; a byte outside the level; a new reference that is none
    ∷ row x usual 92 (refuses 14 93)
    ∷ row x usual 0 (refuses 14 93)
    ∷ row x (lent (item 0 "a" ∷ []) referenced identified) 120 (refuses 8 26)
    ∷ row x (lent dated (item 0 "123456789012345" ∷ []) identified) 130 (refuses 10 9)
    ∷ row x (lent dated (item 0 "" ∷ []) identified) 120 (refuses 10 9)
    ∷ []

-- the bytes that are there before: none of them is zero
unfoldable pub lent_output : Row → List ℕ
lent_output r = replicate r.room 7

unfoldable pub meets : Row → Expected → Bool
meets r (writes bytes) =
    says (acknowledge r.received r.lists (lent_output r)) 0 0 (length bytes ∷ [])
    && same (acknowledge_output r.received r.lists (lent_output r)) (bytes ++ drop (length bytes) (lent_output r))
meets r (refuses number place) =
    says (acknowledge r.received r.lists (lent_output r)) 0 number (place ∷ [])
    && same (acknowledge_output r.received r.lists (lent_output r)) (replicate r.room 0)

unfoldable pub right : Row → Bool
right r = meets r r.expected
