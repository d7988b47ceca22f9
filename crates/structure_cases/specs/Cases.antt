-- Request 2026-08 on tables and bodies that are written out: which entry is at fault, where the walk stops, and what the second Judge
-- answers. Assumes nothing.
use Rattle.std.specs.Prelude.{ℕ, zero, suc, ◌+◌, ◌*◌, ◌/◌, ◌%◌, Bool, true, false, not, ◌&&◌, List, [], ◌∷◌, ◌++◌, map, length, take, replicate, eqb, if◌then◌else◌}
use Prim.Native.String.{String}
use Rattle.std.proofs.Math.Option.{Option, none, some}
use Rattle.lists.specs.Lists.{text, cut, maybe}
use Rattle.refusals.specs.declared.Fault.TheVariants.{UnsoundTable}
use Rattle.refusals.specs.Refusals.{met, lowest}
use Rattle.message_tables.specs.Soundness.{table_faults, is_sound}
use Rattle.message_tables.specs.Structure.{structure_of}
use Rattle.message_structures.specs.Walking.{unmatched}
use Rattle.message_structures.specs.Judging.{judge_by_table}
use Rattle.starred_cases.specs.Cases.{bgm, unt, unz, with, x, says}

-- ---- entries

-- a number in two bytes, the greater first
abbrev two : ℕ → List ℕ
two n = n / 256 ∷ n % 256 ∷ []

abbrev row : (tag status : String) (repeats under : ℕ) → List ℕ
row tag status repeats under = text tag ++ text status ++ two repeats ++ two under

abbrev segment : (tag status : String) (repeats : ℕ) → List ℕ
segment tag status repeats = row tag status repeats 0

abbrev group : (status : String) (repeats under : ℕ) → List ℕ
group status repeats under = 0 ∷ 0 ∷ 0 ∷ (text status ++ two repeats ++ two under)

-- so many times the same bytes
unfoldable pub copies : ℕ → List ℕ → List ℕ
copies zero bytes = []
copies (suc n) bytes = bytes ++ copies n bytes

-- so many groups, each in the one before, with the triggers .., N02, N01, N00
unfoldable pub nested : ℕ → List ℕ
nested zero = []
nested (suc n) = group "C" 2 (2 * n + 1) ++ (text "N0" ++ (48 + n) ∷ text "M") ++ two 1 ++ two 0 ++ nested n

-- ---- tables, and the lowest entry at fault

pub record Table : Type 0 where
  pub fault : Option ℕ
  pub bytes : List ℕ

abbrev sound : List ℕ → Table
sound bytes = record { fault = none; bytes = bytes }

abbrev fault : ℕ → List ℕ → Table
fault n bytes = record { fault = some n; bytes = bytes }

unfoldable pub tables : List Table
tables =
    -- sound tables: none, one entry, a group, a group in a group, two groups side by side, one that ends with its holder
    sound ([])
    ∷ sound (segment "BGM" "M" 1)
    ∷ sound (segment "UNS" "C" 1 ++ segment "A1B" "C" 999)
    ∷ sound (group "C" 999 1 ++ segment "LIN" "M" 1)
    ∷ sound (
    segment "BGM" "M" 1 ++ group "C" 9 4 ++ segment "NAD" "M" 1 ++ group "M" 2 1 ++ segment "CTA" "M" 1 ++ segment "COM" "C" 3 ++ segment "UNS" "C" 1)
    ∷ sound (group "C" 1 2 ++ segment "AAA" "M" 1 ++ segment "BBB" "C" 2 ++ group "C" 1 1 ++ segment "CCC" "M" 1)
    ∷ sound (group "C" 1 3 ++ segment "AAA" "M" 1 ++ group "C" 1 1 ++ segment "BBB" "M" 1 ++ segment "CCC" "M" 1)
    -- the same tag twice is sound
    ∷ sound (segment "AAA" "C" 1 ++ segment "AAA" "M" 1)
    -- a tag that breaks the rule, or begins UN
    ∷ fault 0 (segment "bgm" "M" 1)
    ∷ fault 0 (segment "B M" "M" 1)
    ∷ fault 0 (segment "BG:" "M" 1)
    ∷ fault 1 (segment "BGM" "M" 1 ++ segment "UNH" "M" 1)
    ∷ fault 0 (segment "UNT" "M" 1)
    ∷ fault 0 (segment "UNX" "M" 1)
    ∷ fault 0 (segment "UN1" "M" 1)
    ∷ sound (segment "AUN" "M" 1)
    ∷ fault 0 ((0 ∷ 0 ∷ 65 ∷ 77 ∷ 0 ∷ 1 ∷ 0 ∷ 0 ∷ []))
    ∷ fault 0 ((65 ∷ 0 ∷ 0 ∷ 77 ∷ 0 ∷ 1 ∷ 0 ∷ 0 ∷ []))
    ∷ fault 0 ((0 ∷ 0 ∷ 0 ∷ 77 ∷ 0 ∷ 1 ∷ 0 ∷ 0 ∷ []))
    -- neither M nor C; too few or too many repeats; the bytes of a number in their order
    ∷ fault 0 (segment "BGM" "m" 1)
    ∷ fault 0 (segment "BGM" "X" 1)
    ∷ fault 0 (segment "BGM" "C" 0)
    ∷ fault 0 (segment "BGM" "C" 1000)
    ∷ fault 0 (segment "BGM" "C" 65535)
    ∷ sound (segment "BGM" "C" 256)
    -- a segment with entries under it; a group with none
    ∷ fault 0 (row "BGM" "M" 1 1 ++ segment "AAA" "M" 1)
    ∷ fault 0 (group "C" 1 0 ++ segment "AAA" "M" 1)
    -- a trigger that is a group, conditional, or repeated is at fault itself
    ∷ fault 1 (group "C" 1 3 ++ group "C" 1 1 ++ segment "AAA" "M" 1 ++ segment "BBB" "M" 1)
    ∷ fault 1 (group "C" 1 1 ++ segment "AAA" "C" 1)
    ∷ fault 1 (group "C" 1 1 ++ segment "AAA" "M" 2)
    ∷ fault 4 (segment "BGM" "M" 1 ++ group "C" 1 3 ++ segment "AAA" "M" 1 ++ group "C" 1 1 ++ segment "BBB" "C" 1)
    -- a group that ends behind the table, or behind the group that holds it; the outer one is not at fault
    ∷ fault 0 (group "C" 1 2 ++ segment "AAA" "M" 1)
    ∷ fault 0 (group "C" 1 1)
    ∷ fault 0 (group "C" 1 256 ++ segment "AAA" "M" 1)
    ∷ fault 2 (group "C" 1 3 ++ segment "AAA" "M" 1 ++ group "C" 1 2 ++ segment "BBB" "M" 1 ++ segment "CCC" "M" 1)
    ∷ fault 4 (
    group "C" 1 5 ++ segment "AAA" "M" 1 ++ group "C" 1 3 ++ segment "BBB" "M" 1 ++ group "C" 1 2 ++ segment "CCC" "M" 1 ++ segment "DDD" "M" 1)
    ∷ sound (group "C" 1 4 ++ segment "AAA" "M" 1 ++ group "C" 1 2 ++ segment "BBB" "M" 1 ++ segment "CCC" "M" 1 ++ segment "DDD" "M" 1)
    -- the lowest of several
    ∷ fault 1 (segment "BGM" "M" 1 ++ segment "bbb" "M" 1 ++ segment "BGM" "C" 0)
    ∷ fault 0 (group "C" 1 9 ++ segment "aaa" "M" 1)
    ∷ fault 2 (segment "BGM" "M" 1 ++ group "C" 1 1 ++ segment "aaa" "C" 2)
    -- eight deep, and nine
    ∷ sound (nested 8)
    ∷ fault 16 (nested 9)
    ∷ fault 17 (segment "BGM" "M" 1 ++ nested 9)
    ∷ sound (nested 8 ++ nested 8)
    -- a last entry that is not whole, alone, behind whole ones, behind one at fault, and where a group would reach it
    ∷ fault 0 ((66 ∷ []))
    ∷ fault 0 ((66 ∷ 71 ∷ 77 ∷ 77 ∷ 0 ∷ 1 ∷ 0 ∷ []))
    ∷ fault 1 (segment "BGM" "M" 1 ++ (0 ∷ []))
    ∷ fault 0 (segment "bgm" "M" 1 ++ (0 ∷ []))
    ∷ fault 0 (group "C" 1 1 ++ (65 ∷ 65 ∷ 65 ∷ 77 ∷ 0 ∷ 1 ∷ 0 ∷ []))
    -- 999 and 1,000 entries; 999 and a part; a fault before; a group that reaches beyond entry 999 and ends in the table, or behind it
    ∷ sound (copies 999 (segment "AAA" "C" 1))
    ∷ fault 999 (copies 1000 (segment "AAA" "C" 1))
    ∷ fault 999 (copies 999 (segment "AAA" "C" 1) ++ (0 ∷ []))
    ∷ fault 1 (segment "AAA" "M" 1 ++ segment "aaa" "M" 1 ++ copies 999 (segment "AAA" "C" 1))
    ∷ fault 999 (group "C" 1 999 ++ segment "AAA" "M" 1 ++ copies 998 (segment "BBB" "C" 1))
    ∷ fault 0 (group "C" 1 1000 ++ segment "AAA" "M" 1 ++ copies 998 (segment "BBB" "C" 1))
    ∷ []

unfoldable pub table_holds : Table → Bool
table_holds t =
    maybe
    (is_sound t.bytes)
    (λ n. maybe false (λ r. eqb r.place n) (lowest (met UnsoundTable (table_faults t.bytes))) && not (is_sound t.bytes))
    t.fault

-- ---- bodies, and how many segments stand before the one at which the walk stops

pub record Body : Type 0 where
  pub tags : String
  pub table : List ℕ
  pub stops : Option ℕ

abbrev matches : String → List ℕ → Body
matches tags table = record { tags = tags; table = table; stops = none }

abbrev stops : String → List ℕ → ℕ → Body
stops tags table n = record { tags = tags; table = table; stops = some n }

abbrev orders : List ℕ
orders =
    segment "BGM" "M" 1 ++ segment "DTM" "C" 2
    ++ group "C" 2 4 ++ segment "NAD" "M" 1 ++ segment "RFF" "C" 2 ++ group "C" 2 1 ++ segment "CTA" "M" 1
    ++ segment "UNS" "C" 1
    ++ group "M" 3 2 ++ segment "LIN" "M" 1 ++ segment "QTY" "M" 1
    ++ segment "MOA" "C" 1

abbrev inner : List ℕ
inner =
    group "C" 2 3 ++ segment "AAA" "M" 1 ++ segment "BBB" "C" 1 ++ segment "CCC" "M" 1

abbrev again : List ℕ
again =
    group "C" 1 2 ++ segment "AAA" "M" 1 ++ segment "BBB" "M" 1 ++ segment "AAA" "C" 1

abbrev pub twice : List ℕ
twice =
    segment "AAA" "C" 2 ++ segment "AAA" "M" 1

abbrev many : List ℕ
many =
    segment "AAA" "C" 999 ++ segment "BBB" "M" 1

abbrev deep : List ℕ
deep =
    nested 8

unfoldable pub bodies : List Body
bodies =
    -- all at their largest numbers, and the least that is allowed
    matches "BGM DTM DTM NAD RFF RFF CTA CTA NAD CTA UNS LIN QTY LIN QTY LIN QTY MOA" orders
    ∷ matches "BGM LIN QTY" orders
    ∷ matches "BGM NAD NAD LIN QTY" orders
    ∷ matches "BGM UNS LIN QTY MOA" orders
    -- a mandatory entry that cannot be met: a segment, a group, inside a group; at the end
    ∷ stops "" orders 0
    ∷ stops "DTM LIN QTY" orders 0
    ∷ stops "BGM DTM" orders 2
    ∷ stops "BGM MOA" orders 1
    ∷ stops "BGM LIN" orders 2
    ∷ stops "BGM LIN MOA" orders 2
    ∷ stops "BGM LIN QTY LIN" orders 4
    -- one repeat too many: of a segment, of a group, of an inner group
    ∷ stops "BGM BGM LIN QTY" orders 1
    ∷ stops "BGM DTM DTM DTM LIN QTY" orders 3
    ∷ stops "BGM NAD NAD NAD LIN QTY" orders 3
    ∷ stops "BGM NAD CTA CTA CTA LIN QTY" orders 4
    ∷ stops "BGM LIN QTY LIN QTY LIN QTY LIN QTY" orders 7
    -- what is left over; another order; a tag that the table lacks
    ∷ stops "BGM LIN QTY MOA MOA" orders 4
    ∷ stops "BGM LIN QTY DTM" orders 3
    ∷ stops "BGM XXX LIN QTY" orders 1
    ∷ stops "BGM NAD CTA RFF LIN QTY" orders 3
    -- a table of no entries allows exactly the empty body
    ∷ matches "" []
    ∷ stops "BGM" [] 0
    ∷ stops "UNS" [] 0
    -- a group's repeat is not given back when it cannot be completed
    ∷ matches "AAA CCC" inner
    ∷ matches "AAA CCC AAA BBB CCC" inner
    ∷ stops "AAA CCC AAA" inner 3
    ∷ stops "AAA BBB BBB CCC" inner 2
    ∷ stops "AAA CCC AAA BBB" inner 4
    ∷ stops "CCC" inner 0
    ∷ matches "" inner
    ∷ stops "AAA" again 1
    ∷ matches "AAA BBB" again
    ∷ matches "AAA BBB AAA" again
    -- where a tag stands twice: the first entry takes all that it can, and leaves nothing to the second
    ∷ stops "AAA" twice 1
    ∷ stops "AAA AAA" twice 2
    ∷ matches "AAA AAA AAA" twice
    ∷ stops "AAA AAA AAA AAA" twice 3
    ∷ stops "" twice 0
    -- eight deep
    ∷ matches "N07 N06 N05 N04 N03 N02 N01 N00" deep
    ∷ stops "N07 N06 N05 N04 N03 N02 N01 N00 N00 N01 N00 N00 N01" deep 12
    ∷ stops "N07 N05" deep 1
    ∷ stops "N07 N06 N07 N06 N07" deep 4
    ∷ matches "" deep
    ∷ []

-- the tags of a body, which are written with a space between two
unfoldable pub tags_of : String → List (List ℕ)
tags_of tags = map (take 3) (cut (eqb 32) (text tags))

unfoldable pub body_holds : Body → Bool
body_holds b =
    let tags = tags_of b.tags in
    let left = unmatched (λ tag. tag) (structure_of b.table) tags in
    is_sound b.table
    && maybe (maybe true (λ gs. false) left) (λ n. maybe false (λ gs. eqb (length gs + n) (length tags)) left) b.stops

-- ---- interchanges, and what the second Judge answers

pub record Judgement : Type 0 where
  pub table : List ℕ
  pub input : List ℕ
  pub number : ℕ
  pub values : List ℕ

-- segments, messages, groups, length of the normal form
abbrev accepts : List ℕ → List ℕ → List ℕ → Judgement
accepts table input values = record { table = table; input = input; number = 0; values = values }

abbrev refuses : List ℕ → List ℕ → (number place : ℕ) → Judgement
refuses table input number place = record { table = table; input = input; number = number; values = place ∷ [] }

-- two messages: their segments begin at 19, 27, 31, 39 and at 47, 55, 59, 65
abbrev pair : List ℕ
pair = text "UNB+UNOA:1+A+B+1+R'UNH+1+M'BGM'LIN:1+2'UNT+4+1'UNH+2+M'BGM'UNS+D'UNT+4+2'UNZ+2+R'"

-- a message in a group: its segments begin at 33, 41, 45
abbrev grouped : List ℕ
grouped = text "UNB+UNOA:1+A+B+1+R'UNG+I+A+B+1+G'UNH+1+M'BGM'UNT+3+1'UNE+1+G'UNZ+1+R'"

-- a line feed after each terminator: the message's segments begin at 20, 29, 34
abbrev broken : List ℕ
broken = text "UNB+UNOA:1+A+B+1+R'\nUNH+1+M'\nBGM'\nUNT+3+1'\nUNZ+1+R'\n"

abbrev start : List ℕ
start = segment "BGM" "M" 1

unfoldable pub judgements : List Judgement
judgements =
    -- X, whose body is a BGM
    accepts start x (5 ∷ 1 ∷ 0 ∷ 93 ∷ [])
    ∷ accepts (segment "BGM" "C" 9 ++ segment "DTM" "C" 9) x (5 ∷ 1 ∷ 0 ∷ 93 ∷ [])
    ∷ refuses [] x 22 54
    ∷ refuses (segment "DTM" "M" 1 ++ start) x 22 54
    ∷ refuses (start ++ segment "DTM" "M" 1) x 22 67
    -- no body at all
    ∷ accepts [] (with "" "UNT+2+1'" unz) (4 ∷ 1 ∷ 0 ∷ 80 ∷ [])
    ∷ refuses start (with "" "UNT+2+1'" unz) 22 54
    -- a segment is matched by its tag without repetition figures, and UNS as any other; each message is walked from the beginning
    ∷ accepts (start ++ segment "LIN" "C" 1 ++ segment "UNS" "C" 1) pair (10 ∷ 2 ∷ 0 ∷ 90 ∷ [])
    ∷ accepts (start ++ group "C" 1 1 ++ segment "LIN" "M" 1 ++ segment "UNS" "C" 1) pair (10 ∷ 2 ∷ 0 ∷ 90 ∷ [])
    ∷ refuses (start ++ segment "LIN" "M" 1 ++ segment "UNS" "C" 1) pair 22 59
    ∷ refuses (start ++ segment "LIN" "C" 1) pair 22 59
    -- the lowest place answers, here a UNT
    ∷ refuses (start ++ segment "LIN" "M" 1 ++ segment "UNS" "M" 1) pair 22 39
    ∷ refuses (start ++ segment "UNS" "C" 1) pair 22 31
    ∷ refuses [] pair 22 27
    ∷ accepts start grouped (7 ∷ 1 ∷ 1 ∷ 78 ∷ [])
    ∷ refuses [] grouped 22 41
    ∷ refuses (start ++ start) grouped 22 45
    ∷ accepts start broken (5 ∷ 1 ∷ 0 ∷ 56 ∷ [])
    ∷ refuses [] broken 22 29
    ∷ refuses (start ++ start) broken 22 34
    -- 21 before all else, and 22 after 12
    ∷ refuses (segment "bgm" "M" 1) [] 21 0
    ∷ refuses (start ++ segment "UNH" "M" 1) (replicate 32001 65) 21 1
    ∷ refuses start (replicate 32001 65) 1 0
    ∷ refuses start [] 3 0
    ∷ refuses [] (with bgm "UNT+4+1'" unz) 12 67
    ∷ refuses [] (with bgm "UNT+3+2'" unz) 11 67
    ∷ refuses [] (with bgm unt "") 9 75
    ∷ []

unfoldable pub judgement_holds : Judgement → Bool
judgement_holds j = says (judge_by_table j.table j.input) (if eqb j.number 0 then 6 else 0) j.number j.values
