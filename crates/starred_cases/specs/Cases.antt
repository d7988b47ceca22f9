-- Paper 01, "The example and its neighbours": X, and each case that is marked *; request 2026-10: "The case `UNA:+.?*'` now answers 3 at
-- 9". Assumes nothing.
use Rattle.std.specs.Prelude.{ℕ, Bool, ◌&&◌, List, [], ◌∷◌, ◌++◌, length, take, drop, eqb}
use Prim.Native.String.{String}
use Rattle.lists.specs.Lists.{text, same}
use Rattle.answers.specs.Answers.{Answer}
use Rattle.operations.specs.Judge.{judge}
use Rattle.operations.specs.Compare.{compare}

-- what the paper says of an input: how it is judged, how it compares with X, its service characters, its size
pub data Expected : Type 0 where
  accepted : (segments messages groups length : ℕ) → Expected
  refused : (number place : ℕ) → Expected
  same_as_x : Expected
  different_from_x : Expected
  uses : (six : List ℕ) → Expected
  has_bytes : ℕ → Expected

pub record Case : Type 0 where
  pub input : List ℕ
  pub expected : Expected

infix 5 ◌answers◌
abbrev ◌answers◌ : List ℕ → Expected → Case
input answers expected = record { input = input; expected = expected }

-- ---- X, by its segments

abbrev pub unb : String
unb = "UNB+UNOA:1+AA+BB+260105:0930+R1'"

abbrev pub unh : String
unh = "UNH+1+ORDERS:1:901:UN'"

abbrev pub bgm : String
bgm = "BGM+220+A?+B'"

abbrev pub unt : String
unt = "UNT+3+1'"

abbrev pub unz : String
unz = "UNZ+1+R1'"

-- X with other segments in the place of its last three
abbrev pub with : String → String → String → List ℕ
with third fourth fifth = text unb ++ text unh ++ text third ++ text fourth ++ text fifth

abbrev pub x : List ℕ
x = with bgm unt unz

-- X respelled under another advice, "with `A+B` plain"
abbrev pub respelled : String → List ℕ
respelled advice =
    text advice ++ text "UNB*UNOA;1*AA*BB*260105;0930*R1~UNH*1*ORDERS;1;901;UN~BGM*220*A+B~UNT*3*1~UNZ*1*R1~"

-- X of version 4, with other segments in the place of its third and fourth
abbrev pub four : String → String → List ℕ
four third fourth = text "UNB+UNOA:4+AA+BB+260105:0930+R1'" ++ text unh ++ text third ++ text fourth ++ text unz

unfoldable pub cases : List Case
cases =
    (x answers has_bytes 84)
    ∷ (x answers accepted 5 1 0 93)
    ∷ (x answers uses (text ":+.? '"))
    ∷ (with bgm "UNT+4+1'" unz answers refused 12 67)
    ∷ (with bgm "UNT+4+2'" unz answers refused 11 67)
    ∷ (take 83 x answers refused 5 83)
    ∷ (with bgm unt "" answers refused 9 75)
    ∷ (text unb ++ text "UNZ+0+R1'" answers refused 9 32)
    ∷ (with "BGM+220+A?B'" unt unz answers refused 4 63)
    ∷ (with "BGM+220+A?+b'" unt unz answers refused 8 65)
    ∷ (with "BGM+220+A?+B+::+'" unt unz answers same_as_x)
    ∷ (with "BGM+220+A+B'" unt unz answers different_from_x)
    ∷ (respelled "UNA;*.! ~" answers has_bytes 92)
    ∷ (respelled "UNA;*.! ~" answers same_as_x)
    ∷ (respelled "UNA;*,! ~" answers different_from_x)
    ∷ ([] answers refused 3 0)
    ∷ (text "UNA:+.? '" answers refused 3 9)
    ∷ (text "UNA:+.?*'" answers refused 3 9)
    -- request 2026-10: two repeats; empty ones inside an element stay, and those at its end go; a count has one
    ∷ (four "BGM+220*A?+B'" unt answers accepted 5 1 0 93)
    ∷ (four "BGM+220**A?+B**'" unt answers accepted 5 1 0 94)
    ∷ (four bgm "UNT+3*3+1'" answers refused 10 67)
    ∷ []

-- the answer's number, and its values from one of them on
unfoldable pub says : Answer → ℕ → ℕ → List ℕ → Bool
says answer from number values = eqb answer.number number && same (drop from answer.values) values

unfoldable pub meets : List ℕ → Expected → Bool
meets input (accepted segments messages groups size) = says (judge input) 6 0 (segments ∷ messages ∷ groups ∷ size ∷ [])
meets input (refused number place) = says (judge input) 0 number (place ∷ [])
meets input same_as_x = says (compare x input) 0 0 (1 ∷ [])
meets input different_from_x = says (compare x input) 0 0 (0 ∷ [])
meets input (uses six) = eqb (judge input).number 0 && same (take 6 (judge input).values) six
meets input (has_bytes n) = eqb (length input) n

unfoldable pub holds : Case → Bool
holds c = meets c.input c.expected
