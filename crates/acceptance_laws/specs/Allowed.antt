-- Paper 01: the rules of an accepted interchange, clause by clause, as one record. Assumes nothing.
use Rattle.std.specs.Prelude.{ℕ, ◌≤◌, ◌≡◌, ◌⊎◌, Bool, true, length}
use mathlib.Core.List.{List, [], ◌∷◌, ◌++◌, Memᴰ}
use Rattle.std.proofs.Math.Option.{some}
use Rattle.lists.specs.Lists.{text, member, all, at}
use Rattle.characters.specs.declared.Characters.{Characters}
use Rattle.characters.specs.Characters.{space, usable, is_break, advice_of, characters_of, body}
use Rattle.values.specs.Tokens.{Segment}
use Rattle.values.specs.Trimming.{contents_of}
use Rattle.values.specs.Spelling.{Bytes}
use Rattle.levels.specs.Levels.{in_level_a, in_level_b}
use Rattle.stages.specs.Contents.{segments_of, normal_form}
use Rattle.spelling_laws.specs.Bodies.{Spelled}
use Rattle.grammar_laws.specs.Grammar.{Interchange}
use Rattle.refusals.specs.Limits.{most_bytes}

-- ---- "Service characters"

-- An advice of six usable bytes, line breaks or none, and after them `UNB` and the element separator; or, without advice, one of the two
-- beginnings.
pub data WellOpened (s : List ℕ) : Type 0 where
  advice : (c : Characters) (gap rest : List ℕ) → usable c ≡ true → all is_break gap ≡ true
      → s ≡ advice_of c ++ (gap ++ (text "UNB" ++ c.element ∷ rest)) → WellOpened s
  plus : (rest : List ℕ) → s ≡ text "UNB+" ++ rest → WellOpened s
  control : (rest : List ℕ) → s ≡ text "UNB" ++ 29 ∷ rest → WellOpened s

-- ---- the rule for tags

-- "`A`-`Z` or `0`-`9`"
pub data TagByte (b : ℕ) : Type 0 where
  letter : 65 ≤ b → b ≤ 90 → TagByte b
  figure : 48 ≤ b → b ≤ 57 → TagByte b

-- The first value is the tag: "three bytes, each `A`-`Z` or `0`-`9`", with its repetition figures in one repeat. Where the first two are
-- `UN`, the third is that of UNB, UNG, UNH, UNS, UNT, UNE or UNZ, and no component follows.
pub record Tagged (segment : List (List (List Bytes))) : Type 0 where
  pub first : ℕ
  pub second : ℕ
  pub third : ℕ
  pub figures : List Bytes
  pub elements : List (List (List Bytes))
  pub shape : segment ≡ (((first ∷ second ∷ third ∷ []) ∷ figures) ∷ []) ∷ elements
  pub bytes : TagByte first × TagByte second × TagByte third
  pub service : first ∷ second ∷ [] ≡ text "UN" → (member third (text "BGHSTEZ") ≡ true) × (figures ≡ [])

-- ---- "Levels"

pub data Level : Type 0 where
  level_a : Level
  level_b : Level

abbrev pub name_of : Level → Bytes
name_of level_a = text "UNOA"
name_of level_b = text "UNOB"

abbrev pub holds : Level → ℕ → Bool
holds level_a = in_level_a
holds level_b = in_level_b

-- "The first component of UNB's element 1 is `UNOA` or `UNOB`, its second is `1` or `2`." Request 2026-10: the element has one repeat, and
-- the version may be `4`, and is where "the fifth byte isn't a space".
pub record NamesLevel (c : Characters) (unb : Segment) (level : Level) : Type 0 where
  pub values : List Bytes
  pub alone : at (contents_of unb) 1 ≡ some (values ∷ [])
  pub name : at values 0 ≡ some (name_of level)
  pub version : (at values 1 ≡ some (text "4"))
      ⊎ ((c.repetition ≡ space) × ((at values 1 ≡ some (text "1")) ⊎ (at values 1 ≡ some (text "2"))))

-- ---- all of them, each beside the refusals that it leaves unmet

pub record Allowed (s : List ℕ) : Type 0 where
  -- 1: the input has at most 32,000 bytes
  pub size : length s ≤ most_bytes
  -- 2, 3: it begins as an interchange does, with usable service characters
  pub opening : WellOpened s
  -- 4, 5: the body is the spelling of a list of segments, "each service character inside a value being released and nothing else", with
  -- line breaks after its segments
  pub spelled : Spelled (characters_of s) (body s)
  -- 6: every segment keeps the rule for tags
  pub tags : (segment : List (List (List Bytes))) → Memᴰ segment spelled.list → Tagged segment
  -- 9 to 12: the segments of the input, untrimmed, are an interchange of the grammar: "UNB; then one or more groups, or one or
  -- more messages, not both; then UNZ", each trailer with the reference of its header and the true count.
  pub order : Interchange (segments_of s)
  -- 7: UNB names a level and a version that are ours
  pub level : Level
  pub named : NamesLevel (characters_of s) order.head level
  -- 8: "Every value byte, released ones too, must be in the level."
  pub inside : all (all (all (all (all (holds level))))) spelled.list ≡ true
  -- 13: the normal form has at most 32,000 bytes
  pub normal_size : length (normal_form s) ≤ most_bytes
