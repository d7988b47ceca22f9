-- Paper 01, "Levels"; request 2026-10, version 4. Assumes nothing.
use Rattle.std.specs.Prelude.{ℕ, Bool, false, not, ◌&&◌, ◌||◌, List, leb, if◌then◌else◌}
use Rattle.std.proofs.Math.Option.{Option, none, some}
use Rattle.lists.specs.Lists.{text, same, member, at, single, maybe}
use Rattle.characters.specs.declared.Characters.{Characters}
use Rattle.characters.specs.Characters.{upper, lower, digit, has_repetition}
use Rattle.values.specs.Tokens.{Segment}
use Rattle.values.specs.Trimming.{contents_of}
use Rattle.values.specs.Spelling.{SegmentList}

-- "Level A: `A`-`Z`, `0`-`9`, space and `. , - ( ) / = ' + : ? ! " % & * ; < >`."
unfoldable pub in_level_a : ℕ → Bool
in_level_a b = upper b || digit b || member b (text " .,-()/='+:?!\"%&*;<>")

-- "Level B adds `a`-`z`."
unfoldable pub in_level_b : ℕ → Bool
in_level_b b = in_level_a b || lower b

-- A byte's class is the number of levels in which it belongs: level A holds class 2, level B classes 1 and 2.
unfoldable pub class_of : ℕ → ℕ
class_of b = if in_level_a b then 2 else (if in_level_b b then 1 else 0)

-- A level is known by the least class that belongs in it: 2 for `UNOA`, 1 for `UNOB`.
unfoldable pub level_named : List ℕ → Option ℕ
level_named name = if same name (text "UNOA") then some 2 else (if same name (text "UNOB") then some 1 else none)

unfoldable pub in_level : ℕ → ℕ → Bool
in_level level b = leb level (class_of b)

-- ---- what UNB names, as it stands in its trimmed contents

-- UNB's element 1, level and version; request 2026-10: it has "one repeat", and "7 also when UNB's first element has more"
unfoldable pub syntax_identifier : List (List (List (List ℕ))) → Option (List (List ℕ))
syntax_identifier unb = maybe none single (at unb 1)

-- request 2026-10: "New partners send `UNOA:4` or `UNOB:4`."
unfoldable pub is_version4 : List (List ℕ) → Bool
is_version4 identifier = maybe false (λ version. same version (text "4")) (at identifier 1)

-- "its second is `1` or `2`"
unfoldable pub is_old_version : List (List ℕ) → Bool
is_old_version identifier = maybe false (λ version. same version (text "1") || same version (text "2")) (at identifier 1)

-- "7 also when .. the fifth byte isn't a space and the version isn't 4"
unfoldable pub is_our_version : Characters → List (List ℕ) → Bool
is_our_version c identifier = is_version4 identifier || (not (has_repetition c) && is_old_version identifier)

-- "The first component of UNB's element 1 is `UNOA` or `UNOB`": the level that it names, or none where level or version are not ours
unfoldable pub level_in : Characters → List (List ℕ) → Option ℕ
level_in c identifier = if is_our_version c identifier then maybe none level_named (at identifier 0) else none

unfoldable pub level_of : Characters → Segment → Option ℕ
level_of c unb = maybe none (level_in c) (syntax_identifier (contents_of unb))

-- the contents are those of an interchange of version 4
unfoldable pub has_version4 : SegmentList → Bool
has_version4 list = maybe false (λ unb. maybe false is_version4 (syntax_identifier unb)) (at list 0)
