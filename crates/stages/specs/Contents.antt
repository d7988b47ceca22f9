-- Paper 01, "From bytes to values" and "Normal form": what an input holds; request 2026-10: version 4. Assumes nothing.
use Rattle.std.specs.Prelude.{ℕ, List, ◌∷◌, ◌++◌, map, reverse, if◌then◌else◌}
use Rattle.lists.specs.Lists.{text}
use Rattle.characters.specs.declared.Characters.{Characters}
use Rattle.characters.specs.Characters.{space, six_bytes, advice_of, characters_of, body_start, body}
use Rattle.values.specs.Tokens.{Token, tokens, Segment, segments}
use Rattle.values.specs.Trimming.{contents_of}
use Rattle.values.specs.Spelling.{SegmentList, spell}
use Rattle.levels.specs.Levels.{has_version4}
use Rattle.segments.specs.declared.Kind.{Kind}
use Rattle.segments.specs.Tags.{kind_of}

unfoldable pub body_tokens : List ℕ → List Token
body_tokens s = tokens (characters_of s) (body_start s) (body s)

unfoldable pub segments_of : List ℕ → List Segment
segments_of s = segments (body_tokens s)

-- "The contents are the trimmed list."
unfoldable pub contents : List ℕ → SegmentList
contents s = map contents_of (segments_of s)

-- the kinds of the segments, the last first
unfoldable pub kinds_of : List ℕ → List Kind
kinds_of s = reverse (map kind_of (segments_of s))

-- ---- the normal form

-- the mark and the fifth byte are given
unfoldable pub normal_characters : ℕ → ℕ → Characters
normal_characters mark repetition = six_bytes (text ":+" ++ mark ∷ text "?" ++ repetition ∷ text "'")

-- request 2026-10: "A version 4 normal form has `*` in the fifth place ..; older ones keep the space."
unfoldable pub normal_repetition : SegmentList → ℕ
normal_repetition list = if has_version4 list then 42 else space

-- a list of segments after its advice
unfoldable pub interchange : Characters → SegmentList → List ℕ
interchange c list = advice_of c ++ spell c list

-- "`UNA:+`, the mark, `? '`", in version 4 `?*'`, "then the contents spelled with those characters."
unfoldable pub normal_form : List ℕ → List ℕ
normal_form s = interchange (normal_characters (characters_of s).mark (normal_repetition (contents s))) (contents s)
