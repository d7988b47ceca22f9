-- Paper 01, "Refusals by number": for each of 1 to 13, all the places at which an input meets it. A stage is asked only where those
-- before it are not met: after a fault of an earlier stage, and for 9 after the first such place, these lists say nothing.
-- Assumes nothing.
use Rattle.std.specs.Prelude.{ℕ, Bool, not, ◌&&◌, List, [], ◌∷◌, ◌++◌, map, length, ltb}
use Rattle.lists.specs.Lists.{gather, at, maybe}
use Rattle.characters.specs.Characters.{characters_of, body_start, bad_advice, opens}
use Rattle.refusals.specs.Refusals.{place_if}
use Rattle.values.specs.Tokens.{Token, byte, separator, fault, Segment, place_of, start}
use Rattle.values.specs.Values.{is_fault, finished, ends_inside}
use Rattle.levels.specs.Levels.{level_of, in_level}
use Rattle.segments.specs.Tags.{kind_of, tag_rule}
use Rattle.segments.specs.Order.{allowed, is_complete}
use Rattle.control_elements.specs.Control.{control_rule, reference_differs, count_wrong}
use Rattle.control_elements.specs.Sections.{section_rule}
use Rattle.stages.specs.Contents.{body_tokens, segments_of, kinds_of, normal_form}
use Rattle.refusals.specs.Limits.{most_bytes}

-- "over 32,000 bytes"
unfoldable pub is_over : List ℕ → Bool
is_over s = ltb most_bytes (length s)

-- the starts of the segments that fail a test, given what passed before each, the nearest first
unfoldable pub starts_where : (List Segment → Segment → Bool) → List Segment → List Segment → List ℕ
starts_where fails past [] = []
starts_where fails past (g ∷ gs) = place_if (fails past g) (start g) ++ starts_where fails (g ∷ past) gs

-- the tests of 6, 9 and 10
abbrev pub broken_tag : List Segment → Segment → Bool
broken_tag past g = finished g && not (tag_rule g)

abbrev pub misplaced : List Segment → Segment → Bool
misplaced past g = not (allowed (map kind_of past) (kind_of g) && section_rule past g)

abbrev pub bad_control : List Segment → Segment → Bool
bad_control past g = not (control_rule g)

module _ (s : List ℕ) where
  -- 1: "input or text over 32,000 bytes": 0
  unfoldable pub too_long : List ℕ
  too_long = place_if (is_over s) 0

  -- 2: "unusable advice, or shorter than its 9 bytes": 0
  unfoldable pub unusable_advice : List ℕ
  unusable_advice = place_if (bad_advice s) 0

  -- 3: "the body doesn't begin `UNB` and the element separator": "0, or 9 after an advice"; request 2026-01:
  -- after the breaks that follow the advice
  unfoldable pub no_opening : List ℕ
  no_opening = place_if (not (opens s)) (body_start s)

  -- 4: "release followed by no service character, or by the end": "the release character"
  unfoldable pub stray_releases : List ℕ
  stray_releases = gather (λ t. place_if (is_fault t) (place_of t)) (body_tokens s)

  -- 5: "the body ends inside a segment": "input length"
  unfoldable pub unended_segment : List ℕ
  unended_segment = place_if (ends_inside (body_tokens s)) (length s)

  -- 6: "tag rule broken, in a finished segment": "segment start"
  unfoldable pub broken_tags : List ℕ
  broken_tags = starts_where broken_tag [] (segments_of s)

  -- 7: "level or version not ours": "UNB's start"
  unfoldable pub foreign_level : List ℕ
  foreign_level = maybe [] (λ unb. maybe (start unb ∷ []) (λ level. []) (level_of (characters_of s) unb)) (at (segments_of s) 0)

  -- the level that UNB, the first segment, names
  unfoldable pub level : ℕ
  level = maybe 0 (λ unb. maybe 0 (λ named. named) (level_of (characters_of s) unb)) (at (segments_of s) 0)

  -- "Every value byte, released ones too, must be in the level."
  unfoldable pub place_outside : Token → List ℕ
  place_outside (byte b from place) = place_if (not (in_level level b)) place
  place_outside (separator kind place) = []
  place_outside (fault place) = []

  -- 8: "byte outside the level": "that byte"
  unfoldable pub outside_level : List ℕ
  outside_level = gather place_outside (body_tokens s)

  -- 9: "segment not allowed there; or the end before UNZ": "segment start; input length"; change request 2026-03: "9 at the UNS that
  -- breaks this"
  unfoldable pub misplaced_segments : List ℕ
  misplaced_segments = starts_where misplaced [] (segments_of s) ++ place_if (not (is_complete (kinds_of s))) (length s)

  -- 10: "control element of a service segment not as above": "segment start"
  unfoldable pub bad_controls : List ℕ
  bad_controls = starts_where bad_control [] (segments_of s)

  -- 11: "trailer's reference differs from its header's": "trailer start"
  unfoldable pub differing_references : List ℕ
  differing_references = starts_where reference_differs [] (segments_of s)

  -- 12: "trailer's count wrong": "trailer start"
  unfoldable pub wrong_counts : List ℕ
  wrong_counts = starts_where count_wrong [] (segments_of s)

  -- 13: "normal form over 32,000 bytes": "its length"
  unfoldable pub normal_too_long : List ℕ
  normal_too_long = place_if (is_over (normal_form s)) (length (normal_form s))
