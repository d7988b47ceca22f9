-- Paper 01, "From bytes to values": what a body reads as, when it passes refusals 4 and 5, and which lists can be spelled.
-- Assumes nothing.
use Rattle.std.specs.Prelude.{ℕ, ◌≡◌, Bool, true, false, not, List, map, length}
use Rattle.lists.specs.Lists.{is_single, all}
use Rattle.nesting.specs.Nesting.{shaped, every}
use Rattle.characters.specs.declared.Characters.{Characters}
use Rattle.characters.specs.Characters.{has_release, has_repetition, is_service, is_break}
use Rattle.values.specs.Tokens.{Token, Segment, segments, tokens}
use Rattle.values.specs.Values.{elements_of, is_fault, ends_inside}
use Rattle.values.specs.Spelling.{Bytes, SegmentList, begins_broken, spell_apart}

-- ---- lists of segments

-- the values of a segment, untrimmed and without places
unfoldable pub words_of : Segment → List (List (List Bytes))
words_of segment = map (map (map (λ v. v.bytes))) (elements_of segment)

-- the list of segments that the tokens hold
unfoldable pub listed : List Token → SegmentList
listed ts = map words_of (segments ts)

-- the list of segments that a body reads as; its first byte stands at the place
unfoldable pub read_list : Characters → ℕ → Bytes → SegmentList
read_list c place body = listed (tokens c place body)

-- neither refusal 4 nor refusal 5 is met: no token is a fault, and the tokens do not end inside a segment
unfoldable pub Sound : List Token → Type 0
Sound ts = (all (λ t. not (is_fault t)) ts ≡ true) × (ends_inside ts ≡ false)

-- the body, whose first byte stands at the place, passes refusals 4 and 5
unfoldable pub Passes : Characters → ℕ → Bytes → Type 0
Passes c place body = Sound (tokens c place body)

-- "A segment is one or more elements, an element one or more" repeats, a repeat one or more "values"
unfoldable pub shaped_segment : List (List (List Bytes)) → Bool
shaped_segment segment = shaped Bytes 3 segment

unfoldable pub Shaped : SegmentList → Type 0
Shaped list = all shaped_segment list ≡ true

-- where there is no release character, no value of the list holds a service character; where there is no repetition separator, each
-- element has one repeat
pub record Spellable (c : Characters) (list : SegmentList) : Type 0 where
  pub released : has_release c ≡ false → every (all (λ b. not (is_service c b))) 4 list ≡ true
  pub repeated : has_repetition c ≡ false → every is_single 2 list ≡ true

-- "No segment of a list may begin with a break."
unfoldable pub Unbroken : SegmentList → Type 0
Unbroken list = all (λ segment. not (begins_broken segment)) list ≡ true

-- for each segment of the list, the line breaks that stand after it, perhaps none: "Carriage returns and line feeds directly after a
-- segment terminator .. however many"
pub record Breaks (list : SegmentList) (between : List Bytes) : Type 0 where
  pub each : length between ≡ length list
  pub only_breaks : all (all is_break) between ≡ true

-- "some list of segments is spelled by it, each service character inside a value being released and nothing else", with line breaks after
-- its segments
pub record Spelled (c : Characters) (body : Bytes) : Type 0 where
  pub list : SegmentList
  pub shaped : Shaped list
  pub spellable : Spellable c list
  pub unbroken : Unbroken list
  pub between : List Bytes
  pub breaks : Breaks list between
  pub spelled : spell_apart c list between ≡ body
