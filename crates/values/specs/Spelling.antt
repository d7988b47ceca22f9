-- Paper 01, "From bytes to values": the spelling of a list of segments, "each service character inside a value being released
-- and nothing else"; request 2026-10: repeats. Assumes nothing.
use Rattle.std.specs.Prelude.{ℕ, zero, suc, Bool, false, List, [], ◌∷◌, ◌++◌, map, if◌then◌else◌}
use Rattle.characters.specs.declared.Characters.{Characters}
use Rattle.characters.specs.Characters.{is_service, is_break}
use Rattle.lists.specs.Lists.{at, maybe, gather, joined}
use Rattle.values.specs.Trimming.{value_at}

-- A value is its bytes, a repeat its values, an element its repeats, a segment its elements: the first is the tag.
abbrev pub Bytes : Type 0
Bytes = List ℕ

abbrev pub SegmentList : Type 0
SegmentList = List (List (List (List Bytes)))

-- the character that ends a part of this depth: a value is of depth 0, a repeat of depth 1, an element of depth 2, a segment of depth 3
abbrev pub separator_of : Characters → ℕ → ℕ
separator_of c zero = c.component
separator_of c (suc zero) = c.repetition
separator_of c (suc (suc zero)) = c.element
separator_of c (suc (suc (suc depth))) = c.terminator

-- Where there is no release character, a list is spelled only if no value holds a service character, and where there is no repetition
-- separator only if each element has one repeat: refusal 16 of Write.
module _ (c : Characters) where
  unfoldable pub spell_byte : ℕ → Bytes
  spell_byte b = if is_service c b then c.release ∷ b ∷ [] else b ∷ []

  unfoldable pub spell_value : Bytes → Bytes
  spell_value value = gather spell_byte value

  unfoldable pub spell_repeat : List Bytes → Bytes
  spell_repeat repeat = joined c.component (map spell_value repeat)

  unfoldable pub spell_element : List (List Bytes) → Bytes
  spell_element element = joined c.repetition (map spell_repeat element)

  unfoldable pub spell_segment : List (List (List Bytes)) → Bytes
  spell_segment segment = joined c.element (map spell_element segment) ++ c.terminator ∷ []

  unfoldable pub spell : SegmentList → Bytes
  spell segments = gather spell_segment segments

-- ---- line breaks (request 2026-01)

-- the value's first byte is a break
unfoldable pub leads_break : Bytes → Bool
leads_break value = maybe false is_break (at value 0)

-- "No segment of a list may begin with a break": its first value's first byte
unfoldable pub begins_broken : List (List (List Bytes)) → Bool
begins_broken segment = maybe false leads_break (value_at segment 0 0 0)

-- the list spelled with bytes after each segment, of which there may be fewer, and then none follow
module _ (c : Characters) where
  unfoldable pub spell_apart : SegmentList → List Bytes → Bytes
  spell_apart [] between = []
  spell_apart (segment ∷ segments) [] = spell_segment c segment ++ spell_apart segments []
  spell_apart (segment ∷ segments) (gap ∷ between) = spell_segment c segment ++ (gap ++ spell_apart segments between)
