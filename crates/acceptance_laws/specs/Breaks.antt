-- Request 2026-01, "Line breaks between segments": inputs that differ in nothing but the breaks that are passed over. Assumes nothing.
use Rattle.std.specs.Prelude.{ℕ, ◌≡◌, true, List, ◌++◌, if◌then◌else◌}
use Rattle.lists.specs.Lists.{all}
use Rattle.characters.specs.Characters.{is_break, advised, advice_of, characters_of, body}
use Rattle.values.specs.Spelling.{Bytes, spell_apart}
use Rattle.spelling_laws.specs.Bodies.{Breaks, Spelled}
use Rattle.normal_form_laws.specs.Forms.{list_read}
use Rattle.acceptance_laws.specs.Allowed.{WellOpened}

-- Both open as an interchange does, use the same service characters, and their bodies are spelled by the same list of segments. What stands
-- after their advices and after their segments may be any breaks. One of them may have an advice and the other none, where the advice names
-- the characters that are in use without it: so it is with X and X after `UNA:+.? '`.
pub record ButForBreaks (s t : List ℕ) : Type 0 where
  pub first : WellOpened s
  pub second : WellOpened t
  pub characters : characters_of s ≡ characters_of t
  pub first_spelled : Spelled (characters_of s) (body s)
  pub second_spelled : Spelled (characters_of t) (body t)
  pub same_list : first_spelled.list ≡ second_spelled.list

-- breaks that an input may have: some after its advice, and some after each of its segments
pub record BreaksFor (s : List ℕ) (gap : Bytes) (between : List Bytes) : Type 0 where
  pub after_advice : all is_break gap ≡ true
  pub after_segments : Breaks (list_read s) between

-- An input with other breaks: `gap` after its advice, if it has one, and after each of its segments what stands in `between`.
unfoldable pub respaced : List ℕ → Bytes → List Bytes → List ℕ
respaced s gap between =
    if advised s then advice_of (characters_of s) ++ (gap ++ spell_apart (characters_of s) (list_read s) between)
    else spell_apart (characters_of s) (list_read s) between
