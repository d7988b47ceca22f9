-- Paper 01, "Normal form": what is promised of it, and how a file of normal forms end to end is cut apart. Assumes nothing.
use Rattle.std.specs.Prelude.{ℕ, zero, suc, ◌+◌, ◌*◌, ◌≤◌, ◌≡◌, true, length, take, drop, if◌then◌else◌}
use mathlib.Core.List.{List, [], ◌∷◌, Memᴰ}
use Rattle.std.proofs.Math.Option.{none}
use Rattle.lists.specs.Lists.{gather, at, maybe}
use Rattle.characters.specs.declared.Characters.{Characters}
use Rattle.characters.specs.Characters.{has_repetition, characters_of, body_start, body}
use Rattle.values.specs.Tokens.{Segment, start}
use Rattle.values.specs.Spelling.{SegmentList}
use Rattle.levels.specs.Levels.{has_version4}
use Rattle.segments.specs.declared.Kind.TheVariants.{Unz}
use Rattle.segments.specs.Kinds.{is}
use Rattle.segments.specs.Tags.{kind_of}
use Rattle.stages.specs.Contents.{segments_of, contents, normal_characters, normal_repetition, normal_form}
use Rattle.stages.specs.Stages.{refusal_of}
use Rattle.spelling_laws.specs.Bodies.{read_list, Passes}

-- ---- an input

-- its decimal mark
abbrev pub mark_of : List ℕ → ℕ
mark_of s = (characters_of s).mark

-- the characters of its normal form
abbrev pub form_characters : List ℕ → Characters
form_characters s = normal_characters (mark_of s) (normal_repetition (contents s))

-- "the fifth byte isn't a space" only where the contents name version 4
abbrev pub Suits : Characters → SegmentList → Type 0
Suits c list = has_repetition c ≡ true → has_version4 list ≡ true

-- its body passes refusals 4 and 5
abbrev pub BodyPasses : List ℕ → Type 0
BodyPasses s = Passes (characters_of s) (body_start s) (body s)

-- the list of segments that its body is read as, untrimmed
abbrev pub list_read : List ℕ → SegmentList
list_read s = read_list (characters_of s) (body_start s) (body s)

-- What the normal form of an input is to the input: accepted, with the contents of the input, under the normal form's characters
-- with the input's mark, and its own normal form.
pub record Normalised (s form : List ℕ) : Type 0 where
  pub accepted : refusal_of form ≡ none
  pub same_contents : contents form ≡ contents s
  pub characters : characters_of form ≡ form_characters s
  pub own_form : normal_form form ≡ form
  -- "For n input bytes it has at most 2n + 9."
  pub bounded : length form ≤ 2 * length s + 9

-- ---- files

-- the text is the normal form of some accepted input
pub record NormalForm (form : List ℕ) : Type 0 where
  pub input : List ℕ
  pub accepted : refusal_of input ≡ none
  pub made : normal_form input ≡ form

-- each of them is one
abbrev pub NormalForms : List (List ℕ) → Type 0
NormalForms forms = (form : List ℕ) → Memᴰ form forms → NormalForm form

unfoldable pub end_to_end : List (List ℕ) → List ℕ
end_to_end forms = gather (λ form. form) forms

-- the segments after the first UNZ
unfoldable pub after_trailer : List Segment → List Segment
after_trailer [] = []
after_trailer (g ∷ gs) = if is Unz (kind_of g) then gs else after_trailer gs

-- Where the first interchange of a file ends: where the first segment after UNZ begins, or at the file's end. The file is read on
-- with the first interchange's characters, so that the next one's advice is the beginning of that segment.
unfoldable pub form_end : List ℕ → ℕ
form_end file = maybe (length file) start (at (after_trailer (segments_of file)) 0)

-- the file cut after each interchange, n times at most
unfoldable pub cut_up_to : ℕ → List ℕ → List (List ℕ)
cut_up_to zero file = []
cut_up_to (suc n) [] = []
cut_up_to (suc n) (b ∷ bs) = take (form_end (b ∷ bs)) (b ∷ bs) ∷ cut_up_to n (drop (form_end (b ∷ bs)) (b ∷ bs))

-- cut as often as may be needed
unfoldable pub cut_forms : List ℕ → List (List ℕ)
cut_forms file = cut_up_to (length file) file
