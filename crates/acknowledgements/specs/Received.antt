-- Request 2026-11: what is taken from the received interchange, and when it cannot be acknowledged. Assumes nothing.
use Rattle.std.specs.Prelude.{ℕ, Bool, true, not, ◌||◌, List, [], ◌∷◌, if◌then◌else◌}
use Rattle.std.proofs.Math.Option.{Option, none}
use Rattle.lists.specs.Lists.{text, member, is_empty, at, maybe}
use Rattle.characters.specs.declared.Characters.{Characters}
use Rattle.characters.specs.Characters.{characters_of}
use Rattle.refusals.specs.declared.Refusal.{Refusal}
use Rattle.refusals.specs.Refusals.{number}
use Rattle.values.specs.Trimming.{is_idle, value_at}
use Rattle.values.specs.Spelling.{Bytes}
use Rattle.control_elements.specs.Control.{only_value, is_reference}
use Rattle.stages.specs.Contents.{contents, normal_characters, normal_repetition}
use Rattle.stages.specs.Stages.{refusal_of}
use Rattle.operations.specs.Compare.{is_accepted}

module _ (s : List ℕ) where
  -- UNB as it stands in the contents
  unfoldable pub unb_of : List (List (List Bytes))
  unb_of = maybe [] (λ unb. unb) (at (contents s) 0)

  -- its element with this number, whole: all repeats and all components that trimming leaves
  unfoldable pub element_of : ℕ → List (List Bytes)
  element_of position = maybe [] (λ element. element) (at unb_of position)

  -- "the received one's level, version": the first two components of UNB's element 1, also where it has more
  unfoldable pub level_received : Bytes
  level_received = maybe [] (λ value. value) (value_at unb_of 1 0 0)

  unfoldable pub version_received : Bytes
  version_received = maybe [] (λ value. value) (value_at unb_of 1 0 1)

  -- "the received control reference, sender, recipient"
  abbrev pub sender_of : List (List Bytes)
  sender_of = element_of 2

  abbrev pub recipient_of : List (List Bytes)
  recipient_of = element_of 3

  abbrev pub reference_received : List (List Bytes)
  reference_received = element_of 5

  -- "an action code: 7 when accepted, 4 when refused by 10, 11 or 12"; where another than these refused it, 23 answers first
  unfoldable pub action_code : Bytes
  action_code = if is_accepted s then text "7" else text "4"

  -- "mark and normal-form service characters": those of the received one's normal form, its mark, and `*` in the fifth place in version 4
  unfoldable pub characters_to_write : Characters
  characters_to_write = normal_characters (characters_of s).mark (normal_repetition (contents s))

-- it is accepted, or refused by 10, 11 or 12: there is an action code for it
unfoldable pub has_action_code : Option Refusal → Bool
has_action_code refusal = maybe true (λ r. member (number r.fault) (10 ∷ 11 ∷ 12 ∷ [])) refusal

-- "one empty value"
unfoldable pub is_one_empty : List (List Bytes) → Bool
is_one_empty element = is_idle (is_idle is_empty) element

-- 23: "for any other refusal of the received interchange, or if UNB's reference isn't as document 01 asks, or its sender or recipient is
-- one empty value"
unfoldable pub cannot_be_acknowledged : List ℕ → Bool
cannot_be_acknowledged s =
    not (has_action_code (refusal_of s))
    || not (is_reference (maybe none only_value (at (unb_of s) 5)))
    || is_one_empty (sender_of s)
    || is_one_empty (recipient_of s)
