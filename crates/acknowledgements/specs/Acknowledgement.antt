-- Request 2026-11: the acknowledgement, what the operation answers, and what it leaves in the output. Assumes nothing.
use Rattle.std.specs.Prelude.{ℕ, List, [], ◌∷◌, length, replicate}
use Prim.Native.String.{String}
use Rattle.std.proofs.Math.Option.{Option}
use Rattle.lists.specs.Lists.{text, maybe}
use Rattle.characters.specs.Characters.{spelled_out}
use Rattle.refusals.specs.declared.Fault.TheVariants.{BadList, NoAcknowledgement}
use Rattle.refusals.specs.declared.Refusal.{Refusal}
use Rattle.refusals.specs.Refusals.{Stage, met, place_if, answering}
use Rattle.values.specs.Spelling.{Bytes, SegmentList}
use Rattle.answers.specs.Answers.{Answer, given, refused}
use Rattle.operations.specs.Judge.{stored_in, unless_refused}
use Rattle.operations.specs.ValueList.{Item, list_of, list_bytes, list_table}
use Rattle.operations.specs.Write.{written_text, write_stages}
use Rattle.acknowledgements.specs.Lent.{Lent, element_lent, any_bad_lent}
use Rattle.acknowledgements.specs.Received.{level_received, version_received, sender_of, recipient_of, reference_received, action_code, characters_to_write, cannot_be_acknowledged}

-- an element of one value
abbrev pub only : Bytes → List (List Bytes)
only value = (value ∷ []) ∷ []

-- an element of one value that is given as a text
abbrev pub word : String → List (List Bytes)
word value = only (text value)

-- "an interchange with the received one's level, version, .. sender and recipient exchanged, and one message of UNH, UCI, UNT, its
-- reference `1`. UCI carries the received control reference, sender, recipient and an action code .. The caller lends the date and time,
-- the new control reference and the message identification .. segment count 3"
unfoldable pub acknowledgement : List ℕ → Lent → SegmentList
acknowledgement s l =
    (word "UNB"
    ∷ ((level_received s ∷ version_received s ∷ []) ∷ [])
    ∷ recipient_of s ∷ sender_of s
    ∷ element_lent l.date ∷ element_lent l.reference
    ∷ [])
    ∷ (word "UNH" ∷ word "1" ∷ element_lent l.message ∷ [])
    ∷ (word "UCI" ∷ reference_received s ∷ sender_of s ∷ recipient_of s ∷ only (action_code s) ∷ [])
    ∷ (word "UNT" ∷ word "3" ∷ word "1" ∷ [])
    ∷ (word "UNZ" ∷ word "1" ∷ element_lent l.reference ∷ [])
    ∷ []

module _ (s : List ℕ) (l : Lent) where
  -- the list put together, as a value list: received elements trimmed and lent ones as lent (D1104)
  unfoldable pub items_of : List Item
  items_of = list_of (acknowledgement s l)

  -- what the writer writes of it, with the received one's "mark and normal-form service characters"
  unfoldable pub acknowledgement_text : List ℕ
  acknowledgement_text = written_text (spelled_out (characters_to_write s)) (list_bytes items_of) (list_table items_of)

module _ (s : List ℕ) (l : Lent) (output : List ℕ) where
  -- "23 at 0 ..; then 15 at 0 ..; then the writer's"
  unfoldable pub acknowledge_stages : List Stage
  acknowledge_stages =
      met NoAcknowledgement (place_if (cannot_be_acknowledged s) 0)
      ∷ met BadList (place_if (any_bad_lent l) 0)
      ∷ write_stages (spelled_out (characters_to_write s)) (list_bytes (items_of s l)) (list_table (items_of s l)) output

  unfoldable pub acknowledge_refusal : Option Refusal
  acknowledge_refusal = answering acknowledge_stages

  -- the length of the text, or a refusal
  unfoldable pub acknowledge : Answer
  acknowledge = maybe (given (length (acknowledgement_text s l) ∷ [])) refused acknowledge_refusal

  -- as the writer leaves it: bytes beyond the text keep their values; "Refusals, output zero"
  unfoldable pub acknowledge_output : List ℕ
  acknowledge_output = unless_refused acknowledge_refusal (stored_in output (acknowledgement_text s l)) (replicate (length output) 0)
