-- Request 2026-11: what an acknowledgement is to whoever reads it. Each field of `Acknowledgements` is a theorem;
-- `proofs/Theorems.antt` proves the record. Assumes nothing.
use Rattle.std.specs.Prelude.{ℕ, ◌≤◌, ◌≡◌, ◌↔◌, List, [], ◌∷◌, ◌++◌, length, take, drop, replicate}
use Rattle.std.proofs.Math.Option.{none, some}
use Rattle.lists.specs.Lists.{text, is_empty, at}
use Rattle.characters.specs.Characters.{spelled_out, characters_of}
use Rattle.refusals.specs.declared.Refusal.{Refusal}
use Rattle.values.specs.Trimming.{trim_element, trim_segment}
use Rattle.stages.specs.Contents.{contents, normal_form}
use Rattle.stages.specs.Stages.{refusal_of}
use Rattle.answers.specs.Answers.{given, refused, accepted}
use Rattle.operations.specs.Judge.{figures_of, judge}
use Rattle.operations.specs.Read.{value_bytes, value_table, read, read_bytes, read_table}
use Rattle.operations.specs.ValueList.{list_of, list_bytes, list_table, trim_list}
use Rattle.operations.specs.Write.{write, write_output}
use Rattle.acknowledgements.specs.Lent.{Lent, element_lent}
use Rattle.acknowledgements.specs.Received.{level_received, version_received, sender_of, recipient_of, reference_received, action_code}
use Rattle.acknowledgements.specs.Acknowledgement.{only, word, acknowledgement, acknowledgement_text, acknowledge_refusal, acknowledge, acknowledge_output}
use Rattle.acknowledgements.specs.Notions.{CannotBeAcknowledged, AnyBadLent}

-- What an acknowledgement that is not refused leaves to whoever reads its text.
pub record Acknowledged (s : List ℕ) (l : Lent) (output : List ℕ) (written : List ℕ) : Type 0 where
  -- the answer is the text's length, and the text stands in the front of the output, of which the rest keeps its values,
  pub answers : acknowledge s l output ≡ given (length written ∷ [])
  pub stored : take (length written) (acknowledge_output s l output) ≡ written
  pub left : acknowledge_output s l output ≡ written ++ drop (length written) output
  -- "Our reader accepts the text": five segments, one message, no group; with the received one's "mark and normal-form service characters",
  pub accepts : judge written ≡ accepted (figures_of written)
  pub segments : (figures_of written).segments.0 ≡ 5
  pub messages : (figures_of written).messages.0 ≡ 1
  pub groups : (figures_of written).groups.0 ≡ 0
  pub characters : characters_of written ≡ characters_of (normal_form s)
  -- "and reads back these values, trimmed": the contents are the list put together, trimmed,
  pub same_contents : contents written ≡ trim_list (acknowledgement s l)
  -- and Read gives its bytes and its table, where its buffers hold them;
  pub bytes_back : value_bytes written ≡ list_bytes (list_of (trim_list (acknowledgement s l)))
  pub table_back : value_table written ≡ list_table (list_of (trim_list (acknowledgement s l)))
  pub reads : (buffer numbers : List ℕ) → length (value_bytes written) ≤ length buffer → length (value_table written) ≤ length numbers
      → (read buffer numbers written ≡ given (length (value_bytes written) ∷ length (value_table written) ∷ []))
      × (read_bytes buffer numbers written ≡ value_bytes written ++ drop (length (value_bytes written)) buffer)
      × (read_table buffer numbers written ≡ value_table written ++ drop (length (value_table written)) numbers)
  -- what is taken from the received interchange is read as it was there, what was lent is read trimmed: UNB has level and version, "sender
  -- and recipient exchanged", the date and time, the new reference,
  pub header : at (contents written) 0
      ≡ some (word "UNB"
      ∷ ((level_received s ∷ version_received s ∷ []) ∷ [])
      ∷ recipient_of s
      ∷ sender_of s
      ∷ trim_element is_empty (element_lent l.date)
      ∷ trim_element is_empty (element_lent l.reference)
      ∷ [])
  -- UNH "its reference `1`" and the message identification, unless that is one empty value,
  pub message : at (contents written) 1 ≡ some (trim_segment is_empty (word "UNH" ∷ word "1" ∷ element_lent l.message ∷ []))
  -- UCI "the received control reference, sender, recipient and an action code",
  pub report : at (contents written) 2 ≡ some (word "UCI" ∷ reference_received s ∷ sender_of s ∷ recipient_of s ∷ only (action_code s) ∷ [])
  -- UNT "segment count 3" and UNH's reference, UNZ its count and UNB's reference.
  pub trailer : at (contents written) 3 ≡ some (word "UNT" ∷ word "3" ∷ word "1" ∷ [])
  pub end : at (contents written) 4 ≡ some (word "UNZ" ∷ word "1" ∷ trim_element is_empty (element_lent l.reference) ∷ [])

pub record Acknowledgements : Type 0 where
  pub acknowledged : (s : List ℕ) (l : Lent) (output : List ℕ) → (acknowledge s l output).number ≡ 0
      → Acknowledged s l output (acknowledgement_text s l)
  -- "7 when accepted, 4 when refused": by 10, 11 or 12, since 23 answers for any other refusal
  pub accepted_seven : (s : List ℕ) → refusal_of s ≡ none → action_code s ≡ text "7"
  pub refused_four : (s : List ℕ) {r : Refusal} → refusal_of s ≡ some r → action_code s ≡ text "4"
  -- "23 at 0", for these and for nothing else, whatever is lent
  pub twenty_three : (s : List ℕ) (l : Lent) (output : List ℕ)
      → (acknowledge s l output ≡ record { number = 23; values = 0 ∷ [] }) ↔ CannotBeAcknowledged s
  -- "then 15 at 0", "then the writer's"
  pub fifteen : (s : List ℕ) (l : Lent) (output : List ℕ) → (CannotBeAcknowledged s → ⊥) → AnyBadLent l
      → acknowledge s l output ≡ record { number = 15; values = 0 ∷ [] }
  pub as_written : (s : List ℕ) (l : Lent) (output : List ℕ) → (CannotBeAcknowledged s → ⊥) → (AnyBadLent l → ⊥)
      → let service : List ℕ = spelled_out (characters_of (normal_form s)) in
      let bytes : List ℕ = list_bytes (list_of (acknowledgement s l)) in
      let table : List ℕ = list_table (list_of (acknowledgement s l)) in
      (acknowledge s l output ≡ write service bytes table output) × (acknowledge_output s l output ≡ write_output service bytes table output)
  -- "Refusals, output zero"
  pub refused_zero : (s : List ℕ) (l : Lent) (output : List ℕ) {r : Refusal} → acknowledge_refusal s l output ≡ some r
      → (acknowledge s l output ≡ refused r) × (acknowledge_output s l output ≡ replicate (length output) 0)
