-- What operations answer and leave in the buffers that they are lent, from what refuses the inputs and from the buffers' lengths.
-- Assumes nothing.
use Rattle.std.specs.Prelude.{if◌then◌else◌}
use Prim.Native.Nat.{ℕ, ◌≤◌, ◌<◌}
use mathlib.Core.Path.{◌≡◌, refl, ap, ap₂, ◌∙◌}
use mathlib.Core.List.{List, [], ◌∷◌, ◌++◌}
use mathlib.Core.Option.{Option, none, some}
use native.Mathlib.Nat.{zero-add}
use native.Mathlib.Omega.{arith}
use lib.ListN.{length, drop}
use lib.Seq.{sets, sets-eq}
use borrow.Author.Tests.{lt-ltb, le-ltb}
use Rattle.lists.specs.Lists.{maybe}
use Rattle.refusals.specs.declared.Fault.TheVariants.{BufferShort}
use Rattle.refusals.specs.declared.Refusal.{Refusal}
use Rattle.refusals.specs.Refusals.{Stage, or_else, answering}
use Rattle.refusals.proofs.Stages.{answering_append, one_place}
use Rattle.values.specs.Values.{Value}
use Rattle.stages.specs.Contents.{normal_form}
use Rattle.stages.specs.Stages.{stages, refusal_of}
use Rattle.answers.specs.Answers.{given, refused, refused_input, accepted}
use Rattle.operations.specs.Judge.{figures_of, judge, short_for, stored_in, unless_refused, normalise_refusal, normalise, normalise_buffer}
use Rattle.operations.specs.Compare.{are_same, compare}
use Rattle.operations.specs.Locate.{located, locate, part_offset, part_length}
use Rattle.operations.specs.Read.{value_bytes, value_table, read_refusal, read, read_bytes, read_table}

-- ---- Judge and Compare, by what refuses the inputs

pub judge_by : (s : List ℕ) (o : Option Refusal) → refusal_of s ≡ o → judge s ≡ maybe (accepted (figures_of s)) refused o
unfolding judge
judge_by s o e = ap (maybe (accepted (figures_of s)) refused) e

pub compare_by : (a b : List ℕ) (o p : Option Refusal) → refusal_of a ≡ o → refusal_of b ≡ p
    → compare a b ≡ maybe (maybe (given ((if are_same a b then 1 else 0) ∷ [])) (refused_input 2) p) (refused_input 1) o
unfolding compare
compare_by a b o p =
    ap₂ (λ (o p : Option Refusal). maybe (maybe (given ((if are_same a b then 1 else 0) ∷ [])) (refused_input 2) p) (refused_input 1) o)

-- ---- Locate's companion

-- the offset and the length of a part, from the values that are answered: 0 and 0 where there are not two
unfoldable pub part_in : List ℕ → ℕ × ℕ
part_in [] = (0, 0)
part_in (offset ∷ []) = (0, 0)
part_in (offset ∷ size ∷ rest) = (offset, size)

-- Locate's answer names the part that the companion hands back
pub part_told : (s : List ℕ) (segment element repeat component : ℕ)
    → part_in (locate s segment element repeat component).values
    ≡ (part_offset s segment element repeat component, part_length s segment element repeat component)
unfolding locate part_offset part_length given refused maybe part_in
part_told s segment element repeat component = step (refusal_of s) (located s segment element repeat component)
  where
    step : (o : Option Refusal) (v : Option Value)
        → part_in (maybe (maybe (given []) (λ x. given (x.offset ∷ x.spelled ∷ [])) v) refused o).values
        ≡ (maybe (maybe 0 (λ x. x.offset) v) (λ r. 0) o, maybe (maybe 0 (λ x. x.spelled) v) (λ r. 0) o)
    step none none = refl
    step none (some v) = refl
    step (some r) v = refl

-- ---- stages after those of the input

-- what refuses the input answers,
pub input_answers : (s : List ℕ) (last : List Stage) {r : Refusal} → refusal_of s ≡ some r → answering (stages s ++ last) ≡ some r
unfolding refusal_of or_else
input_answers s last e = answering_append (stages s) last ∙ ap (λ (o : Option Refusal). or_else o (answering last)) e

-- and where nothing does, the stages after them answer
pub last_answers : (s : List ℕ) (last : List Stage) → refusal_of s ≡ none → answering (stages s ++ last) ≡ answering last
unfolding refusal_of or_else
last_answers s last e = answering_append (stages s) last ∙ ap (λ (o : Option Refusal). or_else o (answering last)) e

-- a lent buffer that is too short answers with the length that is needed
pub short_answers : (new buffer : List ℕ) (last : List Stage) → length buffer < length new
    → answering (short_for new buffer ∷ last) ≡ some (record { fault = BufferShort; place = length new })
unfolding short_for
short_answers new buffer last h = one_place BufferShort (length new) last (lt-ltb (length buffer) (length new) h)

-- and one that is long enough leaves the answer to the stages after it
pub room_answers : (new buffer : List ℕ) (last : List Stage) → length new ≤ length buffer
    → answering (short_for new buffer ∷ last) ≡ answering last
unfolding short_for
room_answers new buffer last h = one_place BufferShort (length new) last (le-ltb (length buffer) (length new) h)

-- a text stored at the front is the text and what is beyond it
pub front_stored : (buffer text : List ℕ) → length text ≤ length buffer → sets buffer 0 text ≡ stored_in buffer text
unfolding stored_in
front_stored buffer text h =
    sets-eq text buffer 0 (omega arith) ∙ ap (λ (n : ℕ). text ++ drop n buffer) (zero-add (length text))

-- ---- Normalise

module _ (buffer s : List ℕ) where
  -- the input's refusal answers first, whatever the buffer is
  pub normalise_judged : {r : Refusal} → refusal_of s ≡ some r → normalise_refusal buffer s ≡ some r
  unfolding normalise_refusal
  normalise_judged e = input_answers s (short_for (normal_form s) buffer ∷ []) e

  -- what is answered and what the buffer holds, by what is refused
  pub normalise_refused : {r : Refusal} → normalise_refusal buffer s ≡ some r
      → (normalise buffer s ≡ refused r) × (normalise_buffer buffer s ≡ buffer)
  unfolding normalise normalise_buffer maybe unless_refused
  normalise_refused e = (rw e, rw e)

  pub normalise_given : normalise_refusal buffer s ≡ none
      → (normalise buffer s ≡ given (length (normal_form s) ∷ []))
      × (normalise_buffer buffer s ≡ normal_form s ++ drop (length (normal_form s)) buffer)
  unfolding normalise normalise_buffer maybe unless_refused stored_in
  normalise_given e = (rw e, rw e)

  normalise_passes : refusal_of s ≡ none → length (normal_form s) ≤ length buffer → normalise_refusal buffer s ≡ none
  unfolding normalise_refusal answering
  normalise_passes h fits = last_answers s (short_for (normal_form s) buffer ∷ []) h ∙ room_answers (normal_form s) buffer [] fits

  pub normalises : refusal_of s ≡ none → length (normal_form s) ≤ length buffer
      → (normalise buffer s ≡ given (length (normal_form s) ∷ []))
      × (normalise_buffer buffer s ≡ normal_form s ++ drop (length (normal_form s)) buffer)
  normalises h fits = normalise_given (normalise_passes h fits)

  pub form_short_lem : refusal_of s ≡ none → length buffer < length (normal_form s)
      → normalise_refusal buffer s ≡ some (record { fault = BufferShort; place = length (normal_form s) })
  unfolding normalise_refusal
  form_short_lem h short = last_answers s (short_for (normal_form s) buffer ∷ []) h ∙ short_answers (normal_form s) buffer [] short

-- ---- Read

module _ (buffer table s : List ℕ) where
  abbrev last : List Stage
  last = short_for (value_bytes s) buffer ∷ short_for (value_table s) table ∷ []

  -- what is answered and what both buffers hold, by what is refused
  pub read_refused : {r : Refusal} → read_refusal buffer table s ≡ some r
      → (read buffer table s ≡ refused r) × (read_bytes buffer table s ≡ buffer) × (read_table buffer table s ≡ table)
  unfolding read read_bytes read_table maybe unless_refused
  read_refused e = (rw e, rw e, rw e)

  pub read_given : read_refusal buffer table s ≡ none
      → (read buffer table s ≡ given (length (value_bytes s) ∷ length (value_table s) ∷ []))
      × (read_bytes buffer table s ≡ value_bytes s ++ drop (length (value_bytes s)) buffer)
      × (read_table buffer table s ≡ value_table s ++ drop (length (value_table s)) table)
  unfolding read read_bytes read_table maybe unless_refused stored_in
  read_given e = (rw e, rw e, rw e)

  -- the input's refusal answers,
  pub read_judged : {r : Refusal} → refusal_of s ≡ some r → read_refusal buffer table s ≡ some r
  unfolding read_refusal
  read_judged e = input_answers s last e

  module _ (h : refusal_of s ≡ none) where
    -- then "byte buffer before table"
    pub bytes_short : length buffer < length (value_bytes s)
        → read_refusal buffer table s ≡ some (record { fault = BufferShort; place = length (value_bytes s) })
    unfolding read_refusal
    bytes_short short = last_answers s last h ∙ short_answers (value_bytes s) buffer (short_for (value_table s) table ∷ []) short

    module _ (fits : length (value_bytes s) ≤ length buffer) where
      bytes_fit : read_refusal buffer table s ≡ answering (short_for (value_table s) table ∷ [])
      unfolding read_refusal
      bytes_fit = last_answers s last h ∙ room_answers (value_bytes s) buffer (short_for (value_table s) table ∷ []) fits

      pub table_short : length table < length (value_table s)
          → read_refusal buffer table s ≡ some (record { fault = BufferShort; place = length (value_table s) })
      table_short short = bytes_fit ∙ short_answers (value_table s) table [] short

      pub read_passes : length (value_table s) ≤ length table → read_refusal buffer table s ≡ none
      unfolding answering
      read_passes room = bytes_fit ∙ room_answers (value_table s) table [] room
