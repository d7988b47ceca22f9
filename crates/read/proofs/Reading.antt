-- What is stored is the value list, with the rest of both buffers as it was; and what is answered. Assumes nothing.
use Rattle.std.specs.Prelude.{Ok, Err}
use Prim.Native.Nat.{ℕ, ◌≤◌, ◌<◌}
use mathlib.Core.Path.{◌≡◌, sym, ap, ap₂, ◌∙◌}
use mathlib.Core.Bool.{false}
use mathlib.Core.List.{List, [], ◌∷◌}
use mathlib.Core.Option.{none, some}
use native.Mathlib.Omega.{arith}
use lib.ListN.{length}
use lib.Seq.{sets}
use Rattle.characters.specs.declared.Characters.{Characters}
use Rattle.characters.specs.Characters.{characters_of, body_start, body}
use Rattle.refusals.specs.declared.Fault.TheVariants.{BufferShort}
use Rattle.refusals.specs.declared.Refusal.{Refusal}
use Rattle.values.specs.Values.{bytes_of, ends_inside}
use Rattle.values.specs.Tokens.{tokens_at}
use Rattle.stages.specs.Contents.{body_tokens, segments_of, contents}
use Rattle.stages.specs.Stages.{refusal_of}
use Rattle.emission_laws.proofs.Cases.{reading_known}
use Rattle.stage_walks.specs.Walks.{refuse}
use Rattle.normal_form_laws.proofs.Normal.{contents_shaped}
use Rattle.judge.proofs.Bodies.{accepted_ended}
use Rattle.read_counts.specs.Tally.{table_of}
use Rattle.read_counts.proofs.Contents.{contents_bytes, contents_table}
use Rattle.answers.specs.Answers.{given, told_listed}
use Rattle.operations.specs.Judge.{stored_in}
use Rattle.contracts.specs.Promises.{Reads}
use Rattle.operations.specs.Read.{value_bytes, value_table, read_refusal}
use Rattle.operations.proofs.Answered.{front_stored, read_refused, read_given, read_judged, bytes_short, table_short, read_passes}

-- ---- the value list of an accepted interchange

module _ (s : List ℕ) (a : refusal_of s ≡ none) {c : Characters} {start : ℕ} (d : c ≡ characters_of s) (p : start ≡ body_start s) where
  whole : ends_inside (body_tokens s) ≡ false
  whole = accepted_ended s a

  -- the tokens that the code reads are the body's
  same_tokens : body_tokens s ≡ tokens_at c s start
  unfolding body_tokens body tokens_at
  same_tokens = ap₂ (λ (x : Characters) (at : ℕ). tokens_at x s at) (sym d) (sym p)

  pub bytes_are : value_bytes s ≡ bytes_of (tokens_at c s start)
  unfolding value_bytes contents segments_of body_tokens
  bytes_are =
      contents_bytes (body_tokens s) whole (reading_known (characters_of s) (body_start s) (body s)) (contents_shaped s a) ∙ ap bytes_of same_tokens

  pub table_is : value_table s ≡ table_of (tokens_at c s start)
  unfolding value_table contents segments_of body_tokens
  table_is =
      contents_table (body_tokens s) whole (reading_known (characters_of s) (body_start s) (body s)) (contents_shaped s a) ∙ ap table_of same_tokens

  -- what was tallied is what is needed
  pub bytes_needed : {n : ℕ} → n ≡ length (bytes_of (tokens_at c s start)) → n ≡ length (value_bytes s)
  bytes_needed e = e ∙ sym (ap length bytes_are)

  pub numbers_needed : {n : ℕ} → n ≡ length (table_of (tokens_at c s start)) → n ≡ length (value_table s)
  numbers_needed e = e ∙ sym (ap length table_is)

-- ---- what is answered, and what the buffers hold

module _ (buffer table s : List ℕ) where
  -- a refusal answers, and both buffers are unchanged
  refuses : {r : Refusal} → read_refusal buffer table s ≡ some r → Reads buffer table s (Err r) buffer table
  unfolding told_listed
  refuses e = let (told, bytes, numbers) = read_refused buffer table s e in (sym told, sym bytes, sym numbers)

  pub judge_refuses : {r : Refusal} → refusal_of s ≡ some r → Reads buffer table s (Err r) buffer table
  judge_refuses e = refuses (read_judged buffer table s e)

  module _ (a : refusal_of s ≡ none) where
    pub bytes_refused : {n : ℕ} → n ≡ length (value_bytes s) → length buffer < n
        → Reads buffer table s (Err (record { fault = BufferShort; place = n })) buffer table
    bytes_refused {n} e h = refuses (bytes_short buffer table s a (omega (arith, e, h)) ∙ ap (refuse BufferShort) (sym e))

    module _ {n : ℕ} (e : n ≡ length (value_bytes s)) (h : n ≤ length buffer) where
      pub table_refused : {m : ℕ} → m ≡ length (value_table s) → length table < m
          → Reads buffer table s (Err (record { fault = BufferShort; place = m })) buffer table
      table_refused {m} f k =
          refuses (table_short buffer table s a (omega (arith, e, h)) (omega (arith, f, k)) ∙ ap (refuse BufferShort) (sym f))

      -- both are stored
      pub list_stored : {m : ℕ} {bytes numbers bytesAfter tableAfter : List ℕ} → m ≡ length (value_table s) → m ≤ length table
          → value_bytes s ≡ bytes → value_table s ≡ numbers → bytesAfter ≡ sets buffer 0 bytes → tableAfter ≡ sets table 0 numbers
          → Reads buffer table s (Ok (record { bytes = n; numbers = m })) bytesAfter tableAfter
      unfolding told_listed stored_in
      list_stored {m} f k v w p q =
          let fits : length (value_bytes s) ≤ length buffer = omega (arith, e, h) in
          let room : length (value_table s) ≤ length table = omega (arith, f, k) in
          let (told, bytes, numbers) = read_given buffer table s (read_passes buffer table s a fits room) in (
            ap₂ (λ (x y : ℕ). given (x ∷ y ∷ [])) e f ∙ sym told,
            p ∙ ap (sets buffer 0) (sym v) ∙ front_stored buffer (value_bytes s) fits ∙ sym bytes,
            q ∙ ap (sets table 0) (sym w) ∙ front_stored table (value_table s) room ∙ sym numbers,
          )
