-- What is stored is the text of the contents, with the rest of the buffer as it was; and what is answered. Assumes nothing.
use Rattle.std.specs.Prelude.{Ok, Err}
use Prim.Native.Nat.{ℕ, ◌+◌, ◌≤◌, ◌<◌}
use mathlib.Core.Path.{◌≡◌, refl, sym, ap, ap₂, ◌∙◌}
use mathlib.Core.List.{List, [], ◌∷◌}
use mathlib.Core.Option.{none, some}
use native.Mathlib.Omega.{arith}
use lib.ListN.{length, length-append}
use lib.Seq.{sets}
use Rattle.characters.specs.declared.Characters.{Characters}
use Rattle.characters.specs.Characters.{characters_of, body_start, body}
use Rattle.refusals.specs.declared.Fault.TheVariants.{BufferShort}
use Rattle.refusals.specs.declared.Refusal.{Refusal}
use Rattle.refusals.specs.Refusals.{answering}
use Rattle.lists.specs.Lists.{maybe}
use Rattle.values.specs.Tokens.{tokens_at}
use Rattle.stages.specs.Contents.{body_tokens, segments_of, contents}
use Rattle.stages.specs.Stages.{refusal_of}
use Rattle.emission_laws.proofs.Cases.{reading_known}
use Rattle.normal_form_laws.proofs.Normal.{contents_shaped}
use Rattle.judge.proofs.Bodies.{accepted_ended}
use Rattle.answers.specs.Answers.{given, told_stored}
use Rattle.operations.specs.Judge.{short_for, unless_refused}
use Rattle.operations.proofs.Answered.{input_answers, last_answers, short_answers, room_answers, front_stored}
use Rattle.stage_walks.specs.Walks.{refuse}
use Rattle.storing.proofs.Stores.{stored_after}
use Rattle.columns.specs.Lines.{heading, line}
use Rattle.columns.specs.Operations.{export_text, export_refusal, exports, export_buffer}
use Rattle.columns.specs.Promises.{Exports}
use Rattle.export_columns.specs.Printing.{first, lines_rest, lines_of}
use Rattle.export_columns.proofs.Contents.{contents_lines}

-- ---- the text of an accepted interchange

module _ (s : List ℕ) (a : refusal_of s ≡ none) {c : Characters} {start : ℕ} (d : c ≡ characters_of s) (p : start ≡ body_start s) where
  -- the tokens that the code reads are the body's
  same_tokens : body_tokens s ≡ tokens_at c s start
  unfolding body_tokens body tokens_at
  same_tokens = ap₂ (λ (x : Characters) (n : ℕ). tokens_at x s n) (sym d) (sym p)

  pub text_is : export_text s ≡ lines_of (tokens_at c s start)
  unfolding export_text contents segments_of body_tokens
  text_is =
      contents_lines (body_tokens s) (accepted_ended s a) (reading_known (characters_of s) (body_start s) (body s)) (contents_shaped s a)
      ∙ ap lines_of same_tokens

  -- what was measured is what is needed
  pub text_needed : {n : ℕ} → n ≡ length (lines_of (tokens_at c s start)) → n ≡ length (export_text s)
  text_needed e = e ∙ sym (ap length text_is)

  -- the heading is stored, and the lines after it
  pub text_put : (b₀ : List ℕ) {b₁ b₂ : List ℕ} → b₁ ≡ sets b₀ 0 heading → b₂ ≡ sets b₁ 39 (lines_rest first (tokens_at c s start))
      → b₂ ≡ sets b₀ 0 (export_text s)
  unfolding lines_of heading line
  text_put b₀ x y = stored_after b₀ 0 heading (lines_rest first (tokens_at c s start)) x refl y ∙ ap (sets b₀ 0) (sym text_is)

-- there is room for both
module _ (s : List ℕ) (c : Characters) (start : ℕ) (buffer : List ℕ) {n : ℕ} (e : n ≡ length (lines_of (tokens_at c s start))) (h : n ≤ length buffer) where
  pub lines_fit : 39 + length (lines_rest first (tokens_at c s start)) ≤ length buffer
  unfolding lines_of heading line
  lines_fit = omega (arith, e, h, length-append heading (lines_rest first (tokens_at c s start)))

  pub heading_fits : length heading ≤ length buffer
  unfolding lines_of
  heading_fits = omega (arith, e, h, length-append heading (lines_rest first (tokens_at c s start)))

-- ---- what is answered, and what the buffer holds

module _ (buffer s : List ℕ) where
  -- a refusal answers, and the buffer is unchanged
  refuses : {r : Refusal} → export_refusal buffer s ≡ some r → Exports buffer s (Err r) buffer
  unfolding exports export_buffer maybe unless_refused told_stored
  refuses e = (sym (rw e), sym (rw e))

  pub judge_refuses : {r : Refusal} → refusal_of s ≡ some r → Exports buffer s (Err r) buffer
  unfolding export_refusal
  judge_refuses e = refuses (input_answers s (short_for (export_text s) buffer ∷ []) e)

  module _ (a : refusal_of s ≡ none) {n : ℕ} (e : n ≡ length (export_text s)) where
    pub short_refused : length buffer < n → Exports buffer s (Err (record { fault = BufferShort; place = n })) buffer
    unfolding export_refusal
    short_refused h =
        refuses
        (last_answers s (short_for (export_text s) buffer ∷ []) a
        ∙ short_answers (export_text s) buffer [] (omega (arith, e, h))
        ∙ ap (refuse BufferShort) (sym e))

    pub text_stored : {after : List ℕ} → n ≤ length buffer → after ≡ sets buffer 0 (export_text s) → Exports buffer s (Ok n) after
    unfolding exports export_buffer export_refusal answering maybe unless_refused told_stored
    text_stored h p =
        let fits : length (export_text s) ≤ length buffer = omega (arith, e, h) in
        let passes : export_refusal buffer s ≡ none =
        last_answers s (short_for (export_text s) buffer ∷ []) a ∙ room_answers (export_text s) buffer [] fits in
        (ap (λ (m : ℕ). given (m ∷ [])) e ∙ sym (rw passes), p ∙ front_stored buffer (export_text s) fits ∙ sym (rw passes))
