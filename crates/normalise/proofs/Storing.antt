-- What is stored is the normal form, with the rest of the buffer as it was; and what is answered. Assumes nothing.
use Rattle.std.specs.Prelude.{Ok, Err}
use Prim.Native.Nat.{ℕ, ◌+◌, ◌≤◌, ◌<◌}
use mathlib.Core.Path.{◌≡◌, refl, sym, ap, ap₂, subst, ◌∙◌}
use mathlib.Core.Bool.{true}
use mathlib.Core.List.{List, [], ◌∷◌, ◌++◌}
use mathlib.Core.Option.{none, some}
use native.Mathlib.Nat.{zero-add}
use native.Mathlib.Omega.{arith}
use lib.ListN.{length, length-append}
use lib.Seq.{sets}
use Rattle.characters.specs.declared.Characters.{Characters}
use Rattle.lists.specs.Lists.{all, those}
use Rattle.characters.specs.Characters.{six_bytes, characters_of, body_start, body, advice_of, spelled_out}
use Rattle.refusals.specs.declared.Fault.TheVariants.{BufferShort}
use Rattle.refusals.specs.declared.Refusal.{Refusal}
use Rattle.refusals.specs.Limits.{most_bytes}
use Rattle.refusals.specs.Refusals.{answering}
use Rattle.values.specs.Tokens.{tokens_at}
use Rattle.values.specs.Trimming.{contents_of}
use Rattle.scanner.specs.Scan.{segment_at}
use Rattle.stages.specs.Contents.{body_tokens, segments_of, contents, normal_characters, normal_repetition, interchange, normal_form}
use Rattle.stages.specs.Stages.{brackets, brackets_in, stages_in, stages, refusal_of}
use Rattle.stages.proofs.Stages.{run_none}
use Rattle.normal_form_laws.specs.Forms.{form_characters}
use Rattle.emission_laws.specs.Emission.{nothing, emitted}
use Rattle.emission_laws.proofs.Theorems.{contents_emitted}
use Rattle.verbatim.specs.Verbatim.{faultless, visible}
use Rattle.stage_walks.specs.Walks.{refuse}
use Rattle.storing.proofs.Stores.{sets_append}
use Rattle.stage_opening.specs.declared.Found.{Found}
use Rattle.stage_opening.specs.Runs.{found_by}
use Rattle.judge.proofs.Bodies.{accepted_ended}
use Rattle.judge.proofs.Stages.{repetition_is, measurable, short_accepted}
use Rattle.answers.specs.Answers.{given, told_stored}
use Rattle.contracts.specs.Promises.{Normalises}
use Rattle.operations.specs.Judge.{short_for, stored_in, normalise_refusal}
use Rattle.operations.proofs.Answered.{input_answers, front_stored, normalise_refused, normalises, form_short_lem}

-- an advice has nine bytes
pub nine : (c : Characters) → length (advice_of c) ≡ 9
unfolding advice_of spelled_out
nine c = refl

-- ---- what is known of an accepted interchange

module _ (s : List ℕ) (a : refusal_of s ≡ none) {c : Characters} {start : ℕ} (d : c ≡ characters_of s) (p : start ≡ body_start s) where
  passed : answering (stages_in s 1 12) ≡ none
  unfolding refusal_of stages stages_in brackets_in brackets those all
  passed = (run_none s 1 12 13 refl a).0

  -- the fifth byte that its header gives
  abbrev fifth : Characters → ℕ → ℕ
  fifth x at = normal_repetition (contents_of (segment_at x s at) ∷ [])

  -- with that byte the characters are those of its normal form
  pub characters_are : {r : ℕ} → r ≡ fifth c start → normal_characters c.mark r ≡ form_characters s
  unfolding found_by
  characters_are e =
      ap₂ (λ (x : Characters) (r : ℕ). normal_characters x.mark r) d
      (e ∙ ap₂ fifth d p ∙ repetition_is s passed {found = found_by 12 s} refl refl)

  -- the contents may be spelled with these
  pub spellable : {n : Characters} → n ≡ form_characters s
      → (length s ≤ most_bytes) × (faultless (tokens_at c s start) ≡ true) × (visible (tokens_at c s start) ≡ true) × (32 ≤ n.repetition)
  unfolding found_by normal_characters six_bytes
  spellable {n} q =
      let (short, sound, seen, high) = measurable s passed {found = found_by 12 s} refl refl in
      let here = ap₂ (λ (x : Characters) (at : ℕ). tokens_at x s at) d p in
      let five : n.repetition ≡ fifth (characters_of s) (body_start s) =
      ap (λ (x : Characters). x.repetition) q ∙ sym (repetition_is s passed {found = found_by 12 s} refl refl) in
      (short, ap faultless here ∙ sound, ap visible here ∙ seen, subst (λ (r : ℕ). 32 ≤ r) (sym five) high)

module _ (buffer s : List ℕ) where
  -- a refusal answers, and the buffer is unchanged
  refuses : {r : Refusal} → normalise_refusal buffer s ≡ some r → Normalises buffer s (Err r) buffer
  unfolding told_stored
  refuses e = let (told, held) = normalise_refused buffer s e in (sym told, sym held)

  pub judge_refuses : {r : Refusal} → refusal_of s ≡ some r → Normalises buffer s (Err r) buffer
  unfolding normalise_refusal
  judge_refuses e = refuses (input_answers s (short_for (normal_form s) buffer ∷ []) e)

  module _ (a : refusal_of s ≡ none) where
    pub short_refuses : {n : ℕ} → n ≡ length (normal_form s) → length buffer < n
        → Normalises buffer s (Err (record { fault = BufferShort; place = n })) buffer
    short_refuses {n} e h = refuses (form_short_lem buffer s a (omega (arith, e, h)) ∙ ap (refuse BufferShort) (sym e))

    -- the normal form is the advice and what is emitted
    pub form_is : {c n : Characters} {start : ℕ} → c ≡ characters_of s → start ≡ body_start s → n ≡ form_characters s
        → normal_form s ≡ advice_of n ++ emitted (normal_characters c.mark n.repetition) nothing (tokens_at c s start)
    unfolding normal_form interchange contents segments_of body_tokens body tokens_at normal_characters six_bytes
    form_is {c} {n} {start} d p q =
        let form : Characters = form_characters s in
        ap (λ (l : List ℕ). advice_of form ++ l)
        (contents_emitted form (characters_of s) (body_start s) (body s) (accepted_ended s a))
        ∙ ap₂
        (λ (x : Characters) (at : ℕ). advice_of form ++ emitted (normal_characters x.mark form.repetition) nothing (tokens_at x s at))
        (sym d)
        (sym p)
        ∙ ap (λ (m : Characters). advice_of m ++ emitted (normal_characters c.mark m.repetition) nothing (tokens_at c s start)) (sym q)

    -- it is stored, and the rest of the buffer is as it was
    pub form_stored : {n : ℕ} (c : Characters) (text first after : List ℕ) → n ≡ length (normal_form s) → n ≤ length buffer
        → normal_form s ≡ advice_of c ++ text → first ≡ sets buffer 0 (advice_of c) → after ≡ sets first 9 text → Normalises buffer s (Ok n) after
    unfolding told_stored stored_in
    form_stored {n} c text first after e h w p q =
        let (told, held) = normalises buffer s a (omega (arith, e, h)) in (
          ap (λ (k : ℕ). given (k ∷ [])) e ∙ sym told,
          q
              ∙ ap₂ (λ (l : List ℕ) (i : ℕ). sets l i text) p (sym (nine c) ∙ sym (zero-add (length (advice_of c))))
              ∙ sym (sets_append buffer 0 (advice_of c) text)
              ∙ ap (sets buffer 0) (sym w)
              ∙ front_stored buffer (normal_form s) (omega (arith, e, h))
              ∙ sym held,
        )

-- the parts of a normal form fit where the whole does
pub parts_fit : (c : Characters) (text : List ℕ) {form : List ℕ} {n room : ℕ} → form ≡ advice_of c ++ text → n ≡ length form → n ≤ room
    → (9 ≤ room) × (9 + length text ≤ room)
parts_fit c text w e h = let sum = ap length w ∙ length-append (advice_of c) text in let advice = nine c in (omega arith, omega arith)

-- and the place after them is its length
pub parts_end : (c : Characters) (text : List ℕ) {form : List ℕ} {n : ℕ} → form ≡ advice_of c ++ text → n ≡ 9 + length text → n ≡ length form
parts_end c text w e = let sum = ap length w ∙ length-append (advice_of c) text in let advice = nine c in omega arith

-- where a bound says that it is not too long, for 13 and for the buffer, it may be stored
pub found_fits : (buffer s : List ℕ) → answering (stages_in s 1 12) ≡ none → {found : Found} → found ≡ found_by 12 s
    → {most : ℕ} → length (normal_form s) ≤ most → most ≤ most_bytes → most ≤ length buffer
    → (refusal_of s ≡ none) × (found.characters ≡ characters_of s) × (length (normal_form s) ≤ length buffer)
unfolding found_by
found_fits buffer s e d l m n = (short_accepted s e (omega arith), ap (λ (f : Found). f.characters) d, omega arith)
