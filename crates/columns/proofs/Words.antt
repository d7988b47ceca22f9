-- The definitions held against the request's words, for every value and every input. Assumes nothing.
use Prim.Native.Nat.{ℕ, ◌≤◌, ◌<◌}
use mathlib.Core.Path.{◌≡◌, ◌∙◌}
use mathlib.Core.Bool.{true, not}
use mathlib.Core.List.Memᴰ
use mathlib.Core.List.{List, [], ◌∷◌, ◌++◌, Memᴰ}
use mathlib.Core.Logic.{◌⊎◌, inl, inr, ⊎_elim, ◌↔◌}
use mathlib.Core.Option.{none, some}
use lib.ListN.{length, drop}
use Rattle.lists.specs.Lists.{member, maybe}
use Rattle.lists.proofs.Tests.{Says, says_not, says_all, says_member, says_as}
use Rattle.refusals.specs.declared.Fault.TheVariants.{BufferShort}
use Rattle.refusals.specs.declared.Refusal.{Refusal}
use Rattle.refusals.specs.Refusals.{Stage, answering}
use Rattle.values.specs.Spelling.{Bytes}
use Rattle.stages.specs.Stages.{refusal_of}
use Rattle.answers.specs.Answers.{given}
use Rattle.operations.specs.Judge.{short_for, stored_in, unless_refused}
use Rattle.operations.proofs.Answered.{input_answers, last_answers, short_answers, room_answers}
use Rattle.columns.specs.Lines.{fits_line}
use Rattle.columns.specs.Operations.{export_text, export_refusal, exports, export_buffer}

-- ---- values

-- a value holds "no tab, carriage return or line feed", and every other byte may stand in it
pub fits_line_lem : (value : Bytes)
    → (fits_line value ≡ true) ↔ ((b : ℕ) → Memᴰ b value → ((b ≡ 9) ⊎ ((b ≡ 13) ⊎ (b ≡ 10))) → ⊥)
unfolding fits_line
fits_line_lem value = says_all (λ b. not (member b (9 ∷ 13 ∷ 10 ∷ []))) apart value
  where
    apart : (b : ℕ) → Says (not (member b (9 ∷ 13 ∷ 10 ∷ []))) (((b ≡ 9) ⊎ ((b ≡ 13) ⊎ (b ≡ 10))) → ⊥)
    apart b =
        says_not (member b (9 ∷ 13 ∷ 10 ∷ []))
        (says_as (says_member b (9 ∷ 13 ∷ 10 ∷ []))
        (λ m. ⊎_elim inl (λ k. inr (⊎_elim inl (λ l. inr (Memᴰ.eq_of_singleton l)) (Memᴰ.cases_cons k))) (Memᴰ.cases_cons m))
        (⊎_elim Memᴰ.head (λ k. Memᴰ.tail (⊎_elim Memᴰ.head (λ e. Memᴰ.tail (Memᴰ.head e)) k))))

-- ---- export

module _ (buffer s : List ℕ) where
  abbrev last : List Stage
  last = short_for (export_text s) buffer ∷ []

  -- "Export has Judge's refusals,"
  pub judged_first : {r : Refusal} → refusal_of s ≡ some r → export_refusal buffer s ≡ some r
  unfolding export_refusal
  judged_first e = input_answers s last e

  module _ (accepted : refusal_of s ≡ none) where
    -- "then 14", at the length that is needed
    pub export_short : length buffer < length (export_text s)
        → export_refusal buffer s ≡ some (record { fault = BufferShort; place = length (export_text s) })
    unfolding export_refusal
    export_short h = last_answers s last accepted ∙ short_answers (export_text s) buffer [] h

    -- and no other: the text stands in the front of the buffer, of which the rest keeps its values
    pub exported : length (export_text s) ≤ length buffer
        → (export_refusal buffer s ≡ none)
        × (exports buffer s ≡ given (length (export_text s) ∷ []))
        × (export_buffer buffer s ≡ export_text s ++ drop (length (export_text s)) buffer)
    unfolding export_refusal exports export_buffer maybe unless_refused stored_in answering
    exported h =
        let passes : export_refusal buffer s ≡ none = last_answers s last accepted ∙ room_answers (export_text s) buffer [] h in
        (passes, rw passes, rw passes)
