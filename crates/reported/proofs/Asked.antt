-- What the stages after 9 answer, as they are asked with what was found. Assumes nothing.
use Rattle.answers.specs.Answers.{Judged}
use Rattle.std.specs.Prelude.{if◌then◌else◌, Some, None, Result, Ok, Err}
use Rattle.std.specs.Result.{result_ok}
use Prim.Native.Nat.{ℕ}
use mathlib.Core.Path.{◌≡◌, refl, sym, ap, ◌∙◌}
use mathlib.Core.Bool.{Bool, true, false}
use mathlib.Core.List.{List}
use mathlib.Core.Option.{Option, none, some}
use native.Mathlib.Omega.{arith}
use Rattle.lists.specs.Lists.{maybe}
use Rattle.refusals.specs.declared.Refusal.{Refusal}
use Rattle.refusals.specs.Refusals.{answering, outcome, Outcome}
use Rattle.values.specs.Tokens.{Token, tokens_at}
use Rattle.stages.specs.Stages.{stages_in, refusal_of}
use Rattle.answers.specs.declared.Figures.{Figures}
use Rattle.operations.specs.Judge.{figures_of}
use Rattle.stage_opening.specs.declared.Found.{Found}
use Rattle.stage_opening.specs.Runs.{found_by}
use Rattle.stage_walks.specs.Walks.{controlled}
use Rattle.stage_walks.proofs.Walks.{controlled_answers}
use Rattle.acknowledgements.specs.Received.{has_action_code, cannot_be_acknowledged}
use Rattle.judge.specs.Judging.{judged}
use Rattle.judge.proofs.Bodies.{body_tokens_lem}
use Rattle.reported.specs.declared.Standing.{Standing}
use Rattle.reported.specs.Reporting.{standing_by, standing_with, standing_in, standing_of}
use Rattle.reported.proofs.Pieces.{unreportable_by}

module _ (s : List ℕ) {found : Found} (e : found ≡ found_by 9 s) where
  pub control_answer : {stage : Outcome} → stage ≡ outcome (controlled (tokens_at found.characters s found.start))
      → stage ≡ outcome (answering (stages_in s 10 12))
  control_answer h = h ∙ ap (λ (ts : List Token). outcome (controlled ts)) (body_tokens_lem s 9 e) ∙ ap outcome (sym (controlled_answers s))

  -- what was found is the input's own
  pub reported_found : {action : ℕ} {x : Standing} → x ≡ standing_by found action → Some x ≡ Some (standing_with s action)
  unfolding found_by
  reported_found {action} d = ap Some (d ∙ ap (λ (f : Found). standing_by f action) e)

module _ (s : List ℕ) {o : Option Refusal} {answer : Judged} (e : answer ≡ judged s o) where
  pub form_judged : {r : Refusal} → answer ≡ Err r → o ≡ some r
  unfolding judged maybe
  form_judged {r} d = step o (sym e ∙ d)
    where
      step : (o : Option Refusal) → maybe (Ok (figures_of s)) Err o ≡ Err r → o ≡ some r
      step none h = cc
      step (some q) h = cc

  pub form_accepted : {i : Figures} → answer ≡ Ok i → o ≡ none
  unfolding judged maybe
  form_accepted {i} d = step o (sym e ∙ d)
    where
      step : (o : Option Refusal) → maybe (Ok (figures_of s)) Err o ≡ Ok i → o ≡ none
      step none h = cc
      step (some q) h = cc

-- a stage that refuses has no value, and one that passes has
pub no_value : {A : Type 0} (o : Result A Refusal) → result_ok o ≡ None → (r : Refusal) × (o ≡ Err r)
no_value (Ok x) e = cc
no_value (Err r) e = (r, refl)

pub has_value : {A : Type 0} (o : Result A Refusal) {x : A} → result_ok o ≡ Some x → o ≡ Ok x
has_value (Ok y) e = cc
has_value (Err r) e = cc

-- what is known of the standing that is told
module _ (s : List ℕ) where
  pub unreported_is : standing_of s ≡ None → cannot_be_acknowledged s ≡ true
  unfolding standing_of
  unreported_is h = step (has_action_code (refusal_of s)) refl h
    where
      step : (b : Bool) → has_action_code (refusal_of s) ≡ b → (if b then Some (standing_in s) else None) ≡ None → cannot_be_acknowledged s ≡ true
      step true e k = cc
      step false e k = unreportable_by s e refl refl refl

  pub reported_is : {x : Standing} → standing_of s ≡ Some x → (has_action_code (refusal_of s) ≡ true) × (x ≡ standing_in s)
  unfolding standing_of
  reported_is {x} h = step (has_action_code (refusal_of s)) refl h
    where
      step : (b : Bool) → has_action_code (refusal_of s) ≡ b → (if b then Some (standing_in s) else None) ≡ Some x
          → (has_action_code (refusal_of s) ≡ true) × (x ≡ standing_in s)
      step true e k = (e, cc)
      step false e k = let z : ◌≡◌ {A = ℕ} 0 1 = cc in absurd (omega arith)
