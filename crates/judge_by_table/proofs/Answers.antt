-- What each step of the second Judge finds is what its stage of the request answers. Assumes nothing.
use Rattle.std.specs.Prelude.{Ok, Err}
use Prim.Native.Nat.{ℕ}
use mathlib.Core.Path.{◌≡◌, refl, sym, ap, ◌∙◌}
use mathlib.Core.Bool.{true}
use mathlib.Core.List.{List}
use mathlib.Core.Option.{Option, none, some}
use Rattle.lists.specs.Lists.{maybe}
use Rattle.refusals.specs.declared.Fault.TheVariants.{UnsoundTable, UnmatchedBody}
use Rattle.refusals.specs.declared.Refusal.{Refusal}
use Rattle.refusals.specs.Refusals.{or_else, answering, Outcome}
use Rattle.values.specs.Tokens.{Token, segments, tokens_at}
use Rattle.stages.specs.Contents.{segments_of}
use Rattle.stages.specs.Stages.{stages_in}
use Rattle.stage_opening.specs.declared.Found.{Found}
use Rattle.stage_opening.specs.Runs.{found_by}
use Rattle.answers.specs.Answers.{refused, accepted, told_judged, Judged}
use Rattle.operations.specs.Judge.{figures_of}
use Rattle.judge.specs.Judging.{judged}
use Rattle.judge.proofs.Bodies.{body_tokens_lem}
use Rattle.message_tables.specs.Soundness.{is_sound}
use Rattle.message_tables.specs.Structure.{structure_of}
use Rattle.message_table_laws.specs.Scanning.{first_fault}
use Rattle.message_table_laws.proofs.Scanning.{fault_lowest, sound_none, sound_first}
use Rattle.message_structures.specs.Judging.{judge_by_table}
use Rattle.message_structures.proofs.Answered.{unsound_answers, earlier_answers, passed_refusal}
use Rattle.structure_walks.specs.Walks.{first_stop}
use Rattle.structure_walks.proofs.First.{refusal_at, first_answers}
use Rattle.table_soundness.specs.Fitting.{found_at}
use Rattle.stage_structure.specs.Stopping.{stopped_at}

-- ---- 21

module _ (table s : List ℕ) {answer : Outcome} (e : answer ≡ found_at (first_fault table)) where
  pub table_refused : {r : Refusal} → answer ≡ Err r → told_judged (Err r) ≡ judge_by_table table s
  unfolding told_judged
  table_refused {r} d = step (first_fault table) refl (sym e ∙ d)
    where
      step : (o : Option ℕ) → first_fault table ≡ o → found_at o ≡ Err r → refused r ≡ judge_by_table table s
      step none f h = cc
      step (some n) f h =
          let q : r ≡ record { fault = UnsoundTable; place = n } = cc in
          let (m, least) = fault_lowest table n f in
          ap refused q ∙ sym (unsound_answers table s n m least)

  pub table_sound : answer ≡ Ok tt → is_sound table ≡ true
  table_sound d = (sound_first table).1 (step (first_fault table) (sym e ∙ d))
    where
      step : (o : Option ℕ) → found_at o ≡ Ok tt → o ≡ none
      step none h = refl
      step (some n) h = cc

module _ (table s : List ℕ) (sound : is_sound table ≡ true) where
  -- ---- 1 to 12

  pub earlier-refused : {r : Refusal} → answering (stages_in s 1 12) ≡ some r → told_judged (Err r) ≡ judge_by_table table s
  unfolding told_judged
  earlier-refused {r} e = sym (earlier_answers table s r (sound_none table sound) e).0

  -- ---- 22, then 13

  module _ (passed : answering (stages_in s 1 12) ≡ none) {found : Found} (f : found ≡ found_by 12 s) {answer : Outcome}
      (e : answer ≡ stopped_at (first_stop (structure_of table) (segments (tokens_at found.characters s found.start)))) where
    stop_is : answer ≡ stopped_at (first_stop (structure_of table) (segments_of s))
    unfolding segments_of
    stop_is = e ∙ ap (λ (ts : List Token). stopped_at (first_stop (structure_of table) (segments ts))) (body_tokens_lem s 12 f)

    answered : {o : Option ℕ} → first_stop (structure_of table) (segments_of s) ≡ o
        → maybe (accepted (figures_of s)) refused (or_else (refusal_at o) (answering (stages_in s 13 13))) ≡ judge_by_table table s
    unfolding judge_by_table
    answered d =
        sym
        (ap (maybe (accepted (figures_of s)) refused)
        (passed_refusal table s (sound_none table sound) passed
        ∙ first_answers table s sound passed (stages_in s 13 13)
        ∙ ap (λ (o : Option ℕ). or_else (refusal_at o) (answering (stages_in s 13 13))) d))

    pub bodies-refused : {r : Refusal} → answer ≡ Err r → told_judged (Err r) ≡ judge_by_table table s
    unfolding told_judged maybe or_else
    bodies-refused {r} d = step (first_stop (structure_of table) (segments_of s)) refl (sym stop_is ∙ d)
      where
        step : (o : Option ℕ) → first_stop (structure_of table) (segments_of s) ≡ o → stopped_at o ≡ Err r → refused r ≡ judge_by_table table s
        step none k h = cc
        step (some p) k h =
            let q : r ≡ record { fault = UnmatchedBody; place = p } = cc in
            ap refused q ∙ answered k

    pub length_answers : answer ≡ Ok tt → {r : Judged} → r ≡ judged s (answering (stages_in s 13 13)) → told_judged r ≡ judge_by_table table s
    unfolding told_judged judged maybe or_else
    length_answers d {r} h =
        ap told_judged h
        ∙ told (answering (stages_in s 13 13))
        ∙ answered (step (first_stop (structure_of table) (segments_of s)) (sym stop_is ∙ d))
      where
        told : (o : Option Refusal) → told_judged (judged s o) ≡ maybe (accepted (figures_of s)) refused o
        told none = refl
        told (some r) = refl

        step : (o : Option ℕ) → stopped_at o ≡ Ok tt → o ≡ none
        step none h = refl
        step (some p) h = cc
