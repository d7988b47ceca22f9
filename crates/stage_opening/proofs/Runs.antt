-- What a caller learns from what a run of stages answers, and what the same stages and one more answer. Assumes nothing.
use Rattle.std.specs.Prelude.{Ok, Err}
use Prim.Native.Nat.{ℕ, suc}
use mathlib.Core.Path.{◌≡◌, refl, sym, ap, ap₂, ◌∙◌}
use mathlib.Core.List.{List, ◌++◌}
use mathlib.Core.Option.{Option, none, some}
use Rattle.lists.specs.Lists.{maybe}
use Rattle.refusals.specs.declared.Refusal.{Refusal}
use Rattle.refusals.specs.Refusals.{or_else, answering}
use Rattle.stages.specs.Stages.{brackets_in, stages_in}
use Rattle.stages.proofs.Stages.{run_on}
use Rattle.stage_opening.specs.declared.Found.{Found}
use Rattle.stage_opening.specs.Runs.{found_by, progress, Progress}

module _ (s : List ℕ) (first last : ℕ) {answer : Progress} (e : answer ≡ progress first last s) where
  -- it refuses
  pub refused_is : {r : Refusal} → answer ≡ Err r → answering (stages_in s first last) ≡ some r
  unfolding progress maybe
  refused_is {r} d = step (answering (stages_in s first last)) (sym e ∙ d)
    where
      step : (o : Option Refusal) → maybe (Ok (found_by last s)) Err o ≡ Err r → o ≡ some r
      step none h = cc
      step (some q) h = cc

  -- it passes, with what it found
  pub passed_is : {found : Found} → answer ≡ Ok found → (answering (stages_in s first last) ≡ none) × (found ≡ found_by last s)
  unfolding progress maybe
  passed_is {found} d = step (answering (stages_in s first last)) (sym e ∙ d)
    where
      step : (o : Option Refusal) → maybe (Ok (found_by last s)) Err o ≡ Ok found → (o ≡ none) × (found ≡ found_by last s)
      step none h = (refl, cc)
      step (some q) h = (cc, cc)

  -- with the stages up to a further number
  module _ (next : ℕ) (split : brackets_in first next ≡ brackets_in first last ++ brackets_in (suc last) next) where
    on : {o p : Option Refusal} → answering (stages_in s first last) ≡ o → answering (stages_in s (suc last) next) ≡ p
        → maybe (Ok (found_by next s)) Err (or_else o p) ≡ progress first next s
    unfolding progress
    on d h = sym (ap (maybe (Ok (found_by next s)) Err) (run_on s first last next split ∙ ap₂ or_else d h))

    -- they are not asked where something before them was refused
    pub refused_before : {r : Refusal} → answer ≡ Err r → Err r ≡ progress first next s
    unfolding maybe or_else
    refused_before d = on (refused_is d) refl

    -- and answer where nothing was
    pub asked_next : {found : Found} {o : Option Refusal} → answer ≡ Ok found → answering (stages_in s (suc last) next) ≡ o
        → maybe (Ok (found_by next s)) Err o ≡ progress first next s
    unfolding or_else
    asked_next d h = on (passed_is d).0 h
