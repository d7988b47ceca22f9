-- The number that Judge gives an input is 0, or one of 1 to 13. Assumes nothing.
use Prim.Native.Nat.{ℕ, ◌≤◌}
use mathlib.Core.Path.{◌≡◌, refl, sym, ap, ◌∙◌, subst}
use mathlib.Core.Bool.{Bool, true, false}
use mathlib.Core.List.{List, [], ◌∷◌, map, Memᴰ}
use mathlib.Core.Option.{Option, none, some}
use native.Mathlib.Omega.{arith}
use lib.Dec.{leb}
use Rattle.lists.specs.Lists.{all, gather, maybe}
use Rattle.lists.proofs.Tests.{says_all, says_le, gathered}
use Rattle.lists.proofs.Texts.{and_left, and_right}
use Rattle.refusals.specs.declared.Fault.{Fault}
use Rattle.refusals.specs.declared.Refusal.{Refusal}
use Rattle.refusals.specs.Refusals.{number, Stage, met, lowest, or_else, answering}
use Rattle.refusals.proofs.Lowest.{lowest_is}
use Rattle.refusals.proofs.Stages.{met_member}
use Rattle.stages.specs.Stages.{places_of, brackets, bracketed, stages, refusal_of}
use Rattle.stages.proofs.Stages.{bracketed_is}
use Rattle.answers.specs.Answers.{given, refused, accepted}
use Rattle.operations.specs.Judge.{figures_of, judge}
use Rattle.operations.specs.Compare.{is_accepted}

-- a fault that Judge may name
abbrev is_judged : Fault → Bool
is_judged f = leb (number f) 13

bracketed_numbers : all (all is_judged) brackets ≡ true
unfolding all brackets
bracketed_numbers = refl

module _ (s : List ℕ) (r : Refusal) where
  -- what is met in a stage has the number of one of its faults
  stage_number : (faults : List Fault) → all is_judged faults ≡ true → lowest (bracketed s faults) ≡ some r → number r.fault ≤ 13
  stage_number faults h low =
      let inside : Memᴰ r (gather (λ f. met f (places_of f s)) faults) =
      subst (λ (l : Stage). Memᴰ r l) (bracketed_is s faults) (lowest_is (bracketed s faults) r low).met in
      let (f, mine, there) = (gathered (λ f. met f (places_of f s)) r faults).0 inside in
      let bound : number f ≤ 13 = (says_all is_judged (λ g. says_le (number g) 13) faults).0 h f mine in
      subst (λ (g : Fault). number g ≤ 13) (sym ((met_member f r (places_of f s)).0 there).0) bound

  stages_number : (bs : List (List Fault)) → all (all is_judged) bs ≡ true → answering (map (bracketed s) bs) ≡ some r → number r.fault ≤ 13
  unfolding all answering or_else
  stages_number [] h e = let z : ◌≡◌ {A = ℕ} 0 1 = cc in absurd (omega arith)
  stages_number (faults ∷ bs) h e =
      step (lowest (bracketed s faults)) refl e (stages_number bs (and_right (all is_judged faults) (all (all is_judged) bs) h))
    where
      step : (o : Option Refusal) → lowest (bracketed s faults) ≡ o → or_else o (answering (map (bracketed s) bs)) ≡ some r
          → (answering (map (bracketed s) bs) ≡ some r → number r.fault ≤ 13) → number r.fault ≤ 13
      step none d k rest = rest k
      step (some q) d k rest = stage_number faults (and_left (all is_judged faults) (all (all is_judged) bs) h) (d ∙ k)

  pub refused_number : refusal_of s ≡ some r → number r.fault ≤ 13
  unfolding refusal_of stages
  refused_number h = stages_number brackets bracketed_numbers h

-- ---- what Judge's number says

pub number_accepted : (s : List ℕ) → refusal_of s ≡ none → (judge s).number ≡ 0
unfolding judge maybe accepted given
number_accepted s h = ap (λ (o : Option Refusal). (maybe (accepted (figures_of s)) refused o).number) h

pub number_refused : (s : List ℕ) (r : Refusal) → refusal_of s ≡ some r → (judge s).number ≡ number r.fault
unfolding judge maybe refused
number_refused s r h = ap (λ (o : Option Refusal). (maybe (accepted (figures_of s)) refused o).number) h

pub is_accepted_lem : (s : List ℕ) → refusal_of s ≡ none → is_accepted s ≡ true
unfolding is_accepted maybe
is_accepted_lem s h = ap (maybe true (λ (r : Refusal). false)) h

pub not_accepted : (s : List ℕ) (r : Refusal) → refusal_of s ≡ some r → is_accepted s ≡ false
unfolding is_accepted maybe
not_accepted s r h = ap (maybe true (λ (r : Refusal). false)) h
