-- Which number a run of stages answers, and what the runs up to 9, of 10 to 12 and of 13 say of the whole. Assumes nothing.
use Rattle.std.specs.Prelude.{if◌then◌else◌, Some, None}
use Prim.Native.Nat.{ℕ, ◌≤◌, ◌<◌}
use mathlib.Core.Path.{◌≡◌, refl, sym, ap, ap₂, subst, ◌∙◌}
use mathlib.Core.Bool.{Bool, true, false, ◌&&◌, ◌||◌, false≢true}
use mathlib.Core.List.{List, [], ◌∷◌, map, Memᴰ}
use mathlib.Core.Option.{Option, none, some}
use mathlib.Core.Logic.{◌⊎◌, inl, inr}
use native.Mathlib.Omega.{arith}
use lib.Dec.{eqb, leb}
use borrow.Author.Tests.{leb-true, ne_eqb, eqb-false}
use Rattle.lists.specs.Lists.{member, all, those, gather, maybe}
use Rattle.lists.proofs.Tests.{says_all, gathered}
use Rattle.lists.proofs.Texts.{and_left, and_right, and_both}
use Rattle.refusals.specs.declared.Fault.{Fault}
use Rattle.refusals.specs.declared.Refusal.{Refusal}
use Rattle.refusals.specs.Refusals.{number, Stage, met, lowest, or_else, answering}
use Rattle.refusals.proofs.Lowest.{lowest_is}
use Rattle.refusals.proofs.Stages.{met_member}
use Rattle.stages.specs.Stages.{places_of, brackets, brackets_in, bracketed, stages_in, stages, refusal_of}
use Rattle.stages.proofs.Stages.{bracketed_is, run_on}
use Rattle.acknowledgements.specs.Received.{has_action_code}
use Rattle.reported.specs.Reporting.{action_place, standing_with, standing_of}

-- ---- the number that answers

kept : {A : Type 0} (t : A → Bool) (xs : List A) → all t (those t xs) ≡ true
unfolding all those
kept t [] = refl
kept {A} t (x ∷ xs) = step (t x) refl (kept t xs)
  where
    step : (b : Bool) → t x ≡ b → all t (those t xs) ≡ true → all t (if b then x ∷ those t xs else those t xs) ≡ true
    step true e h = and_both (t x) (all t (those t xs)) e h
    step false e h = h

module _ (s : List ℕ) (r : Refusal) (first last : ℕ) where
  -- the fault's number lies from the first to the last
  abbrev within : Fault → Bool
  within f = leb first (number f) && leb (number f) last

  stage_number : (faults : List Fault) → all within faults ≡ true → lowest (bracketed s faults) ≡ some r → within r.fault ≡ true
  stage_number faults h low =
      let inside : Memᴰ r (gather (λ f. met f (places_of f s)) faults) =
      subst (λ (l : Stage). Memᴰ r l) (bracketed_is s faults) (lowest_is (bracketed s faults) r low).met in
      let (f, mine, there) = (gathered (λ f. met f (places_of f s)) r faults).0 inside in
      let bound : within f ≡ true = (says_all within (λ g. (λ e. e, λ e. e)) faults).0 h f mine in
      subst (λ (g : Fault). within g ≡ true) (sym ((met_member f r (places_of f s)).0 there).0) bound

  stages_number : (bs : List (List Fault)) → all (all within) bs ≡ true → answering (map (bracketed s) bs) ≡ some r → within r.fault ≡ true
  unfolding all answering or_else
  stages_number [] h e = let z : ◌≡◌ {A = ℕ} 0 1 = cc in absurd (omega arith)
  stages_number (faults ∷ bs) h e =
      step (lowest (bracketed s faults)) refl e (stages_number bs (and_right (all within faults) (all (all within) bs) h))
    where
      step : (o : Option Refusal) → lowest (bracketed s faults) ≡ o → or_else o (answering (map (bracketed s) bs)) ≡ some r
          → (answering (map (bracketed s) bs) ≡ some r → within r.fault ≡ true) → within r.fault ≡ true
      step none d k rest = rest k
      step (some q) d k rest = stage_number faults (and_left (all within faults) (all (all within) bs) h) (d ∙ k)

  pub range : answering (stages_in s first last) ≡ some r → (first ≤ number r.fault) × (number r.fault ≤ last)
  unfolding stages_in brackets_in
  range e =
      let h = stages_number (those (all within) brackets) (kept (all within) brackets) e in
      let n = number r.fault in
      (leb-true first n (and_left (leb first n) (leb n last) h), leb-true n last (and_right (leb first n) (leb n last) h))

-- ---- which numbers are reported

reported_of : (r : Refusal) → 10 ≤ number r.fault → number r.fault ≤ 12 → has_action_code (some r) ≡ true
unfolding has_action_code maybe member
reported_of r low high = step (eqb n 10) refl (eqb n 11) refl (eqb n 12) refl
  where
    n : ℕ
    n = number r.fault

    step : (a : Bool) → eqb (number r.fault) 10 ≡ a → (b : Bool) → eqb (number r.fault) 11 ≡ b → (c : Bool) → eqb (number r.fault) 12 ≡ c
        → (a || (b || (c || false))) ≡ true
    step true e b f c g = refl
    step false e true f c g = refl
    step false e false f true g = refl
    step false e false f false g =
        absurd (omega (arith, low, high, eqb-false (number r.fault) 10 e, eqb-false (number r.fault) 11 f, eqb-false (number r.fault) 12 g))

not_reported : (r : Refusal) → (number r.fault < 10) ⊎ (12 < number r.fault) → has_action_code (some r) ≡ false
unfolding has_action_code maybe member
not_reported r (inl h) =
    ap₂ (λ (a b : Bool). a || b) (ne_eqb (number r.fault) 10 (λ e. absurd (omega (arith, h, e))))
    (ap₂ (λ (a b : Bool). a || b) (ne_eqb (number r.fault) 11 (λ e. absurd (omega (arith, h, e))))
    (ap (λ (a : Bool). a || false) (ne_eqb (number r.fault) 12 (λ e. absurd (omega (arith, h, e))))))
not_reported r (inr h) =
    ap₂ (λ (a b : Bool). a || b) (ne_eqb (number r.fault) 10 (λ e. absurd (omega (arith, h, e))))
    (ap₂ (λ (a b : Bool). a || b) (ne_eqb (number r.fault) 11 (λ e. absurd (omega (arith, h, e))))
    (ap (λ (a : Bool). a || false) (ne_eqb (number r.fault) 12 (λ e. absurd (omega (arith, h, e))))))

-- ---- the runs

module _ (s : List ℕ) where
  -- 1 to 9, then 10 to 12, then 13
  in_turn_lem : refusal_of s ≡ or_else (answering (stages_in s 1 9)) (or_else (answering (stages_in s 10 12)) (answering (stages_in s 13 13)))
  unfolding refusal_of stages stages_in brackets_in brackets those all
  in_turn_lem = run_on s 1 9 13 refl ∙ ap (or_else (answering (stages_in s 1 9))) (run_on s 10 12 13 refl)

  by_runs : {a b c : Option Refusal} → answering (stages_in s 1 9) ≡ a → answering (stages_in s 10 12) ≡ b → answering (stages_in s 13 13) ≡ c
      → refusal_of s ≡ or_else a (or_else b c)
  by_runs d e f = in_turn_lem ∙ ap₂ or_else d (ap₂ or_else e f)

  -- what is said of each
  said : {o : Option Refusal} (b : Bool) → refusal_of s ≡ o → has_action_code o ≡ b
      → (if b then Some (standing_with s (action_place o)) else None) ≡ standing_of s
  unfolding standing_of
  said {o} b d e =
      ap (λ (t : Bool). if t then Some (standing_with s (action_place o)) else None) (sym e)
      ∙ ap (λ (p : Option Refusal). if has_action_code p then Some (standing_with s (action_place p)) else None) (sym d)

  pub early_refused : {r : Refusal} → answering (stages_in s 1 9) ≡ some r → None ≡ standing_of s
  unfolding or_else
  early_refused {r} h = said false (by_runs h refl refl) (not_reported r (inl (omega (arith, range s r 1 9 h))))

  module _ (early : answering (stages_in s 1 9) ≡ none) where
    pub control_refused : {r : Refusal} → answering (stages_in s 10 12) ≡ some r → Some (standing_with s 17) ≡ standing_of s
    unfolding or_else
    control_refused {r} h = let (low, high) = range s r 10 12 h in said true (by_runs early h refl) (reported_of r low high)

    pub form_refused : answering (stages_in s 10 12) ≡ none → {r : Refusal} → answering (stages_in s 13 13) ≡ some r → None ≡ standing_of s
    unfolding or_else
    form_refused e {r} h = said false (by_runs early e h) (not_reported r (inr (omega (arith, range s r 13 13 h))))

    pub none_refused : answering (stages_in s 10 12) ≡ none → answering (stages_in s 13 13) ≡ none → Some (standing_with s 18) ≡ standing_of s
    unfolding or_else has_action_code maybe
    none_refused e h = said true (by_runs early e h) refl

    -- 1 to 12 refuse nothing
    pub through_twelve : answering (stages_in s 10 12) ≡ none → answering (stages_in s 1 12) ≡ none
    unfolding brackets_in brackets those all or_else
    through_twelve e = run_on s 1 9 12 refl ∙ ap₂ or_else early e

  -- where it is reported, 1 to 9 refuse nothing
  pub reported_early : has_action_code (refusal_of s) ≡ true → answering (stages_in s 1 9) ≡ none
  unfolding or_else
  reported_early h = step (answering (stages_in s 1 9)) refl
    where
      step : (o : Option Refusal) → answering (stages_in s 1 9) ≡ o → o ≡ none
      step none e = refl
      step (some r) e =
          absurd (false≢true (sym (not_reported r (inl (omega (arith, range s r 1 9 e)))) ∙ ap has_action_code (sym (by_runs e refl refl)) ∙ h))
