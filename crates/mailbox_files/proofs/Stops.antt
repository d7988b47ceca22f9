-- What stops the cutting, against the stages of Judge. Assumes nothing.
use Rattle.std.specs.Prelude.{if◌then◌else◌}
use Prim.Native.Nat.{ℕ, ◌≤◌, ◌<◌}
use mathlib.Core.Path.{◌≡◌, refl, sym, ap, subst, ◌∙◌}
use mathlib.Core.Bool.{Bool, true, false, ◌&&◌}
use mathlib.Core.List.{List, [], ◌∷◌, map, Memᴰ}
use mathlib.Core.Option.{Option, none, some}
use native.Mathlib.Omega.{arith}
use lib.ListN.{length}
use lib.Dec.{leb}
use borrow.Author.Tests.{leb-true}
use Rattle.lists.specs.Lists.{is_empty, all, those, gather, maybe}
use Rattle.lists.proofs.Tests.{says_all, gathered}
use Rattle.lists.proofs.Texts.{and_left, and_right}
use Rattle.refusals.specs.declared.Fault.{Fault}
use Rattle.refusals.specs.declared.Refusal.{Refusal}
use Rattle.refusals.specs.Refusals.{number, Stage, met, lowest, or_else, answering}
use Rattle.refusals.proofs.Lowest.{lowest_is}
use Rattle.refusals.proofs.Stages.{met_member}
use Rattle.values.specs.Tokens.{Segment}
use Rattle.stages.specs.Places.{too_long}
use Rattle.stages.specs.Stages.{places_of, brackets, brackets_in, bracketed, stages_in, stages, refusal_of}
use Rattle.stages.proofs.Stages.{bracketed_is, run_on}
use Rattle.stages.proofs.Over.{within}
use Rattle.mailbox_files.specs.Pieces.{unz_of}
use Rattle.mailbox_files.specs.Stops.{stop_of}

-- where there is no byte, nothing stops it
pub no_byte : stop_of [] ≡ none
unfolding stop_of is_empty
no_byte = refl

-- what stops it answers for the stages 2 to 6
pub stop_answers : (s : List ℕ) (r : Refusal) → stop_of s ≡ some r → answering (stages_in s 2 6) ≡ some r
unfolding stop_of maybe
stop_answers s r = step (is_empty s) (unz_of s)
  where
    step : (b : Bool) (unz : Option Segment)
        → (if b then none else maybe (answering (stages_in s 2 6)) (λ g. none) unz) ≡ some r → answering (stages_in s 2 6) ≡ some r
    step true unz h = cc
    step false none h = h
    step false (some g) h = cc

pub unz_none : (s : List ℕ) (g : Segment) → unz_of s ≡ some g → stop_of s ≡ none
unfolding stop_of maybe
unz_none s g h = ap (λ (o : Option Segment). if is_empty s then none else maybe (answering (stages_in s 2 6)) (λ x. none) o) h ∙ either (is_empty s)
  where
    either : (b : Bool) → ◌≡◌ {A = Option Refusal} (if b then none else none) none
    either true = refl
    either false = refl

pub none_answers : (s : List ℕ) → 0 < length s → unz_of s ≡ none → stop_of s ≡ none → answering (stages_in s 2 6) ≡ none
unfolding stop_of maybe is_empty
none_answers [] l h k = absurd (omega arith)
none_answers (b ∷ bs) l h k = sym (ap (λ (o : Option Segment). maybe (answering (stages_in (b ∷ bs) 2 6)) (λ x. none) o) h) ∙ k

-- ---- the same for Judge

-- an input that is short enough is not refused by 1
short_first : (s : List ℕ) → length s ≤ 32000 → answering (stages_in s 1 1) ≡ none
unfolding stages_in brackets_in brackets those all bracketed places_of too_long answering or_else lowest met
short_first s l = rw ((within s 0).1 l) refl

pub judged : (s : List ℕ) (r : Refusal) → length s ≤ 32000 → answering (stages_in s 2 6) ≡ some r → refusal_of s ≡ some r
unfolding refusal_of stages stages_in brackets_in brackets those all or_else
judged s r l h =
    run_on s 1 1 13 refl
    ∙ ap (λ (o : Option Refusal). or_else o (answering (stages_in s 2 13))) (short_first s l)
    ∙ run_on s 2 6 13 refl
    ∙ ap (λ (o : Option Refusal). or_else o (answering (stages_in s 7 13))) h

-- ---- its number

-- 2 to 6
abbrev is_cut : Fault → Bool
is_cut f = leb 2 (number f) && leb (number f) 6

module _ (s : List ℕ) (r : Refusal) where
  -- what is met in a stage has the number of one of its faults
  stage_number : (faults : List Fault) → all is_cut faults ≡ true → lowest (bracketed s faults) ≡ some r → is_cut r.fault ≡ true
  stage_number faults h low =
      let inside : Memᴰ r (gather (λ f. met f (places_of f s)) faults) =
      subst (λ (l : Stage). Memᴰ r l) (bracketed_is s faults) (lowest_is (bracketed s faults) r low).met in
      let (f, mine, there) = (gathered (λ f. met f (places_of f s)) r faults).0 inside in
      ap is_cut ((met_member f r (places_of f s)).0 there).0 ∙ (says_all is_cut (λ g. (λ e. e, λ e. e)) faults).0 h f mine

  stages_number : (bs : List (List Fault)) → all (all is_cut) bs ≡ true → answering (map (bracketed s) bs) ≡ some r → is_cut r.fault ≡ true
  unfolding all answering or_else
  stages_number [] h e = cc
  stages_number (faults ∷ bs) h e =
      step (lowest (bracketed s faults)) refl e (stages_number bs (and_right (all is_cut faults) (all (all is_cut) bs) h))
    where
      step : (o : Option Refusal) → lowest (bracketed s faults) ≡ o → or_else o (answering (map (bracketed s) bs)) ≡ some r
          → (answering (map (bracketed s) bs) ≡ some r → is_cut r.fault ≡ true) → is_cut r.fault ≡ true
      step none d k rest = rest k
      step (some q) d k rest = stage_number faults (and_left (all is_cut faults) (all (all is_cut) bs) h) (d ∙ k)

  pub cut_number : answering (stages_in s 2 6) ≡ some r → (2 ≤ number r.fault) × (number r.fault ≤ 6)
  unfolding stages_in brackets_in brackets those all
  cut_number e =
      let h = stages_number (brackets_in 2 6) refl e in
      let low = and_left (leb 2 (number r.fault)) (leb (number r.fault) 6) h in
      let high = and_right (leb 2 (number r.fault)) (leb (number r.fault) 6) h in
      (leb-true 2 (number r.fault) low, leb-true (number r.fault) 6 high)
