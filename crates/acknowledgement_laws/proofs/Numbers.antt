-- The numbers that the writer refuses with end at 16, so that 23 is never one of its own. Assumes nothing.
use Prim.Native.Nat.{ℕ, ◌≤◌}
use mathlib.Core.Path.{◌≡◌, refl, sym, subst, ◌∙◌}
use mathlib.Core.Bool.{Bool, true}
use mathlib.Core.List.{List, [], ◌∷◌, map, Memᴰ}
use mathlib.Core.Option.{some}
use lib.Dec.{leb}
use Rattle.lists.specs.Lists.{all, those}
use Rattle.lists.proofs.Texts.{and_left, and_right, and_both, all_append}
use Rattle.lists.proofs.Tests.{says_all, says_le}
use Rattle.refusals.specs.declared.Fault.{Fault}
use Rattle.refusals.specs.declared.Fault.TheVariants.{TooLong, UnusableAdvice, BufferShort, BadList, NeedsRelease}
use Rattle.refusals.specs.declared.Refusal.{Refusal}
use Rattle.refusals.specs.Refusals.{number, Stage, met, answering}
use Rattle.refusals.proofs.Lowest.{lowest_is}
use Rattle.refusals.proofs.Stages.{answering_some}
use Rattle.stages.specs.Stages.{places_of, brackets, brackets_in, bracketed, stages_in, later_stages}
use Rattle.operations.specs.Judge.{short_for}
use Rattle.operations.specs.Write.{write_stages, write_refusal}

-- what holds of all that is met holds of what answers
pub answering_all : (t : Refusal → Bool) (stages : List Stage) (r : Refusal) → all (all t) stages ≡ true → answering stages ≡ some r → t r ≡ true
answering_all t stages r h e =
    let (before, stage, after, split, earlier, low) = answering_some stages r e in
    let there : Memᴰ stage stages = subst (Memᴰ stage) (sym split) (mathlib.Core.List.Memᴰ.append_right before (mathlib.Core.List.Memᴰ.head refl)) in
    let all-stage : all t stage ≡ true = (says_all (all t) (λ x. (λ k. k, λ k. k)) stages).0 h stage there in
    (says_all t (λ x. (λ k. k, λ k. k)) stage).0 all-stage r (lowest_is stage r low).met

abbrev up_to16 : Refusal → Bool
up_to16 r = leb (number r.fault) 16

of_fault : (f : Fault) → leb (number f) 16 ≡ true → (places : List ℕ) → all up_to16 (met f places) ≡ true
unfolding met all
of_fault f h [] = refl
of_fault f h (p ∷ ps) = and_both (leb (number f) 16) (all up_to16 (met f ps)) h (of_fault f h ps)

-- of the refusals of a stage
of_bracket : (s : List ℕ) (faults : List Fault) → all (λ f. leb (number f) 16) faults ≡ true → all up_to16 (bracketed s faults) ≡ true
unfolding bracketed all
of_bracket s [] h = refl
of_bracket s (f ∷ []) h = of_fault f (and_left (leb (number f) 16) true h) (places_of f s)
of_bracket s (f ∷ g ∷ faults) h =
    let rest : Bool = all (λ f. leb (number f) 16) (g ∷ faults) in
    all_append up_to16 (met f (places_of f s)) (bracketed s (g ∷ faults))
    ∙ and_both (all up_to16 (met f (places_of f s))) (all up_to16 (bracketed s (g ∷ faults)))
    (of_fault f (and_left (leb (number f) 16) rest h) (places_of f s)) (of_bracket s (g ∷ faults) (and_right (leb (number f) 16) rest h))

of_brackets : (s : List ℕ) (bs : List (List Fault)) → all (all (λ f. leb (number f) 16)) bs ≡ true → all (all up_to16) (map (bracketed s) bs) ≡ true
unfolding all
of_brackets s [] h = refl
of_brackets s (b ∷ bs) h =
    let own : Bool = all (λ f. leb (number f) 16) b in
    let rest : Bool = all (all (λ f. leb (number f) 16)) bs in
    and_both (all up_to16 (bracketed s b)) (all (all up_to16) (map (bracketed s) bs))
    (of_bracket s b (and_left own rest h)) (of_brackets s bs (and_right own rest h))

later_numbers : (s : List ℕ) → all (all up_to16) (later_stages s) ≡ true
unfolding later_stages stages_in brackets_in brackets those all
later_numbers s = of_brackets s (brackets_in 3 13) refl

pub writer_number : (service bytes table output : List ℕ) (r : Refusal) → write_refusal service bytes table output ≡ some r → number r.fault ≤ 16
unfolding write_refusal write_stages short_for all
writer_number service bytes table output r h =
    (says_le (number r.fault) 16).0
    (answering_all up_to16 (write_stages service bytes table output) r
    (and_both _ _ (of_fault BadList refl _)
    (and_both _ _ (of_fault UnusableAdvice refl _)
    (and_both _ _ (of_fault NeedsRelease refl _)
    (and_both _ _ (of_fault TooLong refl _)
    (and_both _ _ (of_fault BufferShort refl _) (later_numbers _))))))
    h)
