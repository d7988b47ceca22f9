-- What follows from the one list of the stages: where they answer nothing, none of their refusals is met; and a run of stages is its
-- first stages and the others after them. Assumes nothing.
use Prim.Native.Nat.{ℕ, suc}
use mathlib.Core.Path.{◌≡◌, refl, sym, ap, subst, ◌∙◌}
use mathlib.Core.Logic.{◌↔◌, ⊎_elim}
use mathlib.Core.Bool.{Bool, true, false, ◌||◌, false≢true}
use mathlib.Core.List.Memᴰ
use mathlib.Core.List.{List, [], ◌∷◌, ◌++◌, map, map-append, append-nil, append-eq-nil_iff, Memᴰ}
use mathlib.Core.Option.{none}
use lib.Dec.{eqb}
use borrow.Author.Tests.{eqb-true}
use Rattle.lists.specs.Lists.{all, any, those, gather}
use Rattle.refusals.specs.declared.Fault.{Fault}
use Rattle.refusals.specs.Refusals.{number, Stage, met, lowest, or_else, answering}
use Rattle.refusals.proofs.Order.{number_tells}
use Rattle.refusals.proofs.Stages.{NoneMet, met_none, answering_none, answering_append, or_else_none, or_else_neither}
use Rattle.stages.specs.Places.{too_long, unusable_advice}
use Rattle.stages.specs.Stages.{places_of, brackets, brackets_in, bracketed, stages_in, stages, later_stages, refusal_of}

-- what passes the test, where any does
some_passes : {A : Type 0} (t : A → Bool) (xs : List A) → any t xs ≡ true → (x : A) × Memᴰ x xs × (t x ≡ true)
unfolding any
some_passes t [] h = absurd (false≢true h)
some_passes {A} t (x ∷ xs) h = step (t x) refl h (some_passes t xs)
  where
    step : (b : Bool) → t x ≡ b → (b || any t xs) ≡ true → (any t xs ≡ true → (y : A) × Memᴰ y xs × (t y ≡ true))
        → (y : A) × Memᴰ y (x ∷ xs) × (t y ≡ true)
    step true e k rest = (x, Memᴰ.head refl, e)
    step false e k rest = let (y, m, p) = rest k in (y, Memᴰ.tail m, p)

-- the fault is one of those that the stages bracket
abbrev pub is_among : Fault → List (List Fault) → Bool
is_among f stages = any (any (λ g. eqb (number g) (number f))) stages

module _ (s : List ℕ) where
  -- a stage is what is met of each of its faults, gathered
  pub bracketed_is : (faults : List Fault) → bracketed s faults ≡ gather (λ f. met f (places_of f s)) faults
  unfolding bracketed gather
  bracketed_is [] = refl
  bracketed_is (f ∷ []) = sym (append-nil (met f (places_of f s)))
  bracketed_is (f ∷ g ∷ faults) = ap (λ (l : Stage). met f (places_of f s) ++ l) (bracketed_is (g ∷ faults))

  -- nothing is met in a stage exactly where none of its faults has a place
  bracketed_none : (faults : List Fault) → (bracketed s faults ≡ []) ↔ ((f : Fault) → Memᴰ f faults → places_of f s ≡ [])
  unfolding gather
  bracketed_none [] = (λ e f m. absurd (Memᴰ.not-nil m), λ h. bracketed_is [])
  bracketed_none (f ∷ faults) =
      let rest = bracketed_none faults in
      let is : bracketed s (f ∷ faults) ≡ met f (places_of f s) ++ bracketed s faults =
      bracketed_is (f ∷ faults) ∙ ap (λ (l : Stage). met f (places_of f s) ++ l) (sym (bracketed_is faults)) in
      let both = append-eq-nil_iff {p = met f (places_of f s)} {q = bracketed s faults} in (
        λ e g m.
            let parts = both.0 (sym is ∙ e) in
            ⊎_elim (λ k. ap (λ (h : Fault). places_of h s) k ∙ (met_none f (places_of f s)).0 parts.0) (rest.0 parts.1 g)
            (Memᴰ.cases_cons m),
        λ h. is ∙ both.1 ((met_none f (places_of f s)).1 (h f (Memᴰ.head refl)), rest.1 (λ g m. h g (Memᴰ.tail m))),
      )

  -- nothing is met in stages exactly where none of their faults has a place
  pub none_met : (bs : List (List Fault))
      → NoneMet (map (bracketed s) bs)
      ↔ ((faults : List Fault) → Memᴰ faults bs → (f : Fault) → Memᴰ f faults → places_of f s ≡ [])
  none_met bs = (
    λ h faults m. (bracketed_none faults).0 (h (bracketed s faults) (Memᴰ.map (bracketed s) m)),
    λ h stage m. let (faults, k, e) = Memᴰ.of_map (bracketed s) bs m in sym e ∙ (bracketed_none faults).1 (h faults k),
  )

  -- where no stage of a run answers, each of their refusals is met nowhere
  pub unmet : (first last : ℕ) → answering (stages_in s first last) ≡ none → (f : Fault) → is_among f (brackets_in first last) ≡ true
      → places_of f s ≡ []
  unfolding stages_in
  unmet first last e f h =
      let (faults, m, k) = some_passes (any (λ g. eqb (number g) (number f))) (brackets_in first last) h in
      let (g, n, d) = some_passes (λ x. eqb (number x) (number f)) faults k in
      subst (λ (x : Fault). places_of x s ≡ []) (number_tells g f (eqb-true (number g) (number f) d))
      ((none_met (brackets_in first last)).0 ((answering_none (map (bracketed s) (brackets_in first last))).0 e) faults m g n)

  -- where the input is accepted, each of 1 to 13 is
  pub accepted_unmet : refusal_of s ≡ none → (f : Fault) → is_among f brackets ≡ true → places_of f s ≡ []
  unfolding refusal_of stages stages_in brackets_in brackets those all
  accepted_unmet e f h = unmet 1 13 e f h

  -- a run of one stage answers what the stage does
  pub one_stage : (first last : ℕ) (faults : List Fault) → brackets_in first last ≡ faults ∷ []
      → answering (stages_in s first last) ≡ lowest (bracketed s faults)
  unfolding stages_in answering
  one_stage first last faults e =
      ap (λ (bs : List (List Fault)). answering (map (bracketed s) bs)) e ∙ or_else_none (lowest (bracketed s faults))

  -- a run is its first stages, and the others where those answer nothing
  module _ (first middle last : ℕ) (split : brackets_in first last ≡ brackets_in first middle ++ brackets_in (suc middle) last) where
    pub run_on : answering (stages_in s first last) ≡ or_else (answering (stages_in s first middle)) (answering (stages_in s (suc middle) last))
    unfolding stages_in
    run_on =
        ap (λ (bs : List (List Fault)). answering (map (bracketed s) bs)) split
        ∙ ap answering (map-append (bracketed s) (brackets_in first middle) (brackets_in (suc middle) last))
        ∙ answering_append (map (bracketed s) (brackets_in first middle)) (map (bracketed s) (brackets_in (suc middle) last))

    -- it answers nothing where neither does
    pub run_none : answering (stages_in s first last) ≡ none
        → (answering (stages_in s first middle) ≡ none) × (answering (stages_in s (suc middle) last) ≡ none)
    run_none e = or_else_neither (answering (stages_in s first middle)) (answering (stages_in s (suc middle) last)) (sym run_on ∙ e)

  -- ---- "3 to 13 as Judge would answer for the text"

  -- they answer as all stages do where 1 and 2 are not met
  pub later_answers : too_long s ≡ [] → unusable_advice s ≡ [] → answering (later_stages s) ≡ refusal_of s
  unfolding refusal_of stages later_stages stages_in brackets_in brackets those all bracketed places_of answering or_else lowest met
  later_answers e d = rw (e, d)

  pub later_none : refusal_of s ≡ none → answering (later_stages s) ≡ none
  unfolding refusal_of stages later_stages stages_in brackets_in brackets those all
  later_none e = (run_none 1 2 13 refl e).1
