-- What is met at places, and which stage answers: the first in which anything is met. Assumes nothing.
use Rattle.std.specs.Prelude.{if◌then◌else◌, Ok, Err}
use Prim.Native.Nat.{ℕ, ◌≤◌}
use mathlib.Core.Path.{◌≡◌, refl, sym, ap, ap₂, subst, ◌∙◌}
use mathlib.Core.Bool.{Bool, true, false, not, true≢false, false≢true}
use mathlib.Core.List.Memᴰ
use mathlib.Core.List.{List, [], ◌∷◌, ◌++◌, map, Memᴰ, IsChain, IsChain-cons-cons, cons≢nil}
use mathlib.Core.Option.{Option, none, some, some-ne-none}
use mathlib.Core.Logic.{⊎_elim, ◌↔◌}
use native.Mathlib.Omega.{arith}
use Rattle.lists.proofs.Texts.{if_false}
use Rattle.refusals.specs.declared.Fault.{Fault}
use Rattle.refusals.specs.declared.Refusal.{Refusal}
use Rattle.refusals.specs.Refusals.{Stage, met, place_if, is_lower, lower_of, lowest, or_else, answering, outcome}
use Rattle.refusals.proofs.Order.{key, not_lower}
use Rattle.refusals.proofs.Lowest.{lowest_none}

-- ---- what is met

-- a refusal is not met exactly where its test fails
pub place_none : (t : Bool) (p : ℕ) → (place_if t p ≡ []) ↔ (t ≡ false)
unfolding place_if
place_none true p = (λ e. absurd (cons≢nil e), λ e. absurd (true≢false e))
place_none false p = (λ e. refl, λ e. refl)

pub place_none_not : (t : Bool) (p : ℕ) → (place_if (not t) p ≡ []) ↔ (t ≡ true)
unfolding place_if
place_none_not true p = (λ e. refl, λ e. refl)
place_none_not false p = (λ e. absurd (cons≢nil e), λ e. absurd (false≢true e))

module _ (f : Fault) where
  pub met_append : (ps qs : List ℕ) → met f (ps ++ qs) ≡ met f ps ++ met f qs
  unfolding met
  met_append [] qs = refl
  met_append (p ∷ ps) qs = ap (λ (l : Stage). record { fault = f; place = p } ∷ l) (met_append ps qs)

  pub met_places : (ps : List ℕ) → map (λ r. r.place) (met f ps) ≡ ps
  unfolding met
  met_places [] = refl
  met_places (p ∷ ps) = ap (λ (l : List ℕ). p ∷ l) (met_places ps)

  -- nothing is met exactly where there is no place
  pub met_none : (ps : List ℕ) → (met f ps ≡ []) ↔ (ps ≡ [])
  unfolding met
  met_none ps = (λ e. sym (met_places ps) ∙ ap (map (λ (r : Refusal). r.place)) e, ap (met f))

  -- a refusal is met exactly where it has the fault, at one of the places
  pub met_member : (r : Refusal) (ps : List ℕ) → Memᴰ r (met f ps) ↔ ((r.fault ≡ f) × Memᴰ r.place ps)
  unfolding met
  met_member r ps = (there ps, λ m. back m.0 m.1)
    where
      there : (ps : List ℕ) → Memᴰ r (met f ps) → (r.fault ≡ f) × Memᴰ r.place ps
      there [] m = absurd (Memᴰ.not-nil m)
      there (p ∷ ps) (Memᴰ.head e) = (ap (λ (q : Refusal). q.fault) e, Memᴰ.head (ap (λ (q : Refusal). q.place) e))
      there (p ∷ ps) (Memᴰ.tail m) = ((there ps m).0, Memᴰ.tail (there ps m).1)

      back : {ps : List ℕ} → r.fault ≡ f → Memᴰ r.place ps → Memᴰ r (met f ps)
      back e (Memᴰ.head h) = Memᴰ.head (ap₂ (λ (g : Fault) (p : ℕ). record { fault = g; place = p }) e h)
      back e (Memᴰ.tail m) = Memᴰ.tail (back e m)

  -- of places that do not fall, the first is the lowest
  pub met_rising : (p : ℕ) (ps : List ℕ) → IsChain ◌≤◌ (p ∷ ps) → lowest (met f (p ∷ ps)) ≡ some (record { fault = f; place = p })
  unfolding met lowest lower_of key
  met_rising p [] h = refl
  met_rising p (q ∷ ps) h =
      let at : ℕ → Refusal = λ n. record { fault = f; place = n } in
      let chain : (p ≤ q) × IsChain ◌≤◌ (q ∷ ps) = IsChain-cons-cons.0 h in
      ap (lower_of (at p)) (met_rising q ps chain.1)
      ∙ ap some (if_false (is_lower (at q) (at p)) (at q) (at p) (not_lower (at q) (at p) (omega arith)))

  -- a stage of one refusal at one place answers it where its test passes
  pub lowest_if : (t : Bool) (p : ℕ) → lowest (met f (place_if t p)) ≡ (if t then some (record { fault = f; place = p }) else none)
  unfolding met place_if lowest lower_of
  lowest_if true p = refl
  lowest_if false p = refl

  -- and leaves the answer to the stages after it where the test fails
  pub one_place : {t b : Bool} (p : ℕ) (after : List Stage) → t ≡ b
      → answering (met f (place_if t p) ∷ after) ≡ (if b then some (record { fault = f; place = p }) else answering after)
  unfolding answering or_else
  one_place {t} {b} p after e =
      ap (λ (o : Option Refusal). or_else o (answering after)) (lowest_if t p)
      ∙ ap (λ (c : Bool). or_else (if c then some (record { fault = f; place = p }) else none) (answering after)) e
      ∙ step b
    where
      step : (c : Bool) → or_else (if c then some (record { fault = f; place = p }) else none) (answering after)
          ≡ (if c then some (record { fault = f; place = p }) else answering after)
      step true = refl
      step false = refl

-- ---- answers one after the other

pub or_else_none : (o : Option Refusal) → or_else o none ≡ o
unfolding or_else
or_else_none none = refl
or_else_none (some r) = refl

pub or_else_assoc : (a b c : Option Refusal) → or_else (or_else a b) c ≡ or_else a (or_else b c)
unfolding or_else
or_else_assoc none b c = refl
or_else_assoc (some r) b c = refl

-- there is no answer where neither answers
pub or_else_neither : (o p : Option Refusal) → or_else o p ≡ none → (o ≡ none) × (p ≡ none)
unfolding or_else
or_else_neither none p h = (refl, h)
or_else_neither (some r) p h = absurd (some-ne-none r h)

-- a stage's outcome gives its answer
pub failed_is : (o : Option Refusal) (r : Refusal) → outcome o ≡ Err r → o ≡ some r
unfolding outcome
failed_is none r e = cc
failed_is (some q) r e = cc

pub passed_is : (o : Option Refusal) → outcome o ≡ Ok tt → o ≡ none
unfolding outcome
passed_is none e = refl
passed_is (some q) e = cc

pub answering_append : (xs ys : List Stage) → answering (xs ++ ys) ≡ or_else (answering xs) (answering ys)
unfolding answering or_else
answering_append [] ys = refl
answering_append (x ∷ xs) ys = step (lowest x) (answering_append xs ys)
  where
    step : (o : Option Refusal) → answering (xs ++ ys) ≡ or_else (answering xs) (answering ys)
        → or_else o (answering (xs ++ ys)) ≡ or_else (or_else o (answering xs)) (answering ys)
    step none ih = ih
    step (some r) ih = refl

-- the first stage answers, and the others where nothing is met in it
pub answering_first : (stage : Stage) (stages : List Stage) (o : Option Refusal) → lowest stage ≡ o
    → answering (stage ∷ stages) ≡ or_else o (answering stages)
unfolding answering
answering_first stage stages o e = ap (λ (a : Option Refusal). or_else a (answering stages)) e

-- nothing is met in any of the stages
abbrev pub NoneMet : List Stage → Type 0
NoneMet stages = (stage : Stage) → Memᴰ stage stages → stage ≡ []

none_more : (stage : Stage) (stages : List Stage) → stage ≡ [] → NoneMet stages → NoneMet (stage ∷ stages)
none_more stage stages e h s m = ⊎_elim (λ k. k ∙ e) (h s) (Memᴰ.cases_cons m)

-- what an answer says: nothing is met in any stage, or r is the lowest of a stage before which nothing is met
abbrev pub Answered : List Stage → Option Refusal → Type 0
Answered stages none = NoneMet stages
Answered stages (some r) =
    (before : List Stage) × (stage : Stage) × (after : List Stage) × (stages ≡ before ++ stage ∷ after) × NoneMet before × (lowest stage ≡ some r)

pub answered : (stages : List Stage) → Answered stages (answering stages)
unfolding answering or_else
answered [] = λ stage m. absurd (Memᴰ.not-nil m)
answered (s ∷ ss) = step (lowest s) refl (answering ss) (answered ss)
  where
    step : (o : Option Refusal) → lowest s ≡ o → (p : Option Refusal) → Answered ss p → Answered (s ∷ ss) (or_else o p)
    step none e none h = none_more s ss ((lowest_none s).0 e) h
    step none e (some r) (before, stage, after, split, earlier, answer) =
        (s ∷ before, stage, after, ap (λ (l : List Stage). s ∷ l) split, none_more s before ((lowest_none s).0 e) earlier, answer)
    step (some r) e p h = ([], s, ss, refl, λ stage m. absurd (Memᴰ.not-nil m), e)

-- the refusal that is answered is the lowest of the first stage in which anything is met
pub answering_some : (stages : List Stage) (r : Refusal) → answering stages ≡ some r → Answered stages (some r)
answering_some stages r e = subst (Answered stages) e (answered stages)

-- no refusal is answered exactly where nothing is met in any stage
pub answering_none : (stages : List Stage) → (answering stages ≡ none) ↔ NoneMet stages
unfolding answering or_else
answering_none stages = (λ e. subst (Answered stages) e (answered stages), back stages)
  where
    back : (ss : List Stage) → NoneMet ss → answering ss ≡ none
    back [] h = refl
    back (s ∷ ss) h = ap₂ or_else ((lowest_none s).1 (h s (Memᴰ.head refl))) (back ss (λ t m. h t (Memᴰ.tail m)))
