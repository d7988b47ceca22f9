-- A stage that is gathered along a row whose places rise answers what a walk answers that stops at the first refusal.
-- Assumes nothing.
use Prim.Native.Nat.{ℕ, ◌≤◌, ◌<◌}
use mathlib.Core.Path.{◌≡◌, refl, ap, ◌∙◌}
use mathlib.Core.Bool.{Bool, true, false}
use mathlib.Core.List.Memᴰ
use mathlib.Core.List.{List, [], ◌∷◌, ◌++◌, Memᴰ}
use mathlib.Core.Option.{Option, none}
use mathlib.Core.Logic.{⊎_elim}
use native.Mathlib.Omega.{arith}
use Rattle.lists.specs.Lists.{gather}
use Rattle.refusals.specs.declared.Fault.{Fault}
use Rattle.refusals.specs.declared.Refusal.{Refusal}
use Rattle.refusals.specs.Refusals.{Stage, met, place_if, lowest, or_else}
use Rattle.refusals.proofs.Stages.{met_append}
use Rattle.refusals.proofs.Lowest.{lowest_rising}

-- ---- rows

-- every refusal of the stage lies from `low` on and below `high`
abbrev pub Within : ℕ → ℕ → Stage → Type 0
Within low high rs = (r : Refusal) → Memᴰ r rs → (low ≤ r.place) × (r.place < high)

-- the row goes up from `low` to `high`: each one of it lies, as P says, below a bound from which the next one goes on
pub data Climbs {A : Type 0} (P : ℕ → ℕ → A → Type 0) : ℕ → ℕ → List A → Type 0 where
  end : {low high : ℕ} → low ≤ high → Climbs P low high []
  on : {high : ℕ} {xs : List A} (low next : ℕ) (x : A) → low ≤ next → P low next x → Climbs P next high xs
      → Climbs P low high (x ∷ xs)

-- the first refusal that one of the row meets
unfoldable pub first_of : {A : Type 0} → (A → Option Refusal) → List A → Option Refusal
first_of meets [] = none
first_of meets (x ∷ xs) = or_else (meets x) (first_of meets xs)

-- a row ends no lower than it begins
pub climbs_up : {A : Type 0} {P : ℕ → ℕ → A → Type 0} {low high : ℕ} {xs : List A} → Climbs P low high xs → low ≤ high
climbs_up (end h) = h
climbs_up (on low next x l p rest) = let above = climbs_up rest in omega arith

-- `f` gives what is met in one of the row, and that lies where the one lies
module _ {A : Type 0} (P : ℕ → ℕ → A → Type 0) (f : A → Stage)
    (inside : (low high : ℕ) (x : A) → P low high x → Within low high (f x)) where
  -- what is gathered along a row lies where the row does
  pub gather_within : {low high : ℕ} {xs : List A} → Climbs P low high xs → Within low high (gather f xs)
  unfolding gather
  gather_within (end h) = λ r m. absurd (Memᴰ.not-nil m)
  gather_within (on low next x l p rest) =
      let above = climbs_up rest in
      let later = gather_within rest in
      λ r m. ⊎_elim (λ n. omega (arith, inside low next x p r n)) (λ n. omega (arith, later r n)) (Memᴰ.append_cases (f x) m)

  -- and its lowest is the first that is met along it
  pub lowest_row : {low high : ℕ} {xs : List A} → Climbs P low high xs → lowest (gather f xs) ≡ first_of (λ x. lowest (f x)) xs
  unfolding gather first_of lowest
  lowest_row (end h) = refl
  lowest_row (on {xs = xs} low next x l p rest) =
      lowest_rising (f x) (gather f xs) (λ r q m n. omega (arith, inside low next x p r m, gather_within rest q n))
      ∙ ap (or_else (lowest (f x))) (lowest_row rest)

-- ---- what is met where a test passes

module _ (f : Fault) where
  -- it lies at its place
  pub if_within : {low high : ℕ} (t : Bool) (p : ℕ) → low ≤ p → p < high → Within low high (met f (place_if t p))
  unfolding met place_if
  if_within true p l h = λ r m. omega (arith, ap (λ (q : Refusal). q.place) (Memᴰ.eq_of_singleton m))
  if_within false p l h = λ r m. absurd (Memᴰ.not-nil m)

  -- what is met at places that are gathered is gathered
  pub met_gather : {A : Type 0} (h : A → List ℕ) (xs : List A) → met f (gather h xs) ≡ gather (λ x. met f (h x)) xs
  unfolding met gather
  met_gather h [] = refl
  met_gather h (x ∷ xs) = met_append f (h x) (gather h xs) ∙ ap (λ (l : Stage). met f (h x) ++ l) (met_gather h xs)

-- two parts of a stage that lie within the same bounds
pub append_within : {low high : ℕ} (xs ys : Stage) → Within low high xs → Within low high ys → Within low high (xs ++ ys)
append_within xs ys h k = λ r m. ⊎_elim (h r) (k r) (Memᴰ.append_cases xs m)
