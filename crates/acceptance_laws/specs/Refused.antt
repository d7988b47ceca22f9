-- Paper 01, "Refusals by number": what it means that an input is refused with a fault at a place. Assumes nothing.
use Rattle.std.specs.Prelude.{ℕ, ◌≤◌, ◌<◌, ◌≡◌, ◌⊎◌}
use mathlib.Core.List.{List, [], ◌∷◌, ◌++◌, Memᴰ}
use Rattle.refusals.specs.declared.Fault.{Fault}
use Rattle.refusals.specs.Refusals.{number}
use Rattle.stages.specs.Stages.{places_of, brackets}

-- "The first failing stage answers; within a stage, bracketed or single, the lowest place, then the lowest number."
pub record Refused (s : List ℕ) (f : Fault) (p : ℕ) : Type 0 where
  pub before : List (List Fault)
  pub stage : List Fault
  pub after : List (List Fault)
  pub split : brackets ≡ before ++ stage ∷ after
  -- the fault is of this stage, and is met at the place
  pub own : Memᴰ f stage
  pub met : Memᴰ p (places_of f s)
  -- no fault of an earlier stage is met anywhere
  pub earlier : (faults : List Fault) → Memᴰ faults before → (g : Fault) → Memᴰ g faults → places_of g s ≡ []
  -- each fault of this stage is met farther on, or at the same place with a number that is not lower
  pub lowest : (g : Fault) → Memᴰ g stage → (q : ℕ) → Memᴰ q (places_of g s)
      → (p < q) ⊎ ((p ≡ q) × (number f ≤ number g))
