-- Nesting in the paper's words. Assumes nothing.
use mathlib.Core.Path.{◌≡◌, refl}
use mathlib.Core.Bool.{Bool, false}
use mathlib.Core.List.{List, [], ◌∷◌}
use Rattle.nesting.specs.Nesting.{is_idle}

-- "a single empty value": one alone, and that one is empty
pub idle_is : {A : Type 0} (t : A → Bool) (x y : A) (ys : List A)
    → (is_idle t [] ≡ false) × (is_idle t (x ∷ []) ≡ t x) × (is_idle t (x ∷ y ∷ ys) ≡ false)
unfolding is_idle
idle_is t x y ys = (refl, refl, refl)
