-- All of a list pass a test exactly where each one does. Assumes nothing.
use mathlib.Core.Path.{◌≡◌, refl, ap, ◌∙◌}
use mathlib.Core.Logic.{◌↔◌, ⊎_elim}
use mathlib.Core.Bool.{Bool, true}
use mathlib.Core.List.Memᴰ
use mathlib.Core.List.{List, [], ◌∷◌, Memᴰ}
use Rattle.lists.specs.Lists.{all}
use Rattle.lists.proofs.Texts.{and_left, and_right, and_both}

pub all_each : {A : Type 0} (t : A → Bool) (xs : List A) → (all t xs ≡ true) ↔ ((x : A) → Memᴰ x xs → t x ≡ true)
unfolding all
all_each t [] = (λ h x m. absurd (Memᴰ.not-nil m), λ h. refl)
all_each t (x ∷ xs) = (
  λ h y m.
      ⊎_elim (λ e. ap t e ∙ and_left (t x) (all t xs) h) ((all_each t xs).0 (and_right (t x) (all t xs) h) y)
      (Memᴰ.cases_cons m),
  λ h. and_both (t x) (all t xs) (h x (Memᴰ.head refl)) ((all_each t xs).1 (λ y m. h y (Memᴰ.tail m))),
)
