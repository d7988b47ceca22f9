-- Two parts, or all parts, that hold nothing. Assumes nothing.
use mathlib.Core.Path.{◌≡◌, refl}
use mathlib.Core.Bool.{Bool, true, ◌&&◌}
use mathlib.Core.List.{List, [], ◌∷◌, ◌++◌, append-eq-nil_iff}
use mathlib.Core.Logic.{◌↔◌}
use Rattle.lists.specs.Lists.{all, gather}
use Rattle.lists.proofs.Texts.{and_left, and_right, and_both}

-- two parts are empty exactly where both tests say so
pub none_both : {A : Type 0} (xs ys : List A) (t u : Bool) → (xs ≡ []) ↔ (t ≡ true) → (ys ≡ []) ↔ (u ≡ true)
    → (xs ++ ys ≡ []) ↔ ((t && u) ≡ true)
none_both xs ys t u h k =
    let parts = append-eq-nil_iff {p = xs} {q = ys} in (
      λ e. and_both t u (h.0 (parts.0 e).0) (k.0 (parts.0 e).1),
      λ e. parts.1 (h.1 (and_left t u e), k.1 (and_right t u e)),
    )

-- nothing is gathered exactly where each brings nothing
pub gather_none : {A B : Type 0} (f : A → List B) (t : A → Bool) → ((x : A) → (f x ≡ []) ↔ (t x ≡ true)) → (xs : List A)
    → (gather f xs ≡ []) ↔ (all t xs ≡ true)
unfolding gather all
gather_none f t h [] = (λ e. refl, λ e. refl)
gather_none f t h (x ∷ xs) = none_both (f x) (gather f xs) (t x) (all t xs) (h x) (gather_none f t h xs)
