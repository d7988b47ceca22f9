-- Laws of lists without their idle ends. Assumes nothing.
use mathlib.Core.Path.{◌≡◌, refl, ap, ◌∙◌}
use mathlib.Core.Bool.{Bool, true, false}
use mathlib.Core.List.{List, [], ◌∷◌, map}
use Rattle.lists.specs.Lists.{unless_idle, drop_end, trim_end}

module _ {A : Type 0} (t : A → Bool) where
  -- what is left where an idle end was dropped has no idle end
  pub drop_end_again : (xs : List A) → drop_end t (drop_end t xs) ≡ drop_end t xs
  unfolding drop_end unless_idle
  drop_end_again [] = refl
  drop_end_again (x ∷ xs) = step (t x) refl (drop_end t xs) (drop_end_again xs)
    where
      step : (b : Bool) → t x ≡ b → (ys : List A) → drop_end t ys ≡ ys → drop_end t (unless_idle b x ys) ≡ unless_idle b x ys
      step true e [] ih = refl
      step true e (y ∷ ys) ih = ap (unless_idle (t x) x) ih ∙ ap (λ (b : Bool). unless_idle b x (y ∷ ys)) e
      step false e ys ih = ap (unless_idle (t x) x) ih ∙ ap (λ (b : Bool). unless_idle b x ys) e

  -- trimming again takes nothing more
  pub trim_end_again : (xs : List A) → trim_end t (trim_end t xs) ≡ trim_end t xs
  unfolding trim_end
  trim_end_again [] = refl
  trim_end_again (x ∷ xs) = ap (λ (l : List A). x ∷ l) (drop_end_again xs)

module _ {A B : Type 0} (f : A → B) (t : B → Bool) where
  -- an idle end may be dropped before a map or after it
  pub drop_end_map : (xs : List A) → drop_end t (map f xs) ≡ map f (drop_end (λ x. t (f x)) xs)
  unfolding drop_end unless_idle
  drop_end_map [] = refl
  drop_end_map (x ∷ xs) = ap (unless_idle (t (f x)) (f x)) (drop_end_map xs) ∙ step (t (f x)) (drop_end (λ y. t (f y)) xs)
    where
      step : (b : Bool) (ys : List A) → unless_idle b (f x) (map f ys) ≡ map f (unless_idle b x ys)
      step true [] = refl
      step true (y ∷ ys) = refl
      step false ys = refl

  pub trim_end_map : (xs : List A) → trim_end t (map f xs) ≡ map f (trim_end (λ x. t (f x)) xs)
  unfolding trim_end
  trim_end_map [] = refl
  trim_end_map (x ∷ xs) = ap (λ (l : List B). f x ∷ l) (drop_end_map xs)
