-- Each depth by the one below it, also for values. Assumes nothing.
use Prim.Native.Nat.{ℕ, zero, suc}
use mathlib.Core.Path.{◌≡◌, refl, sym, ap, ◌∙◌}
use mathlib.Core.Bool.{Bool, true, false, not, ◌&&◌, and-true, false≢true}
use mathlib.Core.List.{List, [], ◌∷◌, map, map-id}
use Rattle.lists.specs.Lists.{is_empty, all, trim_end}
use Rattle.lists.proofs.Texts.{and_left, and_right, and_both}
use Rattle.nesting.specs.Nesting.{Nest, shaped, every, idle, trim}

-- what every value is, every value of a nest is
pub every_true : {A : Type 0} (t : A → Bool) → ((v : A) → t v ≡ true) → (n : ℕ) (x : Nest A n) → every t n x ≡ true
unfolding all
every_true t h zero v = h v
every_true t h (suc n) [] = refl
every_true t h (suc n) (x ∷ xs) = and_both (every t n x) (all (every t n) xs) (every_true t h n x) (every_true t h (suc n) xs)

pub trim_step : (A : Type 0) (is_blank : A → Bool) (n : ℕ) (xs : List (Nest A n))
    → trim A is_blank (suc n) xs ≡ trim_end (idle A is_blank n) (map (trim A is_blank n) xs)
trim_step A is_blank zero xs = ap (trim_end is_blank) (sym (map-id xs))
trim_step A is_blank (suc n) xs = refl

module _ (A : Type 0) (n : ℕ) where
  pub shaped_step : (xs : List (Nest A n)) → shaped A (suc n) xs ≡ (not (is_empty xs) && all (shaped A n) xs)
  shaped_step xs = step n xs
    where
      step : (n : ℕ) (xs : List (Nest A n)) → shaped A (suc n) xs ≡ (not (is_empty xs) && all (shaped A n) xs)
      step zero xs =
          sym (ap (λ (b : Bool). not (is_empty xs) && b) (every_true (λ v. true) (λ v. refl) 1 xs) ∙ and-true (not (is_empty xs)))
      step (suc n) xs = refl

  -- a shaped part has parts, each of which is shaped
  pub shaped_some : shaped A (suc n) [] ≡ true → ⊥
  unfolding is_empty
  shaped_some s = false≢true (sym (shaped_step []) ∙ s)

  pub shaped_first : (x : Nest A n) (xs : List (Nest A n)) → shaped A (suc n) (x ∷ xs) ≡ true → shaped A n x ≡ true
  unfolding is_empty all
  shaped_first x xs s = and_left (shaped A n x) (all (shaped A n) xs) (sym (shaped_step (x ∷ xs)) ∙ s)

  pub shaped_all : (xs : List (Nest A n)) → shaped A (suc n) xs ≡ true → all (shaped A n) xs ≡ true
  shaped_all xs s = and_right (not (is_empty xs)) (all (shaped A n) xs) (sym (shaped_step xs) ∙ s)

  -- and where there is one, that is all
  pub all_shaped : (xs : List (Nest A n)) → is_empty xs ≡ false → all (shaped A n) xs ≡ true → shaped A (suc n) xs ≡ true
  all_shaped xs e h = shaped_step xs ∙ and_both (not (is_empty xs)) (all (shaped A n) xs) (ap not e) h

  pub shaped_rest : (x y : Nest A n) (ys : List (Nest A n)) → shaped A (suc n) (x ∷ y ∷ ys) ≡ true → shaped A (suc n) (y ∷ ys) ≡ true
  unfolding is_empty all
  shaped_rest x y ys s = all_shaped (y ∷ ys) refl (and_right (shaped A n x) (all (shaped A n) (y ∷ ys)) (shaped_all (x ∷ y ∷ ys) s))
