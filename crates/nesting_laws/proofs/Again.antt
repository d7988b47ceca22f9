-- Trimming again takes nothing more; what was shaped stays so, what holds of every value holds of those that are left, and a map that
-- keeps which of them are empty may be done before or after. Assumes nothing.
use Prim.Native.Nat.{ℕ, zero, suc}
use mathlib.Core.Path.{◌≡◌, refl, sym, ap, ap₂, fun_ext, ◌∙◌}
use mathlib.Core.Bool.{Bool, true, false, not, ◌||◌, false≢true}
use lib.Dec.{eqb}
use mathlib.Core.List.{List, [], ◌∷◌, map, map-map}
use Rattle.lists.specs.Lists.{is_empty, is_single, all, drop_end, trim_end}
use Rattle.lists.proofs.Texts.{and_left, and_right, and_both, all_append, all_map}
use Rattle.lists.proofs.Ends.{trim_end_again, trim_end_map}
use Rattle.nesting.specs.Nesting.{Nest, shaped, every, lone, mapped, is_idle, idle, trim}
use Rattle.nesting_laws.proofs.Shape.{trim_step, shaped_some, shaped_all, all_shaped}
use Rattle.nesting_laws.proofs.Trimmed.{drop_end_shortened}

-- where doing f again changes nothing in any one, doing it again to a list changes nothing
pub map_again : {A : Type 0} (f : A → A) → ((x : A) → f (f x) ≡ f x) → (xs : List A) → map f (map f xs) ≡ map f xs
map_again f h [] = refl
map_again f h (x ∷ xs) = ap₂ ◌∷◌ (h x) (map_again f h xs)

-- what all pass, all that are left pass
all_trim_end : {A : Type 0} (p t : A → Bool) (xs : List A) → all p xs ≡ true → all p (trim_end t xs) ≡ true
unfolding all trim_end
all_trim_end p t [] h = refl
all_trim_end p t (x ∷ xs) h =
    let left : List _ = drop_end t xs in
    let s = drop_end_shortened t xs in
    and_both (p x) (all p left)
    (and_left (p x) (all p xs) h)
    (and_left (all p left) (all p s.gone)
    (sym (ap (all p) s.parts ∙ all_append p left s.gone) ∙ and_right (p x) (all p xs) h))

module _ (A : Type 0) (is_blank : A → Bool) where
  pub trim_again : (n : ℕ) (x : Nest A n) → trim A is_blank n (trim A is_blank n x) ≡ trim A is_blank n x
  trim_again zero v = refl
  trim_again (suc n) xs =
      let t : Nest A n → Bool = idle A is_blank n in
      let f : Nest A n → Nest A n = trim A is_blank n in
      let kept : List (Nest A n) = trim_end (λ x. t (f x)) xs in
      let moved : trim_end t (map f xs) ≡ map f kept = trim_end_map f t xs in
      ap (trim A is_blank (suc n)) (trim_step A is_blank n xs)
      ∙ trim_step A is_blank n (trim_end t (map f xs))
      ∙ ap (trim_end t) (ap (map f) moved ∙ map_again f (trim_again n) kept ∙ sym moved)
      ∙ trim_end_again t (map f xs)
      ∙ sym (trim_step A is_blank n xs)

  -- what holds of all parts and stays when each is trimmed holds of all that are left
  left_all : (p : (n : ℕ) → Nest A n → Bool) (n : ℕ) → ((x : Nest A n) → p n x ≡ true → p n (trim A is_blank n x) ≡ true)
      → (xs : List (Nest A n)) → all (p n) xs ≡ true → all (p n) (trim A is_blank (suc n) xs) ≡ true
  left_all p n h xs k =
      ap (all (p n)) (trim_step A is_blank n xs)
      ∙ all_trim_end (p n) (idle A is_blank n) (map (trim A is_blank n) xs) (all_map (trim A is_blank n) (p n) (p n) h xs k)

  pub trim_every : (p : A → Bool) (n : ℕ) (x : Nest A n) → every p n x ≡ true → every p n (trim A is_blank n x) ≡ true
  trim_every p zero v h = h
  trim_every p (suc n) xs h = left_all (every p) n (trim_every p n) xs h

  pub trim_shaped : (n : ℕ) (x : Nest A n) → shaped A n x ≡ true → shaped A n (trim A is_blank n x) ≡ true
  unfolding is_empty trim_end
  trim_shaped zero v h = h
  trim_shaped (suc n) [] h = absurd (shaped_some A n h)
  trim_shaped (suc n) (x ∷ xs) h =
      all_shaped A n (trim A is_blank (suc n) (x ∷ xs)) (ap is_empty (trim_step A is_blank n (x ∷ xs)))
      (left_all (shaped A) n (trim_shaped n) (x ∷ xs) (shaped_all A n (x ∷ xs) h))

  -- where no two parts of a depth stand side by side, none do afterwards
  pub trim_lone : (d n : ℕ) (x : Nest A n) → lone A d n x ≡ true → lone A d n (trim A is_blank n x) ≡ true
  unfolding is_empty is_single trim_end drop_end all
  trim_lone d zero v h = h
  trim_lone d (suc n) [] h = ap (lone A d (suc n)) (trim_step A is_blank n []) ∙ h
  trim_lone d (suc n) (x ∷ xs) h =
      let t : Nest A n → Bool = idle A is_blank n in
      let f : Nest A n → Nest A n = trim A is_blank n in
      let left : List (Nest A n) = trim A is_blank (suc n) (x ∷ xs) in
      let few : Bool = not (eqb d n) || is_empty xs in
      and_both (not (eqb d n) || is_single left) (all (lone A d n) left)
      (ap (λ (l : List (Nest A n)). not (eqb d n) || is_single l) (trim_step A is_blank n (x ∷ xs))
      ∙ fewer (eqb d n) xs (and_left few (all (lone A d n) (x ∷ xs)) h))
      (left_all (lone A d) n (trim_lone d n) (x ∷ xs) (and_right few (all (lone A d n) (x ∷ xs)) h))
    where
      fewer : (e : Bool) (xs : List (Nest A n)) → (not e || is_empty xs) ≡ true
          → (not e || is_empty (drop_end (idle A is_blank n) (map (trim A is_blank n) xs))) ≡ true
      fewer true [] k = refl
      fewer true (y ∷ ys) k = absurd (false≢true k)
      fewer false xs k = refl

module _ {A B : Type 0} (f : A → B) (t : B → Bool) where
  abbrev u : A → Bool
  u a = t (f a)

  idle_map : (n : ℕ) (x : Nest A n) → idle B t n (mapped f n x) ≡ idle A u n x
  unfolding is_idle
  idle_map zero v = refl
  idle_map (suc n) [] = refl
  idle_map (suc n) (x ∷ []) = idle_map n x
  idle_map (suc n) (x ∷ y ∷ ys) = refl

  pub trim_map : (n : ℕ) (x : Nest A n) → trim B t n (mapped f n x) ≡ mapped f n (trim A u n x)
  trim_map zero v = refl
  trim_map (suc n) xs =
      let g : Nest A n → Nest B n = mapped f n in
      let kept : List (Nest A n) = map (trim A u n) xs in
      trim_step B t n (map g xs)
      ∙ ap (trim_end (idle B t n))
      (map-map (trim B t n) g xs
      ∙ ap (λ (h : Nest A n → Nest B n). map h xs) (fun_ext (trim_map n))
      ∙ sym (map-map g (trim A u n) xs))
      ∙ trim_end_map g (idle B t n) kept
      ∙ ap (λ (i : Nest A n → Bool). map g (trim_end i kept)) (fun_ext (idle_map n))
      ∙ ap (map g) (sym (trim_step A u n xs))
