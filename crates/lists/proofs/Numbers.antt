-- Laws of lists that are read at a number, or from a number on. Assumes nothing.
use Prim.Native.Nat.{ℕ, zero, suc, ◌+◌, ◌<◌}
use mathlib.Core.Path.{◌≡◌, refl, sym, ap, ◌∙◌}
use mathlib.Core.Bool.{Bool, true, false}
use mathlib.Core.List.{List, [], ◌∷◌, map}
use mathlib.Core.Option.{Option, none, some}
use native.Mathlib.Numerals.{add-one}
use lib.ListN.{length, get_or, drop}
use lib.Seq.{drop-cons}
use Rattle.lists.specs.Lists.{at, unless_idle, drop_end, trim_end, maybe}

pub drop_nothing : {A : Type 0} (n : ℕ) → ◌≡◌ {A = List A} (drop n []) []
drop_nothing zero = refl
drop_nothing (suc n) = refl

-- inside a list, the one at a number and what follows it
pub drop_next : (xs : List ℕ) (n : ℕ) → n < length xs → drop n xs ≡ get_or xs n 0 ∷ drop (n + 1) xs
drop_next xs n h = drop-cons xs n 0 h ∙ ap (λ (m : ℕ). get_or xs n 0 ∷ drop m xs) (sym (add-one n))

-- the one at a number is the first from there on
pub at_drop : {A : Type 0} (xs : List A) (n : ℕ) → at xs n ≡ at (drop n xs) zero
unfolding at
at_drop xs zero = refl
at_drop [] (suc n) = refl
at_drop (x ∷ xs) (suc n) = at_drop xs n

-- a question to what a map gives
pub at_map : {A B C : Type 0} (d : C) (f : B → C) (g : A → B) (xs : List A) (n : ℕ)
    → maybe d f (at (map g xs) n) ≡ maybe d (λ x. f (g x)) (at xs n)
unfolding at maybe
at_map d f g [] n = refl
at_map d f g (x ∷ xs) zero = refl
at_map d f g (x ∷ xs) (suc n) = at_map d f g xs n

-- Where an idle one is read as none, dropping an idle end does not change what is read.
module _ {A B : Type 0} (t : A → Bool) (h : Option A → B) (idle : (x : A) → t x ≡ true → h (some x) ≡ h none) where
  pub at_drop_end : (xs : List A) (n : ℕ) → h (at (drop_end t xs) n) ≡ h (at xs n)
  unfolding at drop_end unless_idle
  at_drop_end [] n = refl
  at_drop_end (x ∷ xs) n = step (t x) refl (drop_end t xs) n (at_drop_end xs)
    where
      step : (b : Bool) → t x ≡ b → (ys : List A) (n : ℕ) → ((m : ℕ) → h (at ys m) ≡ h (at xs m))
          → h (at (unless_idle b x ys) n) ≡ h (at (x ∷ xs) n)
      step true e [] zero ih = sym (idle x e)
      step true e [] (suc n) ih = ih n
      step true e (y ∷ ys) zero ih = refl
      step true e (y ∷ ys) (suc n) ih = ih n
      step false e ys zero ih = refl
      step false e ys (suc n) ih = ih n

  pub at_trim_end : (xs : List A) (n : ℕ) → h (at (trim_end t xs) n) ≡ h (at xs n)
  unfolding at trim_end
  at_trim_end [] n = refl
  at_trim_end (x ∷ xs) zero = refl
  at_trim_end (x ∷ xs) (suc n) = at_drop_end xs n
