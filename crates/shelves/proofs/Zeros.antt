-- Lists of zeros: their parts, and the number that they spell. Assumes nothing.
use Prim.Native.Nat.{ℕ, zero, suc}
use mathlib.Core.Path.{◌≡◌, refl, ap, ◌∙◌}
use mathlib.Core.Bool.{Bool, true}
use mathlib.Core.List.{List, [], ◌∷◌}
use native.Mathlib.Omega.{arith}
use lib.Dec.{eqb}
use lib.ListN.{take, drop, replicate}
use borrow.Author.Tests.{eqb-true}
use Rattle.lists.specs.Lists.{all}
use Rattle.lists.proofs.Texts.{and_left, and_right, and_both}
use Rattle.numbers.specs.Numbers.{read_on}

-- so many zeros are zero
pub all_zeros : (n : ℕ) → all (eqb 0) (replicate n 0) ≡ true
unfolding all
all_zeros zero = refl
all_zeros (suc n) = all_zeros n

-- what passes a test from a place on passes it from a later place on
pub all_drop : {A : Type 0} (t : A → Bool) (n : ℕ) (xs : List A) → all t xs ≡ true → all t (drop n xs) ≡ true
unfolding all
all_drop t zero xs h = h
all_drop t (suc n) [] h = h
all_drop t (suc n) (x ∷ xs) h = all_drop t n xs (and_right (t x) (all t xs) h)

pub all_take : (t : ℕ → Bool) (n : ℕ) (xs : List ℕ) → all t xs ≡ true → all t (take n xs) ≡ true
unfolding all
all_take t zero xs h = refl
all_take t (suc n) [] h = refl
all_take t (suc n) (x ∷ xs) h =
    and_both (t x) (all t (take n xs)) (and_left (t x) (all t xs) h) (all_take t n xs (and_right (t x) (all t xs) h))

-- they spell the number 0
pub read_zero : (xs : List ℕ) → all (eqb 0) xs ≡ true → read_on 0 xs ≡ 0
unfolding read_on all
read_zero [] h = refl
read_zero (x ∷ xs) h =
    let e : 0 ≡ x = eqb-true 0 x (and_left (eqb 0 x) (all (eqb 0) xs) h) in
    ap (λ (n : ℕ). read_on n xs) (omega arith) ∙ read_zero xs (and_right (eqb 0 x) (all (eqb 0) xs) h)
