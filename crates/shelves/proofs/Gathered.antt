-- Pairs one after the other: each is read where it stands. Assumes nothing.
use Prim.Native.Nat.{ℕ, zero, suc, ◌+◌, ◌*◌, ◌≤◌, ◌<◌}
use mathlib.Core.Path.{◌≡◌, refl, sym, ap, ◌∙◌}
use mathlib.Core.List.{List, [], ◌∷◌, ◌++◌, append-nil}
use mathlib.Core.Logic.{⊎_elim}
use native.Mathlib.Omega.{arith}
use lib.Dec.{eqb}
use lib.ListN.{length, take, drop, length-append, length-drop}
use lib.Seq.{take-append-le, drop-append-le, drop-append-add}
use Rattle.lists.specs.Lists.{gather}
use Rattle.lists.proofs.Texts.{gather_append}
use Rattle.lists.proofs.Tests.{says_eq, decides}
use Rattle.numbers.specs.Numbers.{number_at, read_on}
use Rattle.shelves.specs.Layout.{below}

-- a number that stands in the first of two lists, and one in the second
number_first : (xs ys : List ℕ) (at w : ℕ) → at + w ≤ length xs → number_at (xs ++ ys) at w ≡ number_at xs at w
unfolding number_at
number_first xs ys at w h =
    ap (λ (l : List ℕ). read_on 0 (take w l)) (drop-append-le at xs ys (omega arith))
    ∙ ap (read_on 0) (take-append-le w (drop at xs) ys (omega (arith, length-drop at xs)))

number_second : (xs ys : List ℕ) (at w : ℕ) → number_at (xs ++ ys) (length xs + at) w ≡ number_at ys at w
unfolding number_at
number_second xs ys at w = ap (λ (l : List ℕ). read_on 0 (take w l)) (drop-append-add xs ys at)

module _ (f : ℕ → List ℕ) (eight : (k : ℕ) → length (f k) ≡ 8) where
  gather_last : (n : ℕ) → gather f (below (suc n)) ≡ gather f (below n) ++ f n
  unfolding below gather
  gather_last n =
      gather_append f (below n) (n ∷ []) ∙ ap (λ (l : List ℕ). gather f (below n) ++ l) (append-nil (f n))

  pub gathered_length : (n : ℕ) → length (gather f (below n)) ≡ n * 8
  unfolding below gather
  gathered_length zero = refl
  gathered_length (suc n) =
      omega (arith, ap length (gather_last n), length-append (gather f (below n)) (f n), gathered_length n, eight n)

  pub gathered_number : (n k i w : ℕ) → k < n → i + w ≤ 8 → number_at (gather f (below n)) (k * 8 + i) w ≡ number_at (f k) i w
  gathered_number zero k i w h j = absurd (omega arith)
  gathered_number (suc n) k i w h j =
      ap (λ (l : List ℕ). number_at l (k * 8 + i) w) (gather_last n)
      ∙ ⊎_elim
      (λ (e : k ≡ n).
      ap (λ (x : ℕ). number_at (gather f (below n) ++ f n) x w) (omega (arith, gathered_length n))
      ∙ number_second (gather f (below n)) (f n) i w
      ∙ ap (λ (x : ℕ). number_at (f x) i w) (sym e))
      (λ (d : k ≡ n → ⊥).
      number_first (gather f (below n)) (f n) (k * 8 + i) w (omega (arith, gathered_length n))
      ∙ gathered_number n k i w (omega arith) j)
      (decides (eqb k n) (says_eq k n))
