-- Runs of stores: one behind the other, and a run that stores what is there. Assumes nothing.
use Prim.Native.Nat.{ℕ, zero, suc, ◌+◌, ◌≤◌}
use mathlib.Core.Path.{◌≡◌, refl, sym, ap, ◌∙◌}
use mathlib.Core.List.{List, [], ◌∷◌, ◌++◌}
use native.Mathlib.Nat.{add-zero}
use native.Mathlib.Omega.{arith}
use lib.ListN.{length, take, drop, set, length-drop}
use lib.Seq.{sets, sets-eq, length-take-le, take-add}

module _ {A : Type 0} where
  -- two runs, the second behind the first, are one
  pub sets_append : (vs ws l : List A) (i : ℕ) → sets l i (vs ++ ws) ≡ sets (sets l i vs) (i + length vs) ws
  sets_append [] ws l i = ap (λ (n : ℕ). sets l n ws) (sym (add-zero i))
  sets_append (v ∷ vs) ws l i =
      sets_append vs ws (set l i v) (suc i) ∙ ap (λ (n : ℕ). sets (sets (set l i v) (suc i) vs) n ws) (omega arith)

  -- a front and the rest are the whole
  parts : (n : ℕ) (l : List A) → take n l ++ drop n l ≡ l
  parts n [] = nil n
    where
      nil : (k : ℕ) → ◌≡◌ {A = List A} (take k [] ++ drop k []) []
      nil zero = refl
      nil (suc k) = refl
  parts zero (x ∷ xs) = refl
  parts (suc n) (x ∷ xs) = ap (λ (l : List A). x ∷ l) (parts n xs)

  -- what is there, stored again
  pub sets_there : (l : List A) (i w : ℕ) → i + w ≤ length l → sets l i (take w (drop i l)) ≡ l
  sets_there l i w h =
      let e = length-take-le w (drop i l) (omega (arith, length-drop i l)) in
      sets-eq (take w (drop i l)) l i (omega arith)
      ∙ ap (λ (n : ℕ). take i l ++ take w (drop i l) ++ drop (i + n) l) e
      ∙ ap (λ (front : List A). front ++ drop (i + w) l) (sym (take-add i w l))
      ∙ parts (i + w) l
