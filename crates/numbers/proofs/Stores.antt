-- What stands where after a run of stores (`lib.Seq.sets`): before the run and behind it what stood there, in it what was stored.
-- Assumes nothing.
use Prim.Native.Nat.{ℕ, zero, suc, ◌+◌, ◌≤◌}
use mathlib.Core.Path.{◌≡◌, refl, sym, ap, ◌∙◌}
use mathlib.Core.List.{List, [], ◌∷◌, ◌++◌, append_assoc}
use native.Mathlib.Nat.{zero-add, suc-add}
use native.Mathlib.Omega.{arith}
use lib.ListN.{length, take, drop, set, length-drop}
use lib.Seq.{sets, sets-eq, take-set-le, drop-set-lt, take-nil, take-append-le, take_all, drop-drop, drop-append-le, drop_at, length-take-le}

module _ {A : Type 0} where
  -- a part is cut at its end before or after it is cut at its beginning
  pub part_cut : (n w : ℕ) (l : List A) → take w (drop n l) ≡ drop n (take (n + w) l)
  part_cut zero w l = ap (λ (k : ℕ). take k l) (sym (zero-add w))
  part_cut (suc n) w [] = take-nil w ∙ sym (ap (drop (suc n)) (take-nil (suc n + w)))
  part_cut (suc n) w (x ∷ xs) = part_cut n w xs ∙ ap (λ (k : ℕ). drop (suc n) (take k (x ∷ xs))) (sym (suc-add n w))

  -- the front stays as it is where all is stored behind it
  pub front_stays : (vs l : List A) (i n : ℕ) → n ≤ i → take n (sets l i vs) ≡ take n l
  front_stays [] l i n h = refl
  front_stays (v ∷ vs) l i n h = front_stays vs (set l i v) (suc i) n (omega arith) ∙ take-set-le n l i v h

  -- the rest stays as it is where all is stored in front of it
  pub rest_stays : (vs l : List A) (i n : ℕ) → i + length vs ≤ n → drop n (sets l i vs) ≡ drop n l
  rest_stays [] l i n h = refl
  rest_stays (v ∷ vs) l i n h = rest_stays vs (set l i v) (suc i) n (omega arith) ∙ drop-set-lt n l i v (omega arith)

  -- a part in front of what is stored, and one behind it
  pub part_before : (vs l : List A) (i n w : ℕ) → n + w ≤ i → take w (drop n (sets l i vs)) ≡ take w (drop n l)
  part_before vs l i n w h =
      part_cut n w (sets l i vs) ∙ ap (drop n) (front_stays vs l i (n + w) h) ∙ sym (part_cut n w l)

  pub part_behind : (vs l : List A) (i n w : ℕ) → i + length vs ≤ n → take w (drop n (sets l i vs)) ≡ take w (drop n l)
  part_behind vs l i n w h = ap (take w) (rest_stays vs l i n h)

  -- from the place where the storing began
  pub from_stored : (vs l : List A) (i : ℕ) → i + length vs ≤ length l → drop i (sets l i vs) ≡ vs ++ drop (i + length vs) l
  from_stored vs l i h =
      ap (drop i) (sets-eq vs l i h ∙ append_assoc (take i l) vs (drop (i + length vs) l))
      ∙ drop_at (take i l) (vs ++ drop (i + length vs) l) i (length-take-le i l (omega arith))

  -- a part of what was stored
  pub part_within : (vs l : List A) (i n w : ℕ) → i + length vs ≤ length l → n + w ≤ length vs
      → take w (drop (i + n) (sets l i vs)) ≡ take w (drop n vs)
  part_within vs l i n w h k =
      ap (take w) (sym (drop-drop n i (sets l i vs)) ∙ ap (drop n) (from_stored vs l i h) ∙ drop-append-le n vs (drop (i + length vs) l) (omega arith))
      ∙ take-append-le w (drop n vs) (drop (i + length vs) l) (omega (arith, length-drop n vs))

  -- all that was stored
  pub part_stored : (vs l : List A) (i w : ℕ) → i + length vs ≤ length l → w ≡ length vs → take w (drop i (sets l i vs)) ≡ vs
  part_stored vs l i w h e =
      ap (take w) (from_stored vs l i h) ∙ take-append-le w vs (drop (i + length vs) l) (omega arith) ∙ take_all w vs (omega arith)
