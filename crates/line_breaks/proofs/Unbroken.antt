-- A text without its control bytes, byte by byte: how long it is, and how it is stored. Assumes nothing.
use Rattle.std.specs.Prelude.{if◌then◌else◌}
use Prim.Native.Nat.{ℕ, suc, ◌+◌, ◌-◌, ◌≤◌, ◌<◌}
use mathlib.Core.Path.{◌≡◌, refl, sym, ap, ◌∙◌}
use mathlib.Core.Bool.{Bool, true, false}
use mathlib.Core.List.{List, [], ◌∷◌, ◌++◌}
use native.Mathlib.Decide.{dec_le}
use native.Mathlib.Nat.{add-zero, lt_of_not-le}
use native.Mathlib.Omega.{arith}
use lib.Dec.{leb}
use lib.ListN.{length, set, get_or, drop, length-drop, drop_of_length-le}
use lib.Seq.{sets, set-set}
use mir.Val.{bool_byte}
use Rattle.lists.specs.Lists.{those}
use Rattle.lists.proofs.Numbers.{drop_next}
use Rattle.storing.proofs.Stores.{sets_first}
use Rattle.line_breaks.specs.Unbroken.{unbroken}

-- it is no longer than the text
pub unbroken_most : (bytes : List ℕ) → length (unbroken bytes) ≤ length bytes
unfolding unbroken those
unbroken_most [] = omega arith
unbroken_most (b ∷ bs) = step (leb 32 b) (unbroken_most bs)
  where
    step : (t : Bool) → length (unbroken bs) ≤ length bs → length (if t then b ∷ unbroken bs else unbroken bs) ≤ length (b ∷ bs)
    step true h = omega arith
    step false h = omega arith

-- two texts, one after the other
pub unbroken_append : (xs ys : List ℕ) → length (unbroken (xs ++ ys)) ≡ length (unbroken xs) + length (unbroken ys)
unfolding unbroken those
unbroken_append [] ys = omega arith
unbroken_append (b ∷ bs) ys = step (leb 32 b) (unbroken_append bs ys)
  where
    step : (t : Bool) → length (unbroken (bs ++ ys)) ≡ length (unbroken bs) + length (unbroken ys)
        → length (if t then b ∷ unbroken (bs ++ ys) else unbroken (bs ++ ys)) ≡ length (if t then b ∷ unbroken bs else unbroken bs) + length (unbroken ys)
    step true h = omega arith
    step false h = h

-- where it is as long, it is the text
pub unbroken_whole : (bytes : List ℕ) → length (unbroken bytes) ≡ length bytes → unbroken bytes ≡ bytes
unfolding unbroken those
unbroken_whole [] e = refl
unbroken_whole (b ∷ bs) e = step (leb 32 b) (unbroken_whole bs) e
  where
    step : (t : Bool) → (length (unbroken bs) ≡ length bs → unbroken bs ≡ bs)
        → length (if t then b ∷ unbroken bs else unbroken bs) ≡ length (b ∷ bs) → (if t then b ∷ unbroken bs else unbroken bs) ≡ b ∷ bs
    step true ih h = ap (λ (l : List ℕ). b ∷ l) (ih (omega arith))
    step false ih h = absurd (omega (arith, unbroken_most bs))

module _ (s : List ℕ) (at : ℕ) where
  -- after the last byte nothing is left
  pub unbroken_none : length s ≤ at → unbroken (drop at s) ≡ []
  unfolding unbroken those
  unbroken_none h = ap unbroken (drop_of_length-le s h)

  pub unbroken_end : length s ≤ at → length (unbroken (drop at s)) ≡ 0
  unbroken_end h = ap length (unbroken_none h)

  -- as many as there are bytes
  pub unbroken_all : {count : ℕ} → count ≡ length (unbroken (drop at s)) → count ≡ length s - at → unbroken (drop at s) ≡ drop at s
  unbroken_all e d = unbroken_whole (drop at s) (sym e ∙ d ∙ sym (length-drop at s))

  -- where something is left, a byte stands
  pub unbroken_inside : 0 < length (unbroken (drop at s)) → at < length s
  unbroken_inside left = elim (dec_le (length s) at) [ yes k ↦ absurd (omega (arith, unbroken_end k)) | no k ↦ lt_of_not-le k ]

  -- what is left at a place, by the byte that stands there
  unbroken_first : at < length s
      → unbroken (drop at s) ≡ (if leb 32 (get_or s at 0) then get_or s at 0 ∷ unbroken (drop (at + 1) s) else unbroken (drop (at + 1) s))
  unfolding unbroken those
  unbroken_first h = ap unbroken (drop_next s at h)

  -- a byte more, unless it is a control byte
  pub unbroken_next : at < length s
      → length (unbroken (drop at s)) ≡ bool_byte (leb 32 (get_or s at 0)) + length (unbroken (drop (at + 1) s))
  unbroken_next h = ap length (unbroken_first h) ∙ step (leb 32 (get_or s at 0))
    where
      step : (t : Bool) → length (if t then get_or s at 0 ∷ unbroken (drop (at + 1) s) else unbroken (drop (at + 1) s))
          ≡ bool_byte t + length (unbroken (drop (at + 1) s))
      step true = omega arith
      step false = omega arith

  -- where something is left, the byte is stored, and what follows takes its place where it is a control byte
  pub stored_next : (buffer : List ℕ) (to : ℕ) → at < length s → 0 < length (unbroken (drop at s))
      → sets buffer to (unbroken (drop at s))
      ≡ sets (set buffer to (get_or s at 0)) (to + bool_byte (leb 32 (get_or s at 0))) (unbroken (drop (at + 1) s))
  stored_next buffer to h left =
      let e = unbroken_first h in
      ap (sets buffer to) e ∙ step (leb 32 (get_or s at 0)) (unbroken (drop (at + 1) s)) (omega (arith, left, ap length e))
    where
      b : ℕ
      b = get_or s at 0

      step : (t : Bool) (rest : List ℕ) → 0 < length (if t then b ∷ rest else rest)
          → sets buffer to (if t then b ∷ rest else rest) ≡ sets (set buffer to b) (to + bool_byte t) rest
      step true rest k = sets_first buffer to b rest
      step false [] k = absurd (omega arith)
      step false (x ∷ xs) k =
          ap (λ (l : List ℕ). sets l (suc to) xs) (sym (set-set buffer to b x))
          ∙ ap (λ (i : ℕ). sets (set buffer to b) i (x ∷ xs)) (sym (add-zero to))
