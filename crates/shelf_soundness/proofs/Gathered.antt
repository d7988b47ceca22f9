-- Bytes that are all zero, with their bits gathered in one byte. Assumes nothing.
use Prim.Native.Nat.{ℕ, ◌+◌, ◌≤◌, ◌<◌}
use mathlib.Core.Path.{◌≡◌, refl, sym, ap, ap₂, ◌∙◌}
use mathlib.Core.Bool.{Bool, true, false, ◌&&◌}
use mathlib.Core.List.{List}
use native.Mathlib.Omega.{arith}
use lib.Bits.{bit_or, or_add_and, and_le_l, and_le_r, or_zero_l}
use lib.Dec.{eqb}
use lib.ListN.{length, drop, get_or, drop_of_length-le}
use borrow.Author.Tests.{eqb-true, eqb-false, eq-eqb, ne_eqb}
use Rattle.lists.specs.Lists.{all}
use Rattle.lists.proofs.Numbers.{drop_next}

-- no bit is gathered exactly where none was before and the byte has none
gathers : (d b : ℕ) → (eqb d 0 && eqb 0 b) ≡ eqb (bit_or d b) 0
gathers d b = step (eqb d 0) refl (eqb 0 b) refl
  where
    sum : bit_or d b ≡ 0 → (d ≡ 0) × (0 ≡ b)
    sum e = let a = or_add_and d b in let l = and_le_l d b in let r = and_le_r d b in (omega arith, omega arith)

    step : (t : Bool) → eqb d 0 ≡ t → (u : Bool) → eqb 0 b ≡ u → (t && u) ≡ eqb (bit_or d b) 0
    step true p true q = sym (eq-eqb (bit_or d b) 0 (ap₂ bit_or (eqb-true d 0 p) (sym (eqb-true 0 b q)) ∙ or_zero_l 0))
    step true p false q = sym (ne_eqb (bit_or d b) 0 (λ e. eqb-false 0 b q (sum e).1))
    step false p u q = sym (ne_eqb (bit_or d b) 0 (λ e. eqb-false d 0 p (sum e).0))

module _ (s : List ℕ) where
  -- all are zero from a place on, and no bit was gathered before it
  abbrev pub zero_from : (found at : ℕ) → Bool
  zero_from found at = eqb found 0 && all (eqb 0) (drop at s)

  pub zero_next : (found at : ℕ) → at < length s → zero_from found at ≡ zero_from (bit_or found (get_or s at 0)) (at + 1)
  unfolding all
  zero_next found at h =
      ap (λ (r : List ℕ). eqb found 0 && all (eqb 0) r) (drop_next s at h)
      ∙ regroup (eqb found 0) (eqb 0 (get_or s at 0)) (all (eqb 0) (drop (at + 1) s))
      ∙ ap (λ (t : Bool). t && all (eqb 0) (drop (at + 1) s)) (gathers found (get_or s at 0))
    where
      regroup : (a b c : Bool) → (a && (b && c)) ≡ ((a && b) && c)
      regroup true b c = refl
      regroup false b c = refl

  pub zero_end : (found at : ℕ) → length s ≤ at → zero_from found at ≡ eqb found 0
  unfolding all
  zero_end found at h = ap (λ (r : List ℕ). eqb found 0 && all (eqb 0) r) (drop_of_length-le s h) ∙ keeps (eqb found 0)
    where
      keeps : (a : Bool) → (a && true) ≡ a
      keeps true = refl
      keeps false = refl
