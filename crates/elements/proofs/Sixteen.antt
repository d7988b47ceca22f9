-- The search for an element goes on past bytes that end neither its segment nor take others with them. Assumes nothing.
use Rattle.std.specs.Prelude.{if◌then◌else◌}
use Prim.Native.Nat.{ℕ, ◌+◌, ◌-◌, ◌≤◌, ◌<◌}
use mathlib.Core.Path.{◌≡◌, refl, ap, ◌∙◌}
use mathlib.Core.Bool.{Bool, true, false, ◌&&◌, ◌||◌, and-false}
use mathlib.Core.List.{List}
use mathlib.Core.Logic.{◌⊎◌, inl, inr}
use native.Mathlib.Omega.{arith}
use lib.ListN.{length, get_or}
use lib.Dec.{eqb}
use Rattle.characters.specs.declared.Characters.{Characters}
use Rattle.characters.specs.declared.Role.TheVariants.{Separator, Plain}
use Rattle.characters.specs.Characters.{role, has_repetition}
use Rattle.values.specs.Tokens.{ends, tokens_at}
use Rattle.values.proofs.Steps.{at_plain, at_separator, ends_yes, ends_no}
use Rattle.elements.specs.Elements.{element_from}
use Rattle.elements.specs.Sixteen.{weight, Separators}
use Rattle.elements.proofs.Elements.{from_next, from_miss, from_plain}

pub weight_most : (c : Characters) (b : ℕ) → weight c b ≤ 15
weight_most c b = by_test (eqb b c.terminator || eqb b c.release) (eqb b c.element)
  where
    by_test : (t e : Bool) → (if t then 15 else (if e then 1 else 0)) ≤ 15
    by_test true e = omega arith
    by_test false true = omega arith
    by_test false false = omega arith

module _ (c : Characters) (s : List ℕ) (at : ℕ) (inside : at < length s) where
  abbrev b : ℕ
  b = get_or s at 0

  module _ (t : eqb b c.terminator ≡ false) where
    -- an element separator passes one element
    passes_one : eqb b c.element ≡ true → (left : ℕ) → 0 < left → element_from left (tokens_at c s at) ≡ element_from (left - 1) (tokens_at c s (at + 1))
    unfolding role
    passes_one e left h =
        let r : role c b ≡ Separator 1 = simp (t, e) in
        from_next (ends 0) (ends 1) left h (at_separator c s at 0 inside r) (ends_no 0 at {k = 1} (omega arith)) (ends_yes 1 at {k = 1} (omega arith))

    -- what another byte is
    other_role : eqb b c.element ≡ false → eqb b c.release ≡ false
        → (role c b ≡ Separator 2) ⊎ ((role c b ≡ Separator 3) ⊎ (role c b ≡ Plain))
    unfolding role
    other_role e l = simp (t, e, l, and-false) (by_test (has_repetition c && eqb b c.repetition) (eqb b c.component))
      where
        by_test : (p q : Bool) → ((if p then Separator 2 else (if q then Separator 3 else Plain)) ≡ Separator 2)
            ⊎ (((if p then Separator 2 else (if q then Separator 3 else Plain)) ≡ Separator 3)
            ⊎ ((if p then Separator 2 else (if q then Separator 3 else Plain)) ≡ Plain))
        by_test true q = inl refl
        by_test false true = inr (inl refl)
        by_test false false = inr (inr refl)

    -- and it passes none
    passes_none : eqb b c.element ≡ false → eqb b c.release ≡ false → (left : ℕ) → 0 < left
        → element_from left (tokens_at c s at) ≡ element_from left (tokens_at c s (at + 1))
    unfolding ends
    passes_none e l left h = by_role (other_role e l)
      where
        by_role : (role c b ≡ Separator 2) ⊎ ((role c b ≡ Separator 3) ⊎ (role c b ≡ Plain))
            → element_from left (tokens_at c s at) ≡ element_from left (tokens_at c s (at + 1))
        by_role (inl r) = from_miss (ends 0) (ends 1) left h (at_separator c s at 1 inside r) (ends_no 0 at {k = 2} (omega arith)) (ends_no 1 at {k = 2} (omega arith))
        by_role (inr (inl r)) = from_miss (ends 0) (ends 1) left h (at_separator c s at 2 inside r) (ends_no 0 at {k = 3} (omega arith)) (ends_no 1 at {k = 3} (omega arith))
        by_role (inr (inr r)) = from_plain 1 left h (at_plain c s at inside r) (λ k. refl)

  -- one byte more
  pub separators_next : (from sum : ℕ) → Separators c s from at sum → Separators c s from (at + 1) (sum + weight c b)
  separators_next from sum h = by_test (eqb b c.terminator) (eqb b c.release) (eqb b c.element) refl refl refl
    where
      by_test : (t l e : Bool) → eqb b c.terminator ≡ t → eqb b c.release ≡ l → eqb b c.element ≡ e
          → Separators c s from (at + 1) (sum + (if t || l then 15 else (if e then 1 else 0)))
      by_test true l e p q r k number m = absurd (omega arith)
      by_test false true e p q r k number m = absurd (omega arith)
      by_test false false true p q r k number m =
          h (omega arith) number (omega arith)
          ∙ passes_one p r (number - sum) (omega arith)
          ∙ ap (λ (n : ℕ). element_from n (tokens_at c s (at + 1))) (omega arith)
      by_test false false false p q r k number m =
          h (omega arith) number (omega arith)
          ∙ passes_none p r q (number - sum) (omega arith)
          ∙ ap (λ (n : ℕ). element_from n (tokens_at c s (at + 1))) (omega arith)

pub separators_none : (c : Characters) (s : List ℕ) (from : ℕ) → Separators c s from from 0
separators_none c s from h number l = ap (λ (n : ℕ). element_from n (tokens_at c s from)) (omega arith)
