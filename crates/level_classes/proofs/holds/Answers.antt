-- `level_classes::holds` meets its contract: in how many levels a byte belongs, counted. Assumes nothing.
use Rattle.std.specs.Prelude.{if◌then◌else◌}
use Rattle.std.proofs.Common.{ℕ, ◌≡◌, ◌+◌, ◌<◌, Bool, true, false, ◌||◌, leb, refl, ap, ap₂, ◌∙◌, arith}
use mir.Val.{bool_byte}
use Rattle.level_classes.specs.Masks.{in_class}
use Rattle.level_classes.proofs.holds.Goals as goal

pub overflow_add-result : goal.overflow_add-result
overflow_add-result c =
    record { fits = omega (arith, c.from.ensures, c.from-2.ensures, at_most c.args.in_a (c.args.in_a || c.args.letter)) }
  where
    at_most : (t u : Bool) → bool_byte t + bool_byte u < 256
    at_most true true = omega arith
    at_most true false = omega arith
    at_most false true = omega arith
    at_most false false = omega arith

pub returns : goal.returns
unfolding in_class
returns c = ap (leb c.args.level) (ap₂ (λ (m n : ℕ). m + n) c.from.ensures c.from-2.ensures ∙ count c.args.in_a c.args.letter)
  where
    count : (a l : Bool) → bool_byte a + bool_byte (a || l) ≡ (if a then 2 else (if a || l then 1 else 0))
    count true l = refl
    count false true = refl
    count false false = refl
