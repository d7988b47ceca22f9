-- `line_breaks::copy_unbroken` meets its contract. The loop's invariant: what is left of the text, stored from here, gives what the whole,
-- stored at the start, gives; and it ends where the whole ends. What is left of the input falls. Assumes nothing.
use Prim.Native.Nat.{ℕ, ◌+◌}
use mathlib.Core.Path.{◌≡◌, refl, sym, ap, ◌∙◌}
use mathlib.Core.List.{List, [], ◌∷◌}
use native.Mathlib.Omega.{arith}
use lib.ListN.{length, set, get_or, drop, length-set}
use lib.Seq.{sets}
use Rattle.line_breaks.specs.Unbroken.{unbroken}
use Rattle.line_breaks.proofs.Unbroken.{unbroken_inside, unbroken_next, stored_next}
use Rattle.line_breaks.proofs.copy_unbroken.Goals as goal

pub overflow_add-end : goal.overflow_add-end
overflow_add-end c = omega arith

pub loop-to-init : goal.loop-to-init
loop-to-init c = (refl, refl, omega arith, omega arith)

pub bounds-s-at : goal.bounds-s-at
bounds-s-at c = unbroken_inside c.args.s.now c.loop-to.at (omega arith)

pub bounds-buffer-to : goal.bounds-buffer-to
bounds-buffer-to c = omega arith

pub overflow_add-to : goal.overflow_add-to
overflow_add-to c =
    let inside = unbroken_inside c.args.s.now c.loop-to.at (omega arith) in
    omega (arith, unbroken_next c.args.s.now c.loop-to.at inside)

pub overflow_add-at : goal.overflow_add-at
overflow_add-at c = let inside = unbroken_inside c.args.s.now c.loop-to.at (omega arith) in omega arith

pub loop-to-smaller : goal.loop-to-smaller
loop-to-smaller c = let inside = unbroken_inside c.args.s.now c.loop-to.at (omega arith) in omega arith

pub loop-to-preserved : goal.loop-to-preserved
loop-to-preserved c =
    let s = c.args.s.now in
    let loop = c.loop-to in
    let inside = unbroken_inside c.args.s.now c.loop-to.at (omega arith) in (
      loop.invariant.0
          ∙ stored_next s loop.at loop.buffer loop.to inside (omega arith)
          ∙ ap (λ (n : ℕ). sets (set loop.buffer loop.to (get_or s loop.at 0)) (loop.to + n) (unbroken (drop (loop.at + 1) s))) (sym c.from-to.ensures),
      length-set loop.buffer loop.to (get_or s loop.at 0) ∙ loop.invariant.1,
      omega (arith, unbroken_next s loop.at inside),
      loop.invariant.3,
    )

pub shape_of-buffer : goal.shape_of-buffer
shape_of-buffer c = c.loop-to.invariant.1

pub returns : goal.returns
returns c =
    let loop = c.loop-to in
    sym (loop.invariant.0 ∙ ap (sets loop.buffer loop.to) (nothing (unbroken (drop loop.at c.args.s.now)) (omega arith)))
  where
    nothing : (l : List ℕ) → length l ≡ 0 → l ≡ []
    nothing [] e = refl
    nothing (x ∷ xs) e = absurd (omega arith)
