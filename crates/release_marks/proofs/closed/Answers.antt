-- `release_marks::closed` meets its contract: the byte at which `count` bytes begin is not released, so that one that is comes later. Assumes
-- nothing.
use Prim.Native.Nat.{ℕ, ◌-◌, ◌≤◌}
use mathlib.Core.Path.{sym, ap, subst, ◌∙◌}
use mir.Val.{bool_byte}
use Rattle.release_marks.proofs.Reaching.{marked_later}
use Rattle.release_marks.proofs.closed.Goals as goal

pub overflow_sub-result : goal.overflow_sub-result
overflow_sub-result c =
    let x = c.args in
    subst (λ (n : ℕ). n ≤ x.count) (sym (c.from.ensures ∙ ap bool_byte c.is_marked_at.ensures))
    (marked_later x.c x.s.now x.base x.count c.requires.1)

pub returns : goal.returns
returns c = ap (λ (n : ℕ). c.args.count - n) (c.from.ensures ∙ ap bool_byte c.is_marked_at.ensures)
