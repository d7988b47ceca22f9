-- `stretches::before_stop` meets its contract: the stretch passes to where `closed` says, of all bytes or of those reached. Assumes nothing.
use Prim.Native.Nat.{ℕ, ◌+◌, ◌-◌}
use mathlib.Core.Path.{sym, subst, ◌∙◌}
use native.Mathlib.Omega.{arith}
use Rattle.release_marks.proofs.Reaching.{closed_holds}
use Rattle.stretches.specs.Releases.{stays, Passes, Stopped}
use Rattle.stretches.proofs.before_stop.Goals as goal

pub returns-then-is_marked_at : goal.returns-then-is_marked_at
returns-then-is_marked_at c = let x = c.args in (omega arith, λ n v. stays {to = x.from + 0} (omega arith))

pub first_stop-count-requires : goal.first_stop-count-requires
first_stop-count-requires c =
    (omega arith, sym c.is_marked_at.ensures ∙ c.if-is_marked_at.false)

pub closed-requires : goal.closed-requires
closed-requires c = (omega arith, sym c.is_marked_at.ensures ∙ c.if-is_marked_at.false)

pub returns-then-count-eq32 : goal.returns-then-count-eq32
returns-then-count-eq32 c =
    let x = c.args in (
      omega (arith, c.closed.ensures),
      λ n v.
          closed_holds (Passes x.c n x.s.now) x.c x.s.now (x.from - 4) 32 (omega arith)
          (sym c.is_marked_at.ensures ∙ c.if-is_marked_at.false) c.closed.ensures
          ((subst (λ (k : ℕ). Stopped x.c x.s.now (x.from - 4) k) c.if-count-eq32.true c.first_stop-count.ensures).1 n v),
    )

pub closed-requires-2 : goal.closed-requires-2
closed-requires-2 c =
    (omega (arith, c.first_stop-count.ensures.0), sym c.is_marked_at.ensures ∙ c.if-is_marked_at.false)

pub returns : goal.returns
returns c =
    let x = c.args in
    let stopped = c.first_stop-count in (
      omega (arith, c.closed-2.ensures, stopped.ensures.0),
      λ n v.
          closed_holds (Passes x.c n x.s.now) x.c x.s.now (x.from - 4) stopped.result (omega arith)
          (sym c.is_marked_at.ensures ∙ c.if-is_marked_at.false) c.closed-2.ensures (stopped.ensures.1 n v),
    )
