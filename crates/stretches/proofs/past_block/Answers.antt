-- `stretches::past_block` meets its contract: the stretch passes over thirty-two bytes, or goes on where release characters stand. Assumes
-- nothing.
use Prim.Native.Nat.{ℕ, ◌+◌}
use mathlib.Core.Path.{subst}
use native.Mathlib.Omega.{arith}
use Rattle.stretches.specs.Releases.{Passes}
use Rattle.stretches.proofs.Stretching.{passes_more}
use Rattle.stretches.proofs.past_block.Goals as goal

pub returns-then-count-eq32 : goal.returns-then-count-eq32
returns-then-count-eq32 c =
    let x = c.args in
    (λ n v. subst (λ (k : ℕ). Passes x.c n x.s.now x.from (x.from + k)) c.if-count-eq32.true (c.before_stop-count.ensures.1 n v), omega arith)

pub returns-then-to-next : goal.returns-then-to-next
returns-then-to-next c =
    let x = c.args in
    (λ n v. passes_more x.c n x.s.now (c.before_stop-count.ensures.1 n v) (c.past_taken-next.ensures.1 n v), omega arith)
