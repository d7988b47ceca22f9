-- `line_breaks::put_unbroken` meets its contract: a text that is as long without breaks has none. Assumes nothing.
use Prim.Native.Nat.{ℕ, ◌+◌}
use mathlib.Core.Path.{sym, ap, ◌∙◌}
use native.Mathlib.Omega.{arith}
use lib.ListN.{length}
use lib.Seq.{sets}
use Rattle.line_breaks.proofs.Unbroken.{unbroken_none, unbroken_end, unbroken_all}
use Rattle.line_breaks.proofs.put_unbroken.Goals as goal

pub returns-then-s-start : goal.returns-then-s-start
returns-then-s-start c =
    let x = c.args in
    (sym (ap (sets x.buffer.now x.from) (unbroken_none x.s.now x.start c.if-s-start.true)), omega (arith, unbroken_end x.s.now x.start c.if-s-start.true))

pub copy-requires : goal.copy-requires
copy-requires c =
    omega (arith, ap length (unbroken_all c.args.s.now c.args.start c.unbroken_length-count.ensures c.if-count-s.true), c.requires)

pub returns-then-count-s : goal.returns-then-count-s
returns-then-count-s c =
    let x = c.args in
    let count = c.unbroken_length-count.ensures in (
      c.copy.ensures ∙ ap (sets x.buffer.now x.from) (sym (unbroken_all x.s.now x.start count c.if-count-s.true)),
      ap (λ (n : ℕ). x.from + n) count,
    )
