-- `read_counts::after_marks` meets its contract. Assumes nothing.
use native.Mathlib.Nat.{pos_of_ne-zero}
use Rattle.read_counts.proofs.Steps.{after_none, after_some}
use Rattle.read_counts.proofs.after_marks.Goals as goal

pub returns-then-count-eq0 : goal.returns-then-count-eq0
returns-then-count-eq0 c = after_none c.args.kind c.args.count c.args.l c.if-count-eq0.true

pub returns : goal.returns
returns c = after_some c.args.kind c.args.count c.args.l (pos_of_ne-zero c.if-count-eq0.false)
