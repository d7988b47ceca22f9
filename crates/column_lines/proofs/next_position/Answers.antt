-- `column_lines::next_position` meets its contract: it asks the definition's tests in the definition's order. Assumes nothing.
use Prim.Native.Nat.{◌+◌}
use mathlib.Core.Path.{sym, ap, ◌∙◌}
use native.Mathlib.Omega.{arith}
use borrow.Author.Tests.{lt-leb, ne_eqb}
use Rattle.column_laws.specs.declared.Position.{Position}
use Rattle.column_laws.specs.Positions.{next_at}
use Rattle.column_lines.proofs.next_position.Goals as goal

pub returns-in-0 : goal.returns-in-0
unfolding next_at
returns-in-0 c =
    let p = c.args.p in
    ap (λ (q : Position). record { segment = p.segment + 1; element = q.element; repeat = q.repeat; component = q.component }) c.origin.ensures
    ∙ ap (next_at p) (sym c.in-0.is)

pub returns-in-1 : goal.returns-in-1
unfolding next_at
returns-in-1 c = ap (next_at c.args.p) (sym c.in-1.is)

pub returns-in-3 : goal.returns-in-3
unfolding next_at
returns-in-3 c = ap (next_at c.args.p) (sym c.in-3.is)

pub returns-in_default : goal.returns-in_default
unfolding next_at
returns-in_default c =
    let kind = c.args.kind in
    simp (lt-leb kind 0 (omega arith), lt-leb kind 1 (omega arith), ne_eqb kind 3 (omega arith))
