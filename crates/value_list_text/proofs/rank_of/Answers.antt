-- `value_list_text::rank_of` meets its contract: it asks the definition's tests in the definition's order. Assumes nothing.
use mathlib.Core.Path.{sym, ap}
use native.Mathlib.Omega.{arith}
use borrow.Author.Tests.{lt-leb, ne_eqb}
use Rattle.operations.specs.ValueList.{rank_of}
use Rattle.value_list_text.proofs.rank_of.Goals as goal

pub returns-in-0 : goal.returns-in-0
unfolding rank_of
returns-in-0 c = ap rank_of (sym c.in-0.is)

pub returns-in-1 : goal.returns-in-1
unfolding rank_of
returns-in-1 c = ap rank_of (sym c.in-1.is)

pub returns-in-3 : goal.returns-in-3
unfolding rank_of
returns-in-3 c = ap rank_of (sym c.in-3.is)

pub returns-in_default : goal.returns-in_default
unfolding rank_of
returns-in_default c =
    let kind = c.args.kind in
    simp (lt-leb kind 0 (omega arith), lt-leb kind 1 (omega arith), ne_eqb kind 3 (omega arith))
