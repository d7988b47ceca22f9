-- `parties::first_value` meets its contract: no byte stands from the element on, or its first value ends where it ends. Assumes nothing.
use mathlib.Core.Path.{sym, ◌∙◌}
use native.Mathlib.Omega.{arith}
use borrow.Author.Tests.{not-true, not-false}
use Rattle.parties.proofs.Finding.{value_none, value_some}
use Rattle.parties.proofs.first_value.Goals as goal

pub is_kept-requires : goal.is_kept-requires
is_kept-requires c = c.requires.1

pub returns-then-not-is_kept : goal.returns-then-not-is_kept
returns-then-not-is_kept c =
    let h = c.is_kept in
    c.nothing.ensures ∙ value_none _ (sym h.ensures ∙ not-true h.result c.if-not-is_kept.true-raw)

pub overflow_sub-length : goal.overflow_sub-length
overflow_sub-length c = omega (arith, c.value_end-end.ensures.1, c.requires.1.0)

pub returns : goal.returns
returns c =
    let x = c.args in
    let known = c.requires in
    let h = c.is_kept in
    value_some x.c x.s.now x.from x.at c.value_end-end.result known.0 known.1
    (sym h.ensures ∙ not-false h.result c.if-not-is_kept.false-raw)
    c.value_end-end.ensures
