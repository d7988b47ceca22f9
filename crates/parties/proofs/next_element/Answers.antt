-- `parties::next_element` meets its contract. The loop's invariant: no element ends between `from` and `at`. Assumes nothing.
use mathlib.Core.Path.{◌≡◌, subst}
use lib.ListN.{get_or}
use native.Mathlib.Omega.{arith}
use borrow.Author.Rules.{rules}
use borrow.Author.Tests.{eq-eqb, ne_eqb}
use Rattle.parties.proofs.Finding.{Past, past_none, past_found, past_next, past_separator}
use Rattle.parties.proofs.next_element.Goals as goal

pub loop-at-init : goal.loop-at-init
loop-at-init c = (past_none _ _ _, omega arith)

pub returns-then-b-c : goal.returns-then-b-c
returns-then-b-c c =
    let x = c.args in
    past_found x.c x.s.now x.from _ c.piece_at.result c.loop-at.invariant.0 c.piece_at.ensures

pub returns-then-b-c-2 : goal.returns-then-b-c-2
returns-then-b-c-2 c =
    let x = c.args in
    let loop = c.loop-at in
    past_separator x.c x.s.now x.from loop.at loop.invariant.0 (search rules) c.if-b-c.false
    (eq-eqb (get_or x.s.now loop.at 0) x.c.element c.if-b-c-2.true)

pub loop-at-preserved : goal.loop-at-preserved
loop-at-preserved c =
    let x = c.args in
    let loop = c.loop-at in
    (past_next x.c x.s.now x.from loop.at loop.invariant.0 (search rules) c.if-b-c.false (ne_eqb (get_or x.s.now loop.at 0) x.c.element c.if-b-c-2.false), omega arith)

pub returns : goal.returns
returns c =
    let x = c.args in
    let loop = c.loop-at in
    let end : loop.at ≡ c.max.result = omega arith in
    past_found x.c x.s.now x.from _ c.piece_at-2.result (subst (Past x.c x.s.now x.from) end loop.invariant.0) c.piece_at-2.ensures
