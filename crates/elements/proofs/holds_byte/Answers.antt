-- `elements::holds_byte` meets its contract. The loop's invariant: a byte stands from the start on if one does from `at` on. What is
-- left of the input falls. Assumes nothing.
use mathlib.Core.Path.{refl, sym, ◌∙◌}
use native.Mathlib.Omega.{arith}
use borrow.Author.Tests.{le-leb, lt-leb}
use Rattle.scanner.proofs.Lexing.{lexes_as}
use Rattle.elements.proofs.Elements.{holds_byte_lem, holds_over, holds_separator, holds_stray, holds_end}
use Rattle.elements.proofs.holds_byte.Goals as goal

pub loop-found-init : goal.loop-found-init
loop-found-init c = refl

pub returns-in-Byte : goal.returns-in-Byte
returns-in-Byte c =
    let l = lexes_as _ _ _ c.lex.ensures c.in-Byte.is in
    sym (c.loop-found.invariant ∙ holds_byte_lem _ l.0)

pub returns-then-found-rank : goal.returns-then-found-rank
returns-then-found-rank c =
    let l = lexes_as _ _ _ c.lex.ensures c.in-Separator.is in
    sym (c.loop-found.invariant ∙ holds_over _ l.0 (le-leb _ _ c.if-found-rank.true))

pub loop-found-smaller-in-Separator : goal.loop-found-smaller-in-Separator
loop-found-smaller-in-Separator c =
    let l = lexes_as _ _ _ c.lex.ensures c.in-Separator.is in
    omega arith

pub loop-found-preserved-in-Separator : goal.loop-found-preserved-in-Separator
loop-found-preserved-in-Separator c =
    let l = lexes_as _ _ _ c.lex.ensures c.in-Separator.is in
    c.loop-found.invariant ∙ holds_separator _ l.0 (lt-leb _ _ c.if-found-rank.false)

pub loop-found-smaller : goal.loop-found-smaller
loop-found-smaller c =
    let l = lexes_as _ _ _ c.lex.ensures c.in-Stray.is in
    omega arith

pub loop-found-preserved : goal.loop-found-preserved
loop-found-preserved c =
    let l = lexes_as _ _ _ c.lex.ensures c.in-Stray.is in
    c.loop-found.invariant ∙ holds_stray _ l.0

pub returns-in-End : goal.returns-in-End
returns-in-End c =
    let l = lexes_as _ _ _ c.lex.ensures c.in-End.is in
    sym (c.loop-found.invariant ∙ holds_end _ l.0)
