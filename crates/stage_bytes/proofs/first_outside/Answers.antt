-- `stage_bytes::first_outside` meets its contract. The loop's invariant: what the walk answers from the start it answers from `at`.
-- What is left of the input falls. Assumes nothing.
use mathlib.Core.Logic.{inl, inr}
use mathlib.Core.Path.{refl, sym, ap, ◌∙◌}
use native.Mathlib.Omega.{arith}
use borrow.Author.Tests.{not-true, not-false}
use Rattle.refusals.specs.Refusals.{outcome}
use Rattle.scanner.proofs.Lexing.{lexes_as}
use Rattle.stage_bytes.proofs.Steps.{level_byte, level_separator, level_fault, level_end}
use Rattle.stage_bytes.proofs.first_outside.Goals as goal

pub loop-byte-init : goal.loop-byte-init
loop-byte-init c = refl

pub returns-then-not-is_in_level : goal.returns-then-not-is_in_level
unfolding outcome
returns-then-not-is_in_level c =
    let l = lexes_as c.args.c c.args.s.now c.loop-byte.at c.lex.ensures c.in-Byte.is in
    c.failed.ensures ∙ ap outcome (sym (c.loop-byte.invariant ∙ level_byte _ l.0 (sym c.is_in_level.ensures ∙ not-true c.is_in_level.result c.if-not-is_in_level.true-raw)))

pub loop-byte-smaller-in-Byte-1 : goal.loop-byte-smaller-in-Byte-1
loop-byte-smaller-in-Byte-1 c = let l = lexes_as c.args.c c.args.s.now c.loop-byte.at c.lex.ensures c.in-Byte.is in omega arith

pub loop-byte-preserved-in-Byte-1 : goal.loop-byte-preserved-in-Byte-1
loop-byte-preserved-in-Byte-1 c =
    let l = lexes_as c.args.c c.args.s.now c.loop-byte.at c.lex.ensures c.in-Byte.is in
    c.loop-byte.invariant ∙ level_byte _ l.0 (sym c.is_in_level.ensures ∙ not-false c.is_in_level.result c.if-not-is_in_level.false-raw)

pub loop-byte-smaller-in-Separator : goal.loop-byte-smaller-in-Separator
loop-byte-smaller-in-Separator c =
    elim c.in-Separator.is [
      | inl e ↦ let l = lexes_as c.args.c c.args.s.now c.loop-byte.at c.lex.ensures e.1 in omega arith
      | inr e ↦ let l = lexes_as c.args.c c.args.s.now c.loop-byte.at c.lex.ensures e in omega arith
    ]

pub loop-byte-preserved-in-Separator : goal.loop-byte-preserved-in-Separator
loop-byte-preserved-in-Separator c =
    c.loop-byte.invariant
    ∙ elim c.in-Separator.is [
      | inl e ↦ let l = lexes_as c.args.c c.args.s.now c.loop-byte.at c.lex.ensures e.1 in level_separator _ l.0
      | inr e ↦ let l = lexes_as c.args.c c.args.s.now c.loop-byte.at c.lex.ensures e in level_fault _ l.0
    ]

pub loop-byte-smaller : goal.loop-byte-smaller
loop-byte-smaller c =
    elim c.in-Separator.is [
      | inl e ↦ let l = lexes_as c.args.c c.args.s.now c.loop-byte.at c.lex.ensures e.1 in omega arith
      | inr e ↦ let l = lexes_as c.args.c c.args.s.now c.loop-byte.at c.lex.ensures e in omega arith
    ]

pub loop-byte-preserved : goal.loop-byte-preserved
loop-byte-preserved c =
    c.loop-byte.invariant
    ∙ elim c.in-Separator.is [
      | inl e ↦ let l = lexes_as c.args.c c.args.s.now c.loop-byte.at c.lex.ensures e.1 in level_separator _ l.0
      | inr e ↦ let l = lexes_as c.args.c c.args.s.now c.loop-byte.at c.lex.ensures e in level_fault _ l.0
    ]

pub returns-in-End : goal.returns-in-End
unfolding outcome
returns-in-End c = let l = lexes_as c.args.c c.args.s.now c.loop-byte.at c.lex.ensures c.in-End.is in ap outcome (sym (c.loop-byte.invariant ∙ level_end _ l.0))
