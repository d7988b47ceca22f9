-- `elements::piece_at` meets its contract. The loop's invariant: the piece that is looked for from the start is the one that is
-- looked for from `at`, after as many separators as are left. What is left of the input falls. Assumes nothing.
use mathlib.Core.Path.{refl, sym, ◌∙◌}
use native.Mathlib.Omega.{arith}
use native.Mathlib.Nat.{le_refl}
use borrow.Author.Rules.{rules}
use Rattle.values.specs.Tokens.{ends}
use Rattle.values.proofs.Steps.{at_end, ends_yes, ends_no}
use Rattle.scanner.proofs.Lexing.{lexes_as}
use Rattle.elements.proofs.Elements.{outer_yes, outer_no, from_plain, from_here, from_over, from_end, from_next, from_miss}
use Rattle.elements.proofs.piece_at.Goals as goal

pub loop-left-init : goal.loop-left-init
loop-left-init c = (refl, λ h. h)

pub loop-left-smaller-in-Byte : goal.loop-left-smaller-in-Byte
loop-left-smaller-in-Byte c =
    let l = lexes_as _ _ _ c.lex.ensures c.in-Byte.is in
    omega arith

pub loop-left-preserved-in-Byte : goal.loop-left-preserved-in-Byte
unfolding ends
loop-left-preserved-in-Byte c =
    let l = lexes_as _ _ _ c.lex.ensures c.in-Byte.is in
    (c.loop-left.invariant.0 ∙ from_plain c.args.rank _ (search rules) l.0 (λ k. refl), λ h. omega arith)

pub returns-then-found-rank : goal.returns-then-found-rank
returns-then-found-rank c =
    let l = lexes_as _ _ _ c.lex.ensures c.in-Separator.is in (
      at_end _ _ _ (le_refl _)
          ∙ sym (c.loop-left.invariant.0 ∙ from_over _ _ _ (search rules) l.0 (outer_yes _ _ c.if-found-rank.true)),
      λ h. omega arith,
    )

pub loop-left-smaller-then-found-rank-2 : goal.loop-left-smaller-then-found-rank-2
loop-left-smaller-then-found-rank-2 c =
    let l = lexes_as _ _ _ c.lex.ensures c.in-Separator.is in
    omega arith

pub loop-left-preserved-then-found-rank-2 : goal.loop-left-preserved-then-found-rank-2
loop-left-preserved-then-found-rank-2 c =
    let l = lexes_as _ _ _ c.lex.ensures c.in-Separator.is in
    (c.loop-left.invariant.0 ∙ from_next _ _ _ (search rules) l.0 (outer_no _ _ c.if-found-rank.false) (ends_yes _ _ (omega arith)), λ h. omega arith)

pub loop-left-smaller-else-found-rank-2 : goal.loop-left-smaller-else-found-rank-2
loop-left-smaller-else-found-rank-2 c =
    let l = lexes_as _ _ _ c.lex.ensures c.in-Separator.is in
    omega arith

pub loop-left-preserved-else-found-rank-2 : goal.loop-left-preserved-else-found-rank-2
loop-left-preserved-else-found-rank-2 c =
    let l = lexes_as _ _ _ c.lex.ensures c.in-Separator.is in
    (c.loop-left.invariant.0 ∙ from_miss _ _ _ (search rules) l.0 (outer_no _ _ c.if-found-rank.false) (ends_no _ _ (omega arith)), λ h. omega arith)

pub loop-left-smaller : goal.loop-left-smaller
loop-left-smaller c =
    let l = lexes_as _ _ _ c.lex.ensures c.in-Stray.is in
    omega arith

pub loop-left-preserved : goal.loop-left-preserved
unfolding ends
loop-left-preserved c =
    let l = lexes_as _ _ _ c.lex.ensures c.in-Stray.is in
    (c.loop-left.invariant.0 ∙ from_plain c.args.rank _ (search rules) l.0 (λ k. refl), λ h. omega arith)

pub returns-in-End : goal.returns-in-End
returns-in-End c =
    let l = lexes_as _ _ _ c.lex.ensures c.in-End.is in (
      at_end _ _ _ (le_refl _)
          ∙ sym (c.loop-left.invariant.0 ∙ from_end _ _ _ (search rules) l.0),
      λ h. omega arith,
    )

pub returns : goal.returns
returns c = (sym (c.loop-left.invariant.0 ∙ from_here _ _ _ _ (omega arith)), c.loop-left.invariant.1)
