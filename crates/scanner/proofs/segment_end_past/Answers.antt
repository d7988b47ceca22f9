-- `scanner::segment_end_past` meets its contract. The loop's invariant: what follows the next terminator from the start is what follows
-- the next one from `at`. What is left of the input falls. Assumes nothing.
use mathlib.Core.Logic.{inl, inr}
use mathlib.Core.Path.{refl, sym, ap, ◌∙◌}
use native.Mathlib.Omega.{arith}
use native.Mathlib.Nat.{le_of_eq, pos_of_ne-zero}
use Rattle.lists.specs.Lists.{beyond}
use Rattle.lists.proofs.Pieces.{beyond_hit, beyond_miss}
use Rattle.values.specs.Tokens.{ends}
use Rattle.values.proofs.Steps.{ends_yes, ends_no}
use Rattle.scanner.proofs.Lexing.{lexes_as}
use Rattle.scanner.proofs.segment_end_past.Goals as goal

pub loop-next-init : goal.loop-next-init
loop-next-init c = (omega arith, refl, λ h. omega arith)

pub returns-then-rank-eq0 : goal.returns-then-rank-eq0
returns-then-rank-eq0 c =
    let l = lexes_as _ _ _ c.lex.ensures c.in-Separator.is in (
      sym (c.loop-next.invariant.1 ∙ beyond_hit (ends 0) l.0 (ends_yes 0 _ (le_of_eq c.if-rank-eq0.true))),
      omega arith,
      λ h. omega arith,
      λ h. omega arith,
    )

pub loop-next-smaller-in-Separator-1 : goal.loop-next-smaller-in-Separator-1
loop-next-smaller-in-Separator-1 c = let l = lexes_as _ _ _ c.lex.ensures c.in-Separator.is in omega arith

pub loop-next-preserved-in-Separator-1 : goal.loop-next-preserved-in-Separator-1
loop-next-preserved-in-Separator-1 c =
    let l = lexes_as _ _ _ c.lex.ensures c.in-Separator.is in
    (omega arith, c.loop-next.invariant.1 ∙ beyond_miss (ends 0) l.0 (ends_no 0 _ (pos_of_ne-zero c.if-rank-eq0.false)), λ h. omega arith)

pub loop-next-smaller-in-Byte : goal.loop-next-smaller-in-Byte
loop-next-smaller-in-Byte c =
    elim c.in-Byte.is [
      | inl e ↦ let l = lexes_as _ _ _ c.lex.ensures e.2 in omega arith
      | inr e ↦ let l = lexes_as _ _ _ c.lex.ensures e in omega arith
    ]

pub loop-next-preserved-in-Byte : goal.loop-next-preserved-in-Byte
unfolding ends
loop-next-preserved-in-Byte c =
    elim c.in-Byte.is [
      | inl e ↦
          let l = lexes_as _ _ _ c.lex.ensures e.2 in
          (omega arith, c.loop-next.invariant.1 ∙ beyond_miss (ends 0) l.0 refl, λ h. omega arith)
      | inr e ↦
          let l = lexes_as _ _ _ c.lex.ensures e in
          (omega arith, c.loop-next.invariant.1 ∙ beyond_miss (ends 0) l.0 refl, λ h. omega arith)
    ]

pub loop-next-smaller : goal.loop-next-smaller
loop-next-smaller c =
    elim c.in-Byte.is [
      | inl e ↦ let l = lexes_as _ _ _ c.lex.ensures e.2 in omega arith
      | inr e ↦ let l = lexes_as _ _ _ c.lex.ensures e in omega arith
    ]

pub loop-next-preserved : goal.loop-next-preserved
unfolding ends
loop-next-preserved c =
    elim c.in-Byte.is [
      | inl e ↦
          let l = lexes_as _ _ _ c.lex.ensures e.2 in
          (omega arith, c.loop-next.invariant.1 ∙ beyond_miss (ends 0) l.0 refl, λ h. omega arith)
      | inr e ↦
          let l = lexes_as _ _ _ c.lex.ensures e in
          (omega arith, c.loop-next.invariant.1 ∙ beyond_miss (ends 0) l.0 refl, λ h. omega arith)
    ]

pub returns-in-End : goal.returns-in-End
unfolding beyond
returns-in-End c =
    let l = lexes_as _ _ _ c.lex.ensures c.in-End.is in
    (sym (c.loop-next.invariant.1 ∙ ap (beyond (ends 0)) l.0 ∙ sym l.0), omega arith, λ h. omega arith, λ h. c.loop-next.invariant.2 h)
