-- `tags::ends_unrepeated` meets its contract. The loop's invariant: whether the element ends with its repeat is told from `at` on.
-- What is left of the input falls. Assumes nothing.
use mathlib.Core.Path.{refl, sym, ◌∙◌}
use native.Mathlib.Omega.{arith}
use borrow.Author.Rules.{rules}
use Rattle.scanner.proofs.Lexing.{lexes_as}
use Rattle.tags.proofs.Repeats.{repeat_byte, repeat_stray, repeat_component, repeat_separator, repeat_end}
use Rattle.tags.proofs.ends_unrepeated.Goals as goal

pub loop-next-init : goal.loop-next-init
loop-next-init c = refl

pub loop-next-smaller-in-Byte : goal.loop-next-smaller-in-Byte
loop-next-smaller-in-Byte c = let l = lexes_as _ _ _ c.lex.ensures c.in-Byte.is in omega arith

pub loop-next-preserved-in-Byte : goal.loop-next-preserved-in-Byte
loop-next-preserved-in-Byte c = let l = lexes_as _ _ _ c.lex.ensures c.in-Byte.is in c.loop-next.invariant ∙ repeat_byte _ _ _ l

pub returns-then-rank-le2 : goal.returns-then-rank-le2
returns-then-rank-le2 c = let l = lexes_as _ _ _ c.lex.ensures c.in-Separator.is in sym (c.loop-next.invariant ∙ repeat_separator _ _ _ l c.if-rank-le2.true)

pub loop-next-smaller-in-Separator : goal.loop-next-smaller-in-Separator
loop-next-smaller-in-Separator c = let l = lexes_as _ _ _ c.lex.ensures c.in-Separator.is in omega arith

pub loop-next-preserved-in-Separator : goal.loop-next-preserved-in-Separator
loop-next-preserved-in-Separator c = let l = lexes_as _ _ _ c.lex.ensures c.in-Separator.is in c.loop-next.invariant ∙ repeat_component _ _ _ l (search rules)

pub loop-next-smaller : goal.loop-next-smaller
loop-next-smaller c = let l = lexes_as _ _ _ c.lex.ensures c.in-Stray.is in omega arith

pub loop-next-preserved : goal.loop-next-preserved
loop-next-preserved c = let l = lexes_as _ _ _ c.lex.ensures c.in-Stray.is in c.loop-next.invariant ∙ repeat_stray _ _ _ l

pub returns-in-End : goal.returns-in-End
returns-in-End c = let l = lexes_as _ _ _ c.lex.ensures c.in-End.is in sym (c.loop-next.invariant ∙ repeat_end _ _ _ l)
