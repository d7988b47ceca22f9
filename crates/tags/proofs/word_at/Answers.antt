-- `tags::word_at` meets its contract. The loop's invariant: what was read and what stands from `word.next` on make the whole value.
-- What is left of the input falls. Assumes nothing.
use mathlib.Core.Path.{sym, ap, subst}
use native.Mathlib.Omega.{arith}
use Rattle.scanner.proofs.Lexing.{lexes_as}
use Rattle.tags.specs.declared.Word.{Word}
use Rattle.tags.specs.Words.{Words}
use Rattle.tags.proofs.Reading.{UpTo, up_to_start, up_to_byte, up_to_stray, word_ended, word_unended}
use Rattle.tags.proofs.word_at.Goals as goal

pub loop-byte-init : goal.loop-byte-init
loop-byte-init c = subst (UpTo _ _ _) (sym c.begun_at-word.ensures) (up_to_start _ _ _)

pub grown_by-word-requires : goal.grown_by-word-requires
grown_by-word-requires c =
    let l = lexes_as _ _ _ c.lex.ensures c.in-Byte.is in
    omega arith

pub loop-byte-smaller-in-Byte : goal.loop-byte-smaller-in-Byte
loop-byte-smaller-in-Byte c =
    let l = lexes_as _ _ _ c.lex.ensures c.in-Byte.is in
    let e = ap (λ (w : Word). w.next) c.grown_by-word.ensures in
    omega arith

pub loop-byte-preserved-in-Byte : goal.loop-byte-preserved-in-Byte
loop-byte-preserved-in-Byte c =
    let l = lexes_as _ _ _ c.lex.ensures c.in-Byte.is in
    subst (UpTo _ _ _) (sym c.grown_by-word.ensures) (up_to_byte _ _ _ _ c.loop-byte.invariant l)

pub returns-in-Separator : goal.returns-in-Separator
returns-in-Separator c =
    let l = lexes_as _ _ _ c.lex.ensures c.in-Separator.is in
    subst (Words _ _ _) (sym c.passed_by.ensures) (word_ended _ _ _ _ c.loop-byte.invariant l)

pub loop-byte-smaller : goal.loop-byte-smaller
loop-byte-smaller c =
    let l = lexes_as _ _ _ c.lex.ensures c.in-Stray.is in
    let e = ap (λ (w : Word). w.next) c.passed_by-word.ensures in
    omega arith

pub loop-byte-preserved : goal.loop-byte-preserved
loop-byte-preserved c =
    let l = lexes_as _ _ _ c.lex.ensures c.in-Stray.is in
    subst (UpTo _ _ _) (sym c.passed_by-word.ensures) (up_to_stray _ _ _ _ c.loop-byte.invariant l)

pub returns-in-End : goal.returns-in-End
returns-in-End c =
    let l = lexes_as _ _ _ c.lex.ensures c.in-End.is in
    word_unended _ _ _ _ c.loop-byte.invariant l
