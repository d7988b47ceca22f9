-- `elements::byte_at` meets its contract. The loop's invariant: the value that begins at the start goes on at `at`, and ends where it
-- ends. What is left of the input falls. Assumes nothing.
use mathlib.Core.Path.{refl}
use native.Mathlib.Omega.{arith}
use Rattle.scanner.proofs.Lexing.{lexes_as}
use Rattle.elements.proofs.Values.{next_byte, next_separator, next_stray, next_end}
use Rattle.elements.proofs.byte_at.Goals as goal

pub loop-byte-init : goal.loop-byte-init
loop-byte-init c = (refl, refl, omega arith, λ h. h)

pub returns-in-Byte : goal.returns-in-Byte
returns-in-Byte c =
    let l = lexes_as _ _ _ c.lex.ensures c.in-Byte.is in
    next_byte _ _ _ _ c.loop-byte.invariant l

pub returns-in-Separator : goal.returns-in-Separator
returns-in-Separator c =
    let l = lexes_as _ _ _ c.lex.ensures c.in-Separator.is in
    next_separator _ _ _ _ c.loop-byte.invariant l

pub loop-byte-smaller : goal.loop-byte-smaller
loop-byte-smaller c =
    let l = lexes_as _ _ _ c.lex.ensures c.in-Stray.is in
    omega arith

pub loop-byte-preserved : goal.loop-byte-preserved
loop-byte-preserved c =
    let l = lexes_as _ _ _ c.lex.ensures c.in-Stray.is in
    next_stray _ _ _ _ c.loop-byte.invariant l

pub returns-in-End : goal.returns-in-End
returns-in-End c =
    let l = lexes_as _ _ _ c.lex.ensures c.in-End.is in
    next_end _ _ _ _ c.loop-byte.invariant l
