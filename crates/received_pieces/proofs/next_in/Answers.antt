-- `received_pieces::next_in` meets its contract. The loop's invariant: the piece that begins at the start goes on at `at`. What is left
-- of the input falls. Assumes nothing.
use mathlib.Core.Path.{refl}
use native.Mathlib.Omega.{arith}
use Rattle.scanner.proofs.Lexing.{lexes_as}
use Rattle.received_pieces.proofs.Steps.{in_byte, in_separator, in_last, in_stray, in_end}
use Rattle.received_pieces.proofs.next_in.Goals as goal

pub loop-byte-init : goal.loop-byte-init
loop-byte-init c = (refl, omega arith)

pub returns-in-Byte : goal.returns-in-Byte
returns-in-Byte c =
    in_byte _ _ _ _ _ c.loop-byte.invariant (lexes_as _ _ _ c.lex.ensures c.in-Byte.is)

pub returns-then-found-rank : goal.returns-then-found-rank
returns-then-found-rank c =
    in_last _ _ _ _ _ c.loop-byte.invariant (lexes_as _ _ _ c.lex.ensures c.in-Separator.is) c.if-found-rank.true

pub returns-in-Separator : goal.returns-in-Separator
returns-in-Separator c =
    in_separator _ _ _ _ _ c.loop-byte.invariant (lexes_as _ _ _ c.lex.ensures c.in-Separator.is) (omega (arith, c.if-found-rank.false))

pub loop-byte-smaller : goal.loop-byte-smaller
loop-byte-smaller c =
    let l = lexes_as _ _ _ c.lex.ensures c.in-Stray.is in
    omega arith

pub loop-byte-preserved : goal.loop-byte-preserved
loop-byte-preserved c =
    in_stray _ _ _ _ _ c.loop-byte.invariant (lexes_as _ _ _ c.lex.ensures c.in-Stray.is)

pub returns-in-End : goal.returns-in-End
returns-in-End c =
    in_end _ _ _ _ _ c.loop-byte.invariant (lexes_as _ _ _ c.lex.ensures c.in-End.is)
