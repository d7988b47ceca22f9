-- `received_pieces::put_piece` meets its contract. The loop's invariant: what is left of the piece, put from the place reached, gives
-- what the whole, put at the start, gives; it fits; the measure at the end is the one from here; and each byte passed adds two at most.
-- What is left of the input falls. Assumes nothing.
use mathlib.Core.Path.{refl}
use mathlib.Core.List.{[], ◌∷◌}
use native.Mathlib.Omega.{arith}
use Rattle.values.specs.Tokens.{byte, separator}
use Rattle.emission_laws.proofs.Steps.{goes_on, goes_end, after_most}
use Rattle.held_separators.proofs.Steps.{tokens_fit, tokens_put, all_put_lem}
use Rattle.received_pieces.proofs.Steps.{next_as}
use Rattle.received_pieces.proofs.put_piece.Goals as goal

pub loop-byte-init : goal.loop-byte-init
loop-byte-init g c = (record { put = refl; fits = c.requires.0; same_room = refl }, refl, omega arith)

pub put_value_byte-n-requires : goal.put_value_byte-n-requires
put_value_byte-n-requires g c =
    let step = next_as _ _ _ _ c.next_in.ensures c.in-Byte.is in
    tokens_fit g.met.S.Sink.laws c.args.c c.loop-byte.n _ c.loop-byte.invariant.0 (byte c.in-Byte.byte 0 0 ∷ []) _ step.0

pub loop-byte-smaller-in-Byte : goal.loop-byte-smaller-in-Byte
loop-byte-smaller-in-Byte g c = let step = next_as _ _ _ _ c.next_in.ensures c.in-Byte.is in omega (arith, step)

pub loop-byte-preserved-in-Byte : goal.loop-byte-preserved-in-Byte
loop-byte-preserved-in-Byte g c =
    let step = next_as _ _ _ _ c.next_in.ensures c.in-Byte.is in
    let chars = c.args.c in
    let n = c.loop-byte.n in
    let inv = c.loop-byte.invariant in
    let put = c.put_value_byte-n.ensures in
    let tokens = byte c.in-Byte.byte 0 0 ∷ [] in (
      tokens_put g.met.S.Sink.laws chars n _ inv.0 tokens _ step.0 put,
      goes_on chars n inv.1 tokens _ step.0 put.1,
      omega (arith, step, after_most chars n tokens put.1, inv.2),
    )

pub put_separator-n-requires : goal.put_separator-n-requires
put_separator-n-requires g c =
    let step = next_as _ _ _ _ c.next_in.ensures c.in-Separator.is in
    (tokens_fit g.met.S.Sink.laws c.args.c c.loop-byte.n _ c.loop-byte.invariant.0 (separator c.in-Separator.found 0 ∷ []) _ step.0, omega (arith, step, c.loop-byte.invariant.2, c.requires.1))

pub loop-byte-smaller : goal.loop-byte-smaller
loop-byte-smaller g c = let step = next_as _ _ _ _ c.next_in.ensures c.in-Separator.is in omega (arith, step)

pub loop-byte-preserved : goal.loop-byte-preserved
loop-byte-preserved g c =
    let step = next_as _ _ _ _ c.next_in.ensures c.in-Separator.is in
    let chars = c.args.c in
    let n = c.loop-byte.n in
    let inv = c.loop-byte.invariant in
    let put = c.put_separator-n.ensures in
    let tokens = separator c.in-Separator.found 0 ∷ [] in (
      tokens_put g.met.S.Sink.laws chars n _ inv.0 tokens _ step.0 put,
      goes_on chars n inv.1 tokens _ step.0 put.1,
      omega (arith, step, after_most chars n tokens put.1, inv.2),
    )

pub returns-in-Ended : goal.returns-in-Ended
returns-in-Ended g c =
    let step = next_as _ _ _ _ c.next_in.ensures c.in-Ended.is in
    let chars = c.args.c in
    (all_put_lem g.met.S.Sink.laws chars c.loop-byte.n _ c.loop-byte.invariant.0 step, goes_end chars c.loop-byte.n c.loop-byte.invariant.1 step)
