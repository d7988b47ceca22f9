-- `received_pieces::put_piece` meets its contract. The loop's invariant: what is left of the piece, put from the place reached, gives
-- what the whole, put at the start, gives; it fits; the measure at the end is the one from here; and each byte passed adds two at most.
-- What is left of the input falls. Assumes nothing.
use Prim.Native.Nat.{◌+◌, ◌*◌, ◌-◌, ◌≤◌}
use mathlib.Core.Path.{◌≡◌}
use lib.ListN.{length}
use Rattle.values.specs.Tokens.{tokens_at}
use Rattle.storing.proofs.Putting.{Going}
use Rattle.emission_laws.specs.Emission.{waiting, emitted, after}
use Rattle.received_pieces.specs.Pieces.{piece_of}
use Rattle.received_pieces.proofs.put_piece.Given as goal

abbrev pub invariant-loop-byte : goal.invariant-loop-byte
invariant-loop-byte g l = Going g.S.Sink.holds g.S.Sink.room l.initial.buffer l.buffer l.initial.n.total l.n.total (emitted l.c l.initial.n.held (piece_of l.rank (tokens_at l.d l.s l.from))) (emitted l.c l.n.held (piece_of l.rank (tokens_at l.d l.s l.at)))
    × (after l.c l.initial.n (piece_of l.rank (tokens_at l.d l.s l.from)) ≡ after l.c l.n (piece_of l.rank (tokens_at l.d l.s l.at)))
    × (l.n.total + waiting l.n.held ≤ l.initial.n.total + waiting l.initial.n.held + 2 * l.at)

abbrev pub decreases-loop-byte : goal.decreases-loop-byte
decreases-loop-byte g l = length l.s - l.at
