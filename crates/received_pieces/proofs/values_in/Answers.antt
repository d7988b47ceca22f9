-- `received_pieces::values_in` meets its contract. The loop's invariant: what is listed and the values of what is left of the piece, with
-- a terminator that ends it, are the whole; and there is at most a value and a byte of a value for each byte passed. What is left of the
-- input falls. Assumes nothing.
use Prim.Native.Nat.{◌+◌, ◌-◌}
use mathlib.Core.Path.{refl, sym, ap, subst}
use native.Mathlib.Omega.{arith}
use lib.ListN.{length}
use Rattle.values.specs.Tokens.{tokens_at}
use Rattle.read_counts.specs.declared.Listing.{Listing}
use Rattle.read_counts.proofs.Steps.{Tallied, tallied_start, tallied_byte, tallied_separator, tallied_end}
use Rattle.received_pieces.specs.Pieces.{piece_of, ended}
use Rattle.received_pieces.proofs.Steps.{next_as}
use Rattle.received_pieces.proofs.values_in.Goals as goal

pub loop-next-init : goal.loop-next-init
loop-next-init c =
    let s = c.args.s.now in
    let from = c.args.from in
    let ts = ended (piece_of 1 (tokens_at c.args.d s from)) in
    subst (λ (l : Listing). Tallied ts l ts (length s - from + 1) (length s + 1)) (sym c.start_of_list-l.ensures)
    (tallied_start ts (length s - from + 1) (length s + 1) (omega arith))

pub with_byte-l-requires : goal.with_byte-l-requires
with_byte-l-requires c =
    let t = c.loop-next.invariant.enough in
    (omega (arith, t.many, c.requires), omega (arith, t.long, c.requires))

pub loop-next-smaller-in-Byte : goal.loop-next-smaller-in-Byte
loop-next-smaller-in-Byte c = let step = next_as _ _ _ _ c.next_in.ensures c.in-Byte.is in omega (arith, step)

pub loop-next-preserved-in-Byte : goal.loop-next-preserved-in-Byte
loop-next-preserved-in-Byte c =
    let step = next_as _ _ _ _ c.next_in.ensures c.in-Byte.is in
    tallied_byte c.loop-next.l c.loop-next.invariant (omega (arith, step)) (ap ended step.0) c.with_byte-l.ensures

pub with_separator-l-requires : goal.with_separator-l-requires
with_separator-l-requires c =
    let t = c.loop-next.invariant.enough in
    (omega (arith, t.many, c.requires), omega (arith, t.long, c.requires))

pub loop-next-smaller : goal.loop-next-smaller
loop-next-smaller c = let step = next_as _ _ _ _ c.next_in.ensures c.in-Separator.is in omega (arith, step)

pub loop-next-preserved : goal.loop-next-preserved
loop-next-preserved c =
    let step = next_as _ _ _ _ c.next_in.ensures c.in-Separator.is in
    tallied_separator c.loop-next.l c.loop-next.invariant (omega (arith, step)) (ap ended step.0) c.with_separator-l.ensures

pub with_separator-requires : goal.with_separator-requires
with_separator-requires c =
    let t = c.loop-next.invariant.enough in
    (omega (arith, t.many, c.requires), omega (arith, t.long, c.requires))

pub returns-in-Ended : goal.returns-in-Ended
returns-in-Ended c =
    let step = next_as _ _ _ _ c.next_in.ensures c.in-Ended.is in
    let last = tallied_separator c.loop-next.l c.loop-next.invariant {less = 0} (omega arith) (ap ended step) c.with_separator.ensures in
    (omega (arith, (tallied_end c.with_separator.result last refl).1), omega (arith, last.enough.many))
