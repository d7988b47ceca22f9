-- `export_columns::put_byte` meets its contract: what is held back, the numbers and the byte are put one after the other. Assumes nothing.
use Prim.Native.Nat.{◌+◌}
use mathlib.Core.Path.{sym, ap, subst, ◌∙◌}
use native.Mathlib.Omega.{arith}
use lib.ListN.{length}
use Rattle.storing.proofs.Putting.{room_left}
use Rattle.export_columns.specs.declared.Line.{Line}
use Rattle.export_columns.specs.Printing.{numbers_due, held_text, grown, Room}
use Rattle.export_columns.proofs.Lines.{byte_parts, end_held, grown_told, room_less, room_held}
use Rattle.export_columns.proofs.Steps.{value_put}
use Rattle.export_columns.proofs.put_byte.Goals as goal

pub put_held-past-requires : goal.put_held-past-requires
put_held-past-requires g c =
    let l = c.args.l in
    let pre = c.requires in
    (omega (arith, pre.0, byte_parts l c.args.b), room_less l (omega arith) pre.1)

pub put_begin-m-requires : goal.put_begin-m-requires
put_begin-m-requires g c =
    let l = c.args.l in
    let pre = c.requires in
    let put = c.put_held-past.ensures in
    let room = room_left g.met.S.Sink.laws c.args.buffer.now l.end (held_text l) put.0 in (
      omega (arith, pre.0, byte_parts l c.args.b, end_held l, ap (λ (x : Line). x.end + length (numbers_due x)) put.1, room),
      subst (λ (x : Line). Room x 0) (sym put.1) (room_held l 0 (room_less l (omega arith) pre.1)),
    )

pub set-requires : goal.set-requires
set-requires g c =
    let l = c.args.l in
    let past = c.put_held-past in
    let begun = c.put_begin-m.ensures in
    let laws = g.met.S.Sink.laws in
    omega (
      arith,
      c.requires.0,
      byte_parts l c.args.b,
      end_held l,
      ap (λ (x : Line). x.end + length (numbers_due x)) past.ensures.1,
      ap (λ (x : Line). x.end) begun.1,
      room_left laws c.args.buffer.now l.end (held_text l) past.ensures.0,
      room_left laws past.new.buffer past.result.end (numbers_due past.result) begun.0,
    )

pub overflow_add-result : goal.overflow_add-result
overflow_add-result g c =
    let l = c.args.l in
    record {
      fits =
          omega (
            arith,
            (room_held l 1 c.requires.1).most,
            ap (λ (x : Line). x.end + length (numbers_due x)) c.put_held-past.ensures.1,
            ap (λ (x : Line). x.end) c.put_begin-m.ensures.1,
          );
    }

pub returns : goal.returns
returns g c =
    let args = c.args in
    let l = args.l in
    let past = c.put_held-past in
    let begun = c.put_begin-m.ensures in (
      value_put g.met.S.Sink.laws args.buffer.now l args.b past.ensures.0 past.ensures.1 begun.0 begun.1 c.set.ensures,
      grown_told past.result begun.1 c.nothing_held.ensures ∙ ap (λ (x : Line). grown x) past.ensures.1,
    )
