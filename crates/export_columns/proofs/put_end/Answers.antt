-- `export_columns::put_end` meets its contract: the line feed is put after the numbers. Assumes nothing.
use mathlib.Core.Path.{ap}
use mathlib.Core.List.{[], ◌∷◌}
use native.Mathlib.Omega.{arith}
use Rattle.columns.specs.Lines.{line_feed}
use Rattle.storing.proofs.Putting.{put_after, room_left}
use Rattle.export_columns.specs.declared.Line.{Line}
use Rattle.export_columns.specs.Printing.{numbers_due}
use Rattle.export_columns.proofs.Lines.{end_length, room_less, begun_low, next_told}
use Rattle.export_columns.proofs.put_end.Goals as goal

pub put_begin-m-requires : goal.put_begin-m-requires
put_begin-m-requires g c =
    let l = c.args.l in
    (omega (arith, c.requires.0, end_length l), room_less l (omega arith) c.requires.1)

pub set-requires : goal.set-requires
set-requires g c =
    let l = c.args.l in
    let begun = c.put_begin-m.ensures in
    omega (
      arith,
      ap (λ (x : Line). x.end) begun.1,
      c.requires.0,
      end_length l,
      room_left g.met.S.Sink.laws c.args.buffer.now l.end (numbers_due l) begun.0,
    )

pub next_position-requires : goal.next_position-requires
next_position-requires g c = begun_low c.args.l c.requires.1 c.put_begin-m.ensures.1

pub returns : goal.returns
returns g c =
    let args = c.args in
    let l = args.l in
    let begun = c.put_begin-m.ensures in (
      put_after g.met.S.Sink.laws args.buffer.now l.end (numbers_due l) (line_feed ∷ []) begun.0 (ap (λ (x : Line). x.end) begun.1) c.set.ensures,
      next_told l args.kind begun.1 c.next_position.ensures,
    )
