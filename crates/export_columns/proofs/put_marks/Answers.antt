-- `export_columns::put_marks` meets its contract. The loop's invariant: the text that is left, put from here, gives what all of it, put
-- at the start, gives, and the line after it is the same. Assumes nothing.
use Rattle.export_columns.proofs.Steps.{lets_fits, lets_room, lets_step, lets_end}
use Rattle.export_columns.proofs.put_marks.Goals as goal

pub put_end-m-requires : goal.put_end-m-requires
put_end-m-requires g c =
    let loop = c.loop in
    let taken = c.loop-test.true in
    (lets_fits g.met.S.Sink.laws loop.m loop.invariant taken, lets_room g.met.S.Sink.laws loop.m loop.invariant taken)

pub loop-preserved : goal.loop-preserved
loop-preserved g c =
    let loop = c.loop in
    let put = c.put_end-m.ensures in
    lets_step g.met.S.Sink.laws loop.m loop.invariant c.loop-test.true put.0 put.1

pub returns : goal.returns
returns g c = lets_end g.met.S.Sink.laws c.loop.m c.loop.invariant c.loop-test.false
