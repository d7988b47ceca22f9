-- `import_columns::put_line` meets its contract: first its separator is put, then its value. Assumes nothing.
use mathlib.Core.Path.{refl}
use native.Mathlib.Omega.{arith}
use Rattle.value_list_text.proofs.Composed.{separator_fits, value_fits, record_put}
use Rattle.column_walk.specs.Walk.{item_at}
use Rattle.import_columns.proofs.put_line.Goals as goal

pub put_separator-kept-requires : goal.put_separator-kept-requires
put_separator-kept-requires g c =
    let x = c.args in
    let known = c.requires in
    (separator_fits x.c g.met.S.Sink.laws x.m (item_at x.s.now x.l) c.rank_of.ensures refl x.output.now known.2, omega (arith, known.1))

pub put_value-requires : goal.put_value-requires
put_value-requires g c =
    let x = c.args in
    value_fits x.c g.met.S.Sink.laws x.m (item_at x.s.now x.l) c.rank_of.ensures refl x.output.now c.requires.2 c.put_separator-kept.ensures

pub returns : goal.returns
returns g c =
    let x = c.args in
    record_put x.c g.met.S.Sink.laws x.m (item_at x.s.now x.l) c.rank_of.ensures refl x.output.now c.requires.2 c.put_separator-kept.ensures c.put_value.ensures
