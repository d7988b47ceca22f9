-- `value_list_text::put_record` meets its contract: first its separator is put, then its value. Assumes nothing.
use mathlib.Core.Path.{refl}
use native.Mathlib.Omega.{arith}
use Rattle.value_list_text.specs.Composing.{item_of}
use Rattle.value_list_text.proofs.Composed.{separator_fits, value_fits, record_put}
use Rattle.value_list_text.proofs.put_record.Goals as goal

pub put_separator-kept-requires : goal.put_separator-kept-requires
put_separator-kept-requires g c =
    let item = item_of c.args.bytes.now c.args.r in
    (separator_fits c.args.c g.met.S.Sink.laws c.args.m item c.rank_of.ensures refl c.args.buffer.now c.requires.2, omega (arith, c.requires.1))

pub put_value-requires : goal.put_value-requires
put_value-requires g c =
    let item = item_of c.args.bytes.now c.args.r in
    value_fits c.args.c g.met.S.Sink.laws c.args.m item c.rank_of.ensures c.value_of.ensures c.args.buffer.now c.requires.2 c.put_separator-kept.ensures

pub returns : goal.returns
returns g c =
    let item = item_of c.args.bytes.now c.args.r in
    record_put c.args.c g.met.S.Sink.laws c.args.m item c.rank_of.ensures c.value_of.ensures c.args.buffer.now c.requires.2 c.put_separator-kept.ensures c.put_value.ensures
