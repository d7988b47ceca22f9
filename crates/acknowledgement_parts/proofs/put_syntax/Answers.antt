-- `acknowledgement_parts::put_syntax` meets its contract: a separator and a value, twice. Assumes nothing.
use native.Mathlib.Omega.{arith}
use Rattle.acknowledgement_parts.specs.Parts.{syntax_items}
use Rattle.value_list_text.specs.Advancing.{records_tokens}
use Rattle.acknowledgement_parts.proofs.Parts.{room_for, syntax_most, level_lead, level_fits, version_lead, version_fits, syntax_put, past_separator, past_piece}
use Rattle.acknowledgement_parts.proofs.put_syntax.Goals as goal

pub put_separator-begun-requires : goal.put_separator-begun-requires
put_separator-begun-requires g c =
    let x = c.args in
    let known = c.requires in
    let fits = room_for g.S.Sink.room x.c x.m (records_tokens (syntax_items x.s.now x.d x.level x.version)) x.buffer.now known.3 (omega (arith, known.0, known.1, known.2, syntax_most x.c x.s.now x.d x.level x.version x.m)) in
    (level_lead x.c x.s.now x.d x.level x.version x.m g.met.S.Sink.laws x.buffer.now fits, omega (arith, known.0, known.1))

pub put_piece-named-requires : goal.put_piece-named-requires
put_piece-named-requires g c =
    let x = c.args in
    let known = c.requires in
    let fits = room_for g.S.Sink.room x.c x.m (records_tokens (syntax_items x.s.now x.d x.level x.version)) x.buffer.now known.3 (omega (arith, known.0, known.1, known.2, syntax_most x.c x.s.now x.d x.level x.version x.m)) in
    let put = c.put_separator-begun.ensures in
    (level_fits x.c x.s.now x.d x.level x.version x.m g.met.S.Sink.laws x.buffer.now fits put, omega (arith, known.0, known.1, known.2, past_separator x.c x.m 1 put.1))

pub put_separator-next-requires : goal.put_separator-next-requires
put_separator-next-requires g c =
    let x = c.args in
    let known = c.requires in
    let fits = room_for g.S.Sink.room x.c x.m (records_tokens (syntax_items x.s.now x.d x.level x.version)) x.buffer.now known.3 (omega (arith, known.0, known.1, known.2, syntax_most x.c x.s.now x.d x.level x.version x.m)) in
    let put = c.put_separator-begun.ensures in
    let named = c.put_piece-named.ensures in
    (version_lead x.c x.s.now x.d x.level x.version x.m g.met.S.Sink.laws x.buffer.now fits put named, omega (arith, known.0, known.1, known.2, past_separator x.c x.m 1 put.1, past_piece x.c c.put_separator-begun.result x.d x.s.now 3 x.level named.1))

pub put_piece-requires : goal.put_piece-requires
put_piece-requires g c =
    let x = c.args in
    let known = c.requires in
    let fits = room_for g.S.Sink.room x.c x.m (records_tokens (syntax_items x.s.now x.d x.level x.version)) x.buffer.now known.3 (omega (arith, known.0, known.1, known.2, syntax_most x.c x.s.now x.d x.level x.version x.m)) in
    let put = c.put_separator-begun.ensures in
    let named = c.put_piece-named.ensures in
    let next = c.put_separator-next.ensures in
    (version_fits x.c x.s.now x.d x.level x.version x.m g.met.S.Sink.laws x.buffer.now fits put named next, omega (arith, known.0, known.1, known.2, past_separator x.c x.m 1 put.1, past_piece x.c c.put_separator-begun.result x.d x.s.now 3 x.level named.1, past_separator x.c c.put_piece-named.result 3 next.1))

pub returns : goal.returns
returns g c =
    let x = c.args in
    let known = c.requires in
    let fits = room_for g.S.Sink.room x.c x.m (records_tokens (syntax_items x.s.now x.d x.level x.version)) x.buffer.now known.3 (omega (arith, known.0, known.1, known.2, syntax_most x.c x.s.now x.d x.level x.version x.m)) in
    syntax_put x.c x.s.now x.d x.level x.version x.m g.met.S.Sink.laws x.buffer.now fits c.put_separator-begun.ensures c.put_piece-named.ensures c.put_separator-next.ensures c.put_piece.ensures
