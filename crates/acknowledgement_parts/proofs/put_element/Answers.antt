-- `acknowledgement_parts::put_element` meets its contract: a separator, the piece, and nothing held back. Assumes nothing.
use native.Mathlib.Omega.{arith}
use Rattle.values.specs.Tokens.{tokens_at}
use Rattle.operations.specs.ValueList.{list_element}
use Rattle.value_list_text.specs.Advancing.{records_tokens}
use Rattle.received_pieces.specs.Pieces.{element_in}
use Rattle.acknowledgement_parts.proofs.Parts.{room_for, element_most, element_lead, element_fits, element_put, past_separator}
use Rattle.acknowledgement_parts.proofs.put_element.Goals as goal

pub put_separator-begun-requires : goal.put_separator-begun-requires
put_separator-begun-requires g c =
    let x = c.args in
    let known = c.requires in
    let fits = room_for g.S.Sink.room x.c x.m (records_tokens (list_element 1 (element_in (tokens_at x.d x.s.now x.from)))) x.buffer.now known.4 (omega (arith, known.0, known.1, known.2, element_most x.c x.s.now x.d x.from known.3 x.m)) in
    (element_lead x.c x.s.now x.d x.from known.3 x.m g.met.S.Sink.laws x.buffer.now fits, omega (arith, known.0, known.1))

pub put_piece-past-requires : goal.put_piece-past-requires
put_piece-past-requires g c =
    let x = c.args in
    let known = c.requires in
    let fits = room_for g.S.Sink.room x.c x.m (records_tokens (list_element 1 (element_in (tokens_at x.d x.s.now x.from)))) x.buffer.now known.4 (omega (arith, known.0, known.1, known.2, element_most x.c x.s.now x.d x.from known.3 x.m)) in
    let put = c.put_separator-begun.ensures in
    (element_fits x.c x.s.now x.d x.from known.3 x.m g.met.S.Sink.laws x.buffer.now fits put, omega (arith, known.0, known.1, known.2, past_separator x.c x.m 1 put.1))

pub returns : goal.returns
returns g c =
    let x = c.args in
    let known = c.requires in
    let fits = room_for g.S.Sink.room x.c x.m (records_tokens (list_element 1 (element_in (tokens_at x.d x.s.now x.from)))) x.buffer.now known.4 (omega (arith, known.0, known.1, known.2, element_most x.c x.s.now x.d x.from known.3 x.m)) in
    element_put x.c x.s.now x.d x.from known.3 x.m g.met.S.Sink.laws x.buffer.now fits c.put_separator-begun.ensures c.put_piece-past.ensures c.nothing_held.ensures
