-- `normal_form_text::put_part` meets its contract: a part without empty ends is put without the line breaks, and what follows it after it.
-- Assumes nothing.
use mathlib.Core.Path.{sym}
use native.Mathlib.Omega.{arith}
use Rattle.stretches.specs.declared.Reached.{Reached}
use Rattle.stretches.proofs.Steps.{later}
use Rattle.normal_form_text.proofs.Parts.{rest_fits, put_more, fits_with, put_with, clear_fits, clear_put}
use Rattle.normal_form_text.proofs.put_part.Goals as goal

pub put_between-total-requires : goal.put_between-total-requires
put_between-total-requires g c =
    let x = c.args in
    let (starts, sound, form, printed, whole) = c.requires in
    let (short, inside, low, calm, room) = starts in
    let clear = c.clear_end-to.ensures in
    let mid : Reached = record { total = x.from.total; at = c.clear_end-to.result } in
    let enough = fits_with g.S.Sink.room x.by.c x.s.now x.buffer.now x.from form room in
    (clear_fits g.met.S.Sink.laws x.by.c x.by.n.repetition x.s.now x.buffer.now x.from mid clear sound enough, clear.0, clear.1 inside, whole)

pub put_rest-requires : goal.put_rest-requires
put_rest-requires g c =
    let x = c.args in
    let (starts, sound, form, printed, whole) = c.requires in
    let (short, inside, low, calm, room) = starts in
    let clear = c.clear_end-to.ensures in
    let (put, to) = c.put_between-total.ensures in
    let mid : Reached = record { total = c.put_between-total.result; at = c.clear_end-to.result } in
    let first = put_with x.by.c x.s.now (sym form) (clear_put g.met.S.Sink.laws x.by.c x.by.n.repetition x.s.now x.buffer.now x.from mid clear sound inside put to) in
    (short, clear.1 inside, omega (arith, first.measured.low, first.measured.on), calm, rest_fits g.met.S.Sink.laws x.by.c x.by.n x.s.now first room)

pub returns : goal.returns
returns g c =
    let x = c.args in
    let (starts, sound, form, printed, whole) = c.requires in
    let (short, inside, low, calm, room) = starts in
    let clear = c.clear_end-to.ensures in
    let (put, to) = c.put_between-total.ensures in
    let mid : Reached = record { total = c.put_between-total.result; at = c.clear_end-to.result } in
    let first = put_with x.by.c x.s.now (sym form) (clear_put g.met.S.Sink.laws x.by.c x.by.n.repetition x.s.now x.buffer.now x.from mid clear sound inside put to) in
    let (rest, further) = c.put_rest.ensures in
    (put_more g.met.S.Sink.laws x.by.c x.by.n x.s.now first rest, λ i. later i clear.0 rest.measured.on further)
