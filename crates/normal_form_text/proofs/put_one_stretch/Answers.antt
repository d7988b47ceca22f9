-- `normal_form_text::put_one_stretch` meets its contract: a stretch is put byte for byte, and what is left of its segment after it.
-- Assumes nothing.
use Prim.Native.Nat.{◌+◌, ◌-◌}
use mathlib.Core.Path.{refl}
use native.Mathlib.Omega.{arith}
use Rattle.stretches.specs.declared.Reached.{Reached}
use Rattle.stretches.proofs.Steps.{later}
use Rattle.normal_form_text.proofs.Parts.{rest_fits, put_more, stretch_fits, stretch_put}
use Rattle.normal_form_text.proofs.put_one_stretch.Goals as goal

pub put_stretch-requires : goal.put_stretch-requires
put_stretch-requires g c =
    let x = c.args in
    let (short, inside, low, calm, room) = c.requires in
    let st = c.stretch_end-to.ensures in
    let mid : Reached = record { total = x.from.total + (c.stretch_end-to.result - x.from.at); at = c.stretch_end-to.result } in
    (stretch_fits g.met.S.Sink.laws x.by.c x.by.n x.s.now x.buffer.now x.from mid st room, st.1 inside)

pub overflow_add-r : goal.overflow_add-r
overflow_add-r g c =
    let (short, inside, low, calm, room) = c.requires in
    omega (arith, c.stretch_end-to.ensures.1 inside)

pub returns-then-passed-ge192 : goal.returns-then-passed-ge192
returns-then-passed-ge192 g c =
    let x = c.args in
    let mid : Reached = record { total = x.from.total + (c.stretch_end-to.result - x.from.at); at = c.stretch_end-to.result } in
    (stretch_put g.met.S.Sink.laws x.by.c x.by.n x.s.now x.buffer.now x.from mid c.stretch_end-to.ensures c.put_stretch.ensures refl, λ i. omega arith)

pub put_segment-requires : goal.put_segment-requires
put_segment-requires g c =
    let x = c.args in
    let (short, inside, low, calm, room) = c.requires in
    let st = c.stretch_end-to.ensures in
    let mid : Reached = record { total = x.from.total + (c.stretch_end-to.result - x.from.at); at = c.stretch_end-to.result } in
    let first = stretch_put g.met.S.Sink.laws x.by.c x.by.n x.s.now x.buffer.now x.from mid st c.put_stretch.ensures refl in
    (short, st.1 inside, omega (arith, st.0), calm, rest_fits g.met.S.Sink.laws x.by.c x.by.n x.s.now first room)

pub returns : goal.returns
returns g c =
    let x = c.args in
    let st = c.stretch_end-to.ensures in
    let mid : Reached = record { total = x.from.total + (c.stretch_end-to.result - x.from.at); at = c.stretch_end-to.result } in
    let first = stretch_put g.met.S.Sink.laws x.by.c x.by.n x.s.now x.buffer.now x.from mid st c.put_stretch.ensures refl in
    let (part, further) = c.put_segment.ensures in
    (put_more g.met.S.Sink.laws x.by.c x.by.n x.s.now first part, λ i. later i st.0 part.measured.on further)
