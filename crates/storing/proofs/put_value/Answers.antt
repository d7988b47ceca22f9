-- `storing::put_value` meets its contract. Assumes nothing.
use Prim.Native.Nat.{◌+◌}
use native.Mathlib.Omega.{arith}
use mathlib.Core.Path.{refl, ap}
use lib.ListN.{length, length-append, get_or, drop}
use Rattle.values.specs.Spelling.{spell_byte, spell_value}
use Rattle.storing.proofs.Stores.{value_next, value_done}
use Rattle.storing.proofs.Putting.{front_goes, going_step, going_done}
use Rattle.storing.proofs.put_value.Goals as goal

pub loop-b-init : goal.loop-b-init
loop-b-init g c = (record { put = refl; fits = c.requires; same_room = refl }, refl)

pub put_byte-end-requires : goal.put_byte-end-requires
put_byte-end-requires g c =
    let value = c.args.value.now in
    let i = c.loop-b.b-index in
    front_goes g.met.S.Sink.laws c.loop-b.invariant.0 (spell_byte c.args.c (get_or value i 0)) (spell_value c.args.c (drop (i + 1) value))
    (value_next c.args.c value i c.loop-b-test.true)

pub loop-b-preserved : goal.loop-b-preserved
loop-b-preserved g c =
    let value = c.args.value.now in
    let i = c.loop-b.b-index in
    let b = get_or value i 0 in
    let left = spell_value c.args.c (drop (i + 1) value) in
    let next = value_next c.args.c value i c.loop-b-test.true in (
      going_step g.met.S.Sink.laws c.loop-b.invariant.0 (spell_byte c.args.c b) left next c.put_byte-end.ensures.0 c.put_byte-end.ensures.1,
      omega (arith, c.put_byte-end.ensures.1, c.loop-b.invariant.1, ap length next, length-append (spell_byte c.args.c b) left),
    )

pub returns : goal.returns
returns g c =
    let done = value_done c.args.c c.args.value.now c.loop-b.b-index c.loop-b-test.false in
    (going_done g.met.S.Sink.laws c.loop-b.invariant.0 done, omega (arith, c.loop-b.invariant.1, ap length done))
