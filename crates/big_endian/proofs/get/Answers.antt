-- `big_endian::get` meets its contract. The loop's invariant: the number is what was read so far, and reading goes on from it. Assumes nothing.
use Prim.Native.Nat.{ℕ, ◌+◌, ◌*◌, ◌-◌}
use mathlib.Core.Path.{sym, ap, ◌∙◌}
use native.Mathlib.Omega.{arith}
use lib.ListN.{take, drop}
use Rattle.numbers.specs.Numbers.{read_on}
use Rattle.big_endian.proofs.Steps.{part_length, part_byte, none_read, one_read, all_read, digit_more, digit_room}
use Rattle.big_endian.proofs.get.Goals as goal

pub loop-b-init : goal.loop-b-init
loop-b-init c = let x = c.args in (omega arith, none_read x.s.now x.at x.width (x.at + x.width - x.at) (omega arith))

pub overflow_mul-number : goal.overflow_mul-number
overflow_mul-number c =
    let x = c.args in
    let loop = c.loop-b in
    let few = part_length x.s.now x.at x.width (x.at + x.width - x.at) (omega arith) (omega arith) in
    record { fits = omega (arith, digit_room loop.number loop.b-index loop.invariant.0 (omega (arith, few))) }

pub overflow_add-number : goal.overflow_add-number
overflow_add-number c =
    let x = c.args in
    let loop = c.loop-b in
    let few = part_length x.s.now x.at x.width (x.at + x.width - x.at) (omega arith) (omega arith) in
    let room = digit_room loop.number loop.b-index loop.invariant.0 (omega (arith, few)) in
    let byte = part_byte x.s.now x.at (x.at + x.width - x.at) loop.b-index (omega (arith, few)) in
    record { fits = omega (arith, room, byte, c.from.ensures, c.type_inv.s (x.at + loop.b-index)) }

pub loop-b-preserved : goal.loop-b-preserved
loop-b-preserved c =
    let x = c.args in
    let loop = c.loop-b in
    let part = x.at + x.width - x.at in
    let bytes = take part (drop x.at x.s.now) in
    let few = part_length x.s.now x.at x.width part (omega arith) (omega arith) in
    let byte = part_byte x.s.now x.at part loop.b-index (omega (arith, few)) in (
      digit_more loop.number c.from.result loop.b-index loop.invariant.0 (omega (arith, byte, c.from.ensures, c.type_inv.s (x.at + loop.b-index))),
      loop.invariant.1
          ∙ one_read bytes loop.b-index loop.number c.loop-b-test.true
          ∙ ap (λ (b : ℕ). read_on (loop.number * 256 + b) (drop (loop.b-index + 1) bytes)) (sym c.from.ensures),
    )

pub returns : goal.returns
returns c =
    let x = c.args in
    let loop = c.loop-b in
    sym (loop.invariant.1 ∙ all_read (take (x.at + x.width - x.at) (drop x.at x.s.now)) loop.b-index loop.number c.loop-b-test.false)
