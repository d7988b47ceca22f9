-- `column_lines::stands` meets its contract. The loop's invariant: the digits that are left stand at the place exactly where all of them do.
-- Assumes nothing.
use Prim.Native.Nat.{ℕ, ◌-◌}
use mathlib.Core.Path.{◌≡◌, sym, ap, ◌∙◌}
use native.Mathlib.Omega.{arith}
use lib.ListN.{length}
use Rattle.columns.specs.Lines.{in_decimal}
use Rattle.column_lines.proofs.Digits.{digits_stand, stand_all, stand_differs, stand_next, stand_none}
use Rattle.column_lines.proofs.stands.Goals as goal

pub loop-from-init : goal.loop-from-init
loop-from-init c =
    let args = c.args in
    let pre = c.requires in
    let all : length (in_decimal args.n) ≡ args.end - args.at = omega (arith, pre.0) in (
      omega (arith, pre.0),
      stand_all args.s.now args.at args.n ∙ ap (λ (k : ℕ). digits_stand args.s.now args.at k args.n) all,
    )

pub returns-then-s-from : goal.returns-then-s-from
returns-then-s-from c =
    let args = c.args in
    let loop = c.loop-from in
    let taken = c.loop-from-test.true in
    sym (loop.invariant.1
    ∙ stand_differs args.s.now args.at loop.from (loop.from - 1) loop.left (omega (arith, taken)) (omega (arith, taken)) (omega (arith, c.requires.1))
    (λ e. c.if-s-from.true (e ∙ sym c.last_digit.ensures)))

pub loop-from-preserved : goal.loop-from-preserved
loop-from-preserved c =
    let args = c.args in
    let loop = c.loop-from in
    let taken = c.loop-from-test.true in (
      omega (arith, taken),
      loop.invariant.1
          ∙ stand_next args.s.now args.at loop.from (loop.from - 1) loop.left (omega (arith, taken)) (omega (arith, taken)) (omega (arith, c.requires.1))
          (c.if-s-from.false ∙ c.last_digit.ensures),
    )

pub returns : goal.returns
returns c =
    let args = c.args in
    let loop = c.loop-from in
    sym (loop.invariant.1 ∙ stand_none args.s.now args.at loop.from loop.left c.loop-from-test.false)
