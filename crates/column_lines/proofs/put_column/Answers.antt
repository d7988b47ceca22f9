-- `column_lines::put_column` meets its contract. The loop's invariant: the digits that are left, stored at the place, give what all of them,
-- stored in the buffer of the start, give. Assumes nothing.
use Prim.Native.Nat.{ℕ, ◌+◌, ◌-◌, ◌/◌}
use mathlib.Core.Path.{◌≡◌, refl, sym, ap, ◌∙◌}
use mathlib.Core.List.{[], ◌∷◌}
use native.Mathlib.Omega.{arith}
use lib.ListN.{length, set}
use lib.Seq.{sets}
use Rattle.storing.proofs.Stores.{stored_after}
use Rattle.columns.specs.Lines.{tab, in_decimal}
use Rattle.column_lines.specs.Numbers.{cell}
use Rattle.column_lines.proofs.Digits.{last_digits, digits_all, digits_stored, none_stored}
use Rattle.column_lines.proofs.Numbers.{cell_length}
use Rattle.column_lines.proofs.put_column.Goals as goal

pub loop-to-init : goal.loop-to-init
loop-to-init c =
    let args = c.args in
    let all : args.at + c.digit_count.result - args.at ≡ length (in_decimal args.n) = omega (arith, c.digit_count.ensures.0) in (
      omega arith,
      ap (sets args.buffer.now args.at) (ap (λ (k : ℕ). last_digits k args.n) all ∙ sym (digits_all args.n)),
    )

pub bounds-buffer-to : goal.bounds-buffer-to
bounds-buffer-to c =
    omega (arith, c.loop-to-test.true, c.digit_count.ensures.0, cell_length c.args.n, c.requires)

pub loop-to-preserved : goal.loop-to-preserved
loop-to-preserved c =
    let inv = c.loop-to.invariant in
    let to = c.loop-to.to in
    let left = c.loop-to.left in
    let buffer = c.loop-to.buffer in
    let at = c.args.at in (
      omega (arith, c.loop-to-test.true),
      ap (λ (d : ℕ). sets (set buffer (to - 1) d) at (last_digits (to - 1 - at) (left / 10))) c.last_digit.ensures
          ∙ sym (digits_stored buffer at to (to - 1) left (omega (arith, c.loop-to-test.true)) (omega (arith, c.loop-to-test.true)))
          ∙ inv.1,
    )

pub bounds-buffer-end : goal.bounds-buffer-end
bounds-buffer-end c =
    omega (arith, c.digit_count.ensures.0, cell_length c.args.n, c.requires)

pub returns : goal.returns
unfolding cell
returns c =
    let args = c.args in
    let at = args.at in
    let loop = c.loop-to in
    let digits = sym (none_stored loop.buffer at loop.to loop.left c.loop-to-test.false) ∙ loop.invariant.1 in
    let count = c.digit_count.ensures.0 in (
      stored_after args.buffer.now at (in_decimal args.n) (tab ∷ []) digits (ap (λ (k : ℕ). at + k) count) refl,
      omega (arith, cell_length args.n, count),
    )
