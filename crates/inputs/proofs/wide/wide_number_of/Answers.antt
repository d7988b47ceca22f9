-- `inputs::wide_number_of` meets its contract. Assumes nothing.
use Prim.Native.Nat.{ℕ, ◌+◌}
use mathlib.Core.Path.{sym, ap, ◌∙◌}
use native.Mathlib.Omega.{arith}
use lib.Dec.{eqb}
use lib.ListN.{length, drop}
use Rattle.lists.proofs.Tests.{fails, says_eq}
use Rattle.inputs.specs.WideNumber.{wide_number_from}
use Rattle.inputs.proofs.WideNumbers.{no_more, too_low, too_high, too_many, one_more, from_none, none_empty}
use Rattle.inputs.proofs.wide.wide_number_of.Goals.{then-b-lt48-via-then-b-lt48, then-b-lt48-via-else-b-lt48+then-b-gt57}
use Rattle.inputs.proofs.wide.wide_number_of.Goals as goal

pub returns-then-is_empty : goal.returns-then-is_empty
returns-then-is_empty c = sym (none_empty _ ((says_eq (length c.args.text.now) 0).0 (sym c.is_empty.ensures ∙ c.if-is_empty.true)))

pub loop-b-init : goal.loop-b-init
loop-b-init c =
    let n = length c.args.text.now in
    (omega arith, from_none _ (omega (arith, (fails (eqb n 0) (says_eq n 0)).0 (sym c.is_empty.ensures ∙ c.if-is_empty.false))))

pub returns-then-b-lt48 : goal.returns-then-b-lt48
returns-then-b-lt48 c =
    let known = c.loop-b.invariant.1 in
    let inside = c.loop-b-test.true in
    elim c.then-b-lt48.branch [
      | then-b-lt48-via-then-b-lt48 w ↦ sym (known ∙ too_low _ _ _ inside w.if-b-lt48.true)
      | then-b-lt48-via-else-b-lt48+then-b-gt57 w ↦ sym (known ∙ too_high _ _ _ inside w.if-b-lt48.false w.if-b-gt57.true)
    ]

pub returns-in_err-checked_mul : goal.returns-in_err-checked_mul
returns-in_err-checked_mul c =
    c.from_residual.ensures
    ∙ sym (c.loop-b.invariant.1 ∙ too_many _ _ _ c.loop-b-test.true c.if-b-lt48.false c.if-b-gt57.false (omega (arith, c.in_err-checked_mul.ensures)))

pub returns-in_err-n : goal.returns-in_err-n
returns-in_err-n c =
    c.from_residual-in_err-n.ensures
    ∙ sym
    (c.loop-b.invariant.1
    ∙ too_many _ _ _ c.loop-b-test.true c.if-b-lt48.false c.if-b-gt57.false (omega (arith, c.in_err-n.ensures, c.in_ok-checked_mul.ensures, c.from.ensures)))

pub loop-b-preserved : goal.loop-b-preserved
loop-b-preserved c =
    let state = c.loop-b in
    let tens = c.in_ok-checked_mul.ensures.1 in
    let sum = c.in_ok-n.ensures in (
      omega (arith, sum.0, sum.1),
      state.invariant.1
          ∙ one_more _ _ _ c.loop-b-test.true c.if-b-lt48.false c.if-b-gt57.false (omega (arith, sum.0, tens, c.from.ensures))
          ∙ ap (λ (n : ℕ). wide_number_from n (drop (state.b-index + 1) c.args.text.now)) (omega (arith, sum.1, tens, c.from.ensures)),
    )

pub returns : goal.returns
returns c = sym (c.loop-b.invariant.1 ∙ no_more _ _ _ c.loop-b-test.false)
