-- `inputs::number_of` meets its contract. Assumes nothing.
use Prim.Native.Nat.{ℕ, ◌+◌, ◌*◌}
use mathlib.Core.Path.{sym, ap, ◌∙◌}
use native.Mathlib.Omega.{arith}
use lib.Dec.{eqb}
use lib.ListN.{length, drop}
use Rattle.lists.proofs.Tests.{fails, says_eq}
use Rattle.inputs.specs.Number.{number_from}
use Rattle.inputs.proofs.Numbers.{no_more, too_low, too_high, too_many, one_more, from_none, none_empty}
use Rattle.inputs.proofs.number.number_of.Goals.{then-b-lt48-via-then-b-lt48, then-b-lt48-via-else-b-lt48+then-b-gt-NINE, then-b-lt48-via-else-b-lt48+else-b-gt-NINE+then-n-gt99999999}
use Rattle.inputs.proofs.number.number_of.Goals as goal

pub returns-then-is_empty : goal.returns-then-is_empty
returns-then-is_empty c = sym (none_empty _ ((says_eq (length c.args.text.now) 0).0 (sym c.is_empty.ensures ∙ c.if-is_empty.true)))

pub loop-b-init : goal.loop-b-init
loop-b-init c =
    let n = length c.args.text.now in
    (omega arith, from_none _ (omega (arith, (fails (eqb n 0) (says_eq n 0)).0 (sym c.is_empty.ensures ∙ c.if-is_empty.false))))

pub returns-then-b-lt48 : goal.returns-then-b-lt48
returns-then-b-lt48 c =
    let known = c.loop-b.invariant.1 in
    let inside = c.loop-b-test.true in
    elim c.then-b-lt48.branch [
      | then-b-lt48-via-then-b-lt48 w ↦ sym (known ∙ too_low _ _ _ inside w.if-b-lt48.true)
      | then-b-lt48-via-else-b-lt48+then-b-gt-NINE w ↦ sym (known ∙ too_high _ _ _ inside w.if-b-lt48.false w.if-b-gt-NINE.true)
      | then-b-lt48-via-else-b-lt48+else-b-gt-NINE+then-n-gt99999999 w ↦
          sym (known ∙ too_many _ _ _ inside w.if-b-lt48.false w.if-b-gt-NINE.false w.if-n-gt99999999.true)
    ]

pub loop-b-preserved : goal.loop-b-preserved
loop-b-preserved c =
    let state = c.loop-b in (
      omega arith,
      state.invariant.1
          ∙ one_more _ _ _ c.loop-b-test.true c.if-b-lt48.false c.if-b-gt-NINE.false c.if-n-gt99999999.false
          ∙ ap (λ (digit : ℕ). number_from (10 * state.n + digit) (drop (state.b-index + 1) c.args.text.now)) (sym c.from.ensures),
    )

pub returns : goal.returns
returns c = sym (c.loop-b.invariant.1 ∙ no_more _ _ _ c.loop-b-test.false)
