-- `scanner::scan` meets its contract. The loop's invariant: how the segment ends is how the rest of it, from `at` on, ends.
-- What is left of the input falls. Assumes nothing.
use Prim.Native.Nat.{◌+◌}
use mathlib.Core.Path.{sym, ap, ◌∙◌}
use native.Mathlib.Omega.{arith}
use borrow.Author.Rules.{rules}
use Rattle.values.specs.Tokens.{tokens_at}
use Rattle.line_breaks.proofs.Passing.{after_least, after_most}
use Rattle.scanner.specs.Scan.{ended}
use Rattle.scanner.proofs.Scanning.{releases, scan_other, scan_others, scan_ends, scan_past, passed_none, passed_one}
use Rattle.scanner.proofs.scan.Goals as goal

pub loop-at-init : goal.loop-at-init
loop-at-init c = (c.past_others-at.ensures.0, scan_others _ _ c.releasing-release.ensures c.past_others-at.ensures)

pub returns-then-b-c : goal.returns-then-b-c
returns-then-b-c c =
    let x = c.args in
    let at = c.loop-at.at in
    let e = c.after_breaks.ensures in (
      c.loop-at.invariant.1
          ∙ scan_ends _ _ _ (search rules) c.if-b-c.true
          ∙ ap (λ n. ended (tokens_at x.c x.s.now n)) (sym e),
      omega (arith, e, after_least x.s.now (at + 1)),
      omega (arith, e, after_most x.s.now (at + 1) (omega arith)),
    )

pub past_release-next-requires : goal.past_release-next-requires
past_release-next-requires c = (search rules, releases _ _ _ c.releasing-release.ensures c.if-b-release.true c.if-b-c.false)

pub returns-then-next-at : goal.returns-then-next-at
returns-then-next-at c = c.loop-at.invariant.1 ∙ passed_none _ _ _ c.past_release-next.ensures c.if-next-at.true

pub loop-at-smaller-then-b-release : goal.loop-at-smaller-then-b-release
loop-at-smaller-then-b-release c = let p = passed_one _ _ _ c.past_release-next.ensures c.if-next-at.false in omega arith

pub loop-at-preserved-then-b-release : goal.loop-at-preserved-then-b-release
loop-at-preserved-then-b-release c = let p = passed_one _ _ _ c.past_release-next.ensures c.if-next-at.false in (omega arith, c.loop-at.invariant.1 ∙ p.2)

pub loop-at-smaller : goal.loop-at-smaller
loop-at-smaller c = omega arith

pub loop-at-preserved : goal.loop-at-preserved
loop-at-preserved c =
    (omega arith, c.loop-at.invariant.1 ∙ scan_other _ _ _ c.releasing-release.ensures (search rules) c.if-b-c.false c.if-b-release.false)

pub returns : goal.returns
returns c = c.loop-at.invariant.1 ∙ scan_past _ _ _ (search rules)
