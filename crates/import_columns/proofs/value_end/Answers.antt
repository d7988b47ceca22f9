-- `import_columns::value_end` meets its contract. The loop's invariant: the value's bytes from the start are those passed and those from
-- here on. Assumes nothing.
use mathlib.Core.Path.{sym, ap, ◌∙◌}
use native.Mathlib.Omega.{arith}
use lib.ListN.{length, get_or}
use Rattle.import_columns.specs.Importing.{ends_value}
use Rattle.import_columns.proofs.Lines.{ends_tested, before_hit, before_miss, before_end}
use Rattle.import_columns.proofs.value_end.Goals as goal

pub returns-then-b : goal.returns-then-b
returns-then-b c =
    let s = c.args.s.now in
    let at = c.loop-at.at in
    omega (arith, c.loop-at.invariant, ap length (before_hit ends_value s at c.loop-at-test.true (sym (ends_tested (get_or s at 0)) ∙ c.if-b.true)))

pub loop-at-preserved : goal.loop-at-preserved
loop-at-preserved c =
    let s = c.args.s.now in
    let at = c.loop-at.at in
    omega (arith, c.loop-at.invariant, before_miss ends_value s at c.loop-at-test.true (sym (ends_tested (get_or s at 0)) ∙ c.if-b.false))

pub returns : goal.returns
returns c = omega (arith, c.loop-at.invariant, before_end ends_value c.args.s.now c.loop-at.at c.loop-at-test.false)
