-- `tags::tag_holds` meets its contract: the value that begins with the segment is its tag, and what ended it tells whether the tag's
-- element has one repeat, or where to look on. Assumes nothing.
use mathlib.Core.Path.{sym, ◌∙◌}
use native.Mathlib.Omega.{arith}
use borrow.Author.Rules.{rules}
use borrow.Author.Tests.{not-true, not-false}
use Rattle.tags.proofs.Repeats.{repeat_with_value, repeat_after_value}
use Rattle.tags.proofs.Tagging.{rule_other, rule_unnamed, rule_named}
use Rattle.tags.proofs.tag_holds.Goals.{then-word-ne3-via-then-word-ne3, then-word-ne3-via-else-word-ne3+then-not-well_named}
use Rattle.tags.proofs.tag_holds.Goals as goal

pub returns-then-word-ne3 : goal.returns-then-word-ne3
returns-then-word-ne3 c =
    elim c.then-word-ne3.branch [
      | then-word-ne3-via-then-word-ne3 w ↦ rule_other _ _ _ _ c.word_at-word.ensures w.if-word-ne3.true
      | then-word-ne3-via-else-word-ne3+then-not-well_named w ↦
          rule_unnamed _ _ _ _ c.word_at-word.ensures w.if-word-ne3.false w.well_named.ensures
          (not-true _ w.if-not-well_named.true-raw)
    ]

pub returns-then-word-le2 : goal.returns-then-word-le2
returns-then-word-le2 c =
    let w = c.word_at-word.ensures in
    sym (repeat_with_value _ _ _ _ w c.if-word-le2.true)
    ∙ rule_named _ _ _ _ w (omega arith) c.well_named.ensures
    (not-false _ c.if-not-well_named.false-raw)

pub returns-else-word-le2 : goal.returns-else-word-le2
returns-else-word-le2 c =
    let w = c.word_at-word.ensures in
    c.ends_unrepeated.ensures
    ∙ sym (repeat_after_value _ _ _ _ w (search rules))
    ∙ rule_named _ _ _ _ w (omega arith) c.well_named.ensures
    (not-false _ c.if-not-well_named.false-raw)
