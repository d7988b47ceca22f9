-- `table_walk::tag_at` meets its contract: the value that begins with the segment is its tag. Assumes nothing.
use mathlib.Core.Path.{ap, ◌∙◌}
use Rattle.table_rows.specs.Rows.{tag_bytes}
use Rattle.table_walk.proofs.Standing.{tag_three, tag_other}
use Rattle.table_walk.proofs.tag_at.Goals as goal

pub returns-then-word-eq3 : goal.returns-then-word-eq3
returns-then-word-eq3 c =
    let x = c.args in
    tag_three x.c x.s.now x.at _ c.word_at-word.ensures c.if-word-eq3.true

pub returns-else-word-eq3 : goal.returns-else-word-eq3
returns-else-word-eq3 c =
    let x = c.args in
    ap tag_bytes c.no_tag.ensures ∙ tag_other x.c x.s.now x.at _ c.word_at-word.ensures c.if-word-eq3.false
