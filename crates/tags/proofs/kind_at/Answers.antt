-- `tags::kind_at` meets its contract: the first byte tells a user segment, or the value that begins with the segment is its tag. Assumes
-- nothing.
use mathlib.Core.Path.{◌∙◌}
use Rattle.tags.proofs.Tagging.{kind_three, kind_other}
use Rattle.tags.proofs.kind_at.Goals as goal

pub returns-then-begins_as_user : goal.returns-then-begins_as_user
returns-then-begins_as_user c = c.begins_as_user.ensures c.if-begins_as_user.true

pub returns-then-word-eq3 : goal.returns-then-word-eq3
returns-then-word-eq3 c = c.kind_named.ensures ∙ kind_three _ _ _ _ c.word_at-word.ensures c.if-word-eq3.true

pub returns-else-word-eq3 : goal.returns-else-word-eq3
returns-else-word-eq3 c = kind_other _ _ _ _ c.word_at-word.ensures c.if-word-eq3.false
