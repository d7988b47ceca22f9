-- `judge::stages_to_6` meets its contract: 1 answers, or what follows it does. Assumes nothing.
use mathlib.Core.Path.{◌∙◌}
use Rattle.judge.proofs.Stages.{too_long_lem, not_too_long}
use Rattle.judge.proofs.stages_to_6.Goals as goal

pub returns-then-s-gt-MOST_BYTES : goal.returns-then-s-gt-MOST_BYTES
returns-then-s-gt-MOST_BYTES c = c.failed.ensures ∙ too_long_lem _ c.if-s-gt-MOST_BYTES.true

pub returns : goal.returns
returns c = c.stages_2_to_6.ensures ∙ not_too_long _ c.if-s-gt-MOST_BYTES.false
