-- `stage_bytes::in_level` meets its contract: where every byte is in the level, or all are orderly, nothing is refused, and elsewhere the
-- walk answers. Assumes nothing.
use mathlib.Core.Path.{sym, ap, ◌∙◌}
use Rattle.refusals.specs.Refusals.{outcome}
use Rattle.stage_bytes.proofs.Inside.{all_leveled}
use Rattle.stage_bytes.proofs.Orderly.{all_orderly_leveled}
use Rattle.stage_bytes.proofs.in_level.Goals as goal

pub returns-then-all_in_level : goal.returns-then-all_in_level
unfolding outcome
returns-then-all_in_level c = ap outcome (sym (all_leveled c.args.c c.args.level c.args.s.now c.args.start (sym c.all_in_level.ensures ∙ c.if-all_in_level.true)))

pub returns-then-all_orderly : goal.returns-then-all_orderly
unfolding outcome
returns-then-all_orderly c = ap outcome (sym (all_orderly_leveled c.args.c c.args.level c.args.s.now c.args.start (sym c.all_orderly.ensures ∙ c.if-all_orderly.true)))
