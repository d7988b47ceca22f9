-- `table_walk::stepped` meets its contract. Assumes nothing.
use mathlib.Core.Path.{ap, ◌∙◌}
use native.Mathlib.Omega.{arith}
use Rattle.table_walk.specs.Walking.{segments_at}
use Rattle.table_walk.proofs.Standing.{step_left}
use Rattle.table_walk.proofs.stepped.Goals as goal

pub returns : goal.returns
returns c =
    let x = c.args in
    let skips = c.segment_end.ensures in
    let at = c.standing_at.ensures.at in
    record {
      left = ap (segments_at x.c x.s.now) at ∙ step_left x.c x.s.now x.next.at skips;
      marked = c.standing_at.ensures.marked;
      later = omega (arith, at, skips.1);
    }
