-- `level_classes::all_in_level` meets its contract. The loop's invariant: all bytes from the start are in the level just where those so far
-- were and all from `at` are. Assumes nothing.
use Rattle.std.proofs.Common.{sym, refl, ◌∙◌, arith}
use Rattle.levels.specs.Levels.{in_level}
use Rattle.level_classes.proofs.Bytes.{gathered_next, gathered_end}
use Rattle.level_classes.proofs.all_in_level.Goals as goal

pub loop-at-init : goal.loop-at-init
loop-at-init c = refl

pub loop-at-preserved : goal.loop-at-preserved
loop-at-preserved c =
    let args = c.args in
    let loop = c.loop-at in
    loop.invariant ∙ gathered_next (in_level args.level) args.s.now loop.at loop.inside (omega arith) (sym c.is_within-inside.ensures)

pub returns : goal.returns
returns c =
    let args = c.args in
    let loop = c.loop-at in
    sym (loop.invariant ∙ gathered_end (in_level args.level) args.s.now loop.at loop.inside (omega arith))
