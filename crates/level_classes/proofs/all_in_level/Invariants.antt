-- `level_classes::all_in_level` meets its contract. The loop's invariant: all bytes from the start are in the level just where those so far
-- were and all from `at` are. Assumes nothing.
use Rattle.std.proofs.Common.{◌≡◌, ◌&&◌, drop}
use Rattle.lists.specs.Lists.{all}
use Rattle.levels.specs.Levels.{in_level}
use Rattle.level_classes.proofs.all_in_level.Given as goal

abbrev pub invariant-loop-at : goal.invariant-loop-at
invariant-loop-at l = all (in_level l.level) (drop l.start l.s) ≡ (l.inside && all (in_level l.level) (drop l.at l.s))
