-- `level_classes::is_between` meets its contract: it makes the definition's two tests. Assumes nothing.
use Rattle.std.proofs.Common.{rules}
use Rattle.characters.specs.Characters.{between}
use Rattle.level_classes.proofs.is_between.Goals as goal

pub returns : goal.returns
unfolding between
returns c = search (rules, c.contains.ensures.value)
