-- `walk::beginning` meets its contract: nothing passed, and nothing is counted. Assumes nothing.
use mathlib.Core.Path.{refl}
use Rattle.lists.specs.Lists.{those, through}
use Rattle.segments.specs.Order.{segments_in, messages_in, groups_in, segments_since_header, messages_since_group, is_open, standing, walk_over}
use Rattle.walk.proofs.beginning.Goals as goal

pub returns : goal.returns
unfolding walk_over standing is_open segments_in messages_in groups_in segments_since_header messages_since_group those through
returns c = refl
