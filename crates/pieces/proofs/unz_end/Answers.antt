-- `pieces::unz_end` meets its contract: where the walk ends, by how it ends. Assumes nothing.
use mathlib.Core.Path.{ap, ◌∙◌}
use Rattle.pieces.specs.Walk.{end_in}
use Rattle.pieces.proofs.Walking.{end_walked}
use Rattle.pieces.proofs.unz_end.Goals as goal

pub returns : goal.returns
returns c = c.end_in.ensures ∙ ap (end_in _) c.unz_ending.ensures ∙ end_walked _ _ _
