-- `pieces::piece_end` meets its contract: what the opening answers decides whether there is a walk. Assumes nothing.
use mathlib.Core.Path.{◌∙◌}
use Rattle.pieces.proofs.Walking.{end_unopened, end_opened}
use Rattle.pieces.proofs.piece_end.Goals as goal

pub returns-in-Err : goal.returns-in-Err
returns-in-Err c = end_unopened _ c.opening_of.ensures c.in-Err.is

pub returns-in-Ok : goal.returns-in-Ok
returns-in-Ok c =
    c.unz_end.ensures
    ∙ end_opened _ c.opening_of.ensures c.in-Ok.is
