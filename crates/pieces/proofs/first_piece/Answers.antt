-- `pieces::first_piece` meets its contract: without a byte there is no piece, and else what the opening answers decides whether there is
-- a walk. Assumes nothing.
use mathlib.Core.Path.{◌∙◌}
use Rattle.pieces.proofs.Walking.{ending_none, ending_unopened, ending_opened}
use Rattle.pieces.proofs.first_piece.Goals as goal

pub returns-then-rest-eq0 : goal.returns-then-rest-eq0
returns-then-rest-eq0 c = ending_none _ c.if-rest-eq0.true

pub returns-in-Err : goal.returns-in-Err
returns-in-Err c = ending_unopened _ c.if-rest-eq0.false c.opening_of.ensures c.in-Err.is

pub returns-in-Ok : goal.returns-in-Ok
returns-in-Ok c =
    c.unz_ending.ensures
    ∙ ending_opened _ c.if-rest-eq0.false c.opening_of.ensures c.in-Ok.is
