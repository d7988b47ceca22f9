-- `pieces::end_in` meets its contract: after the UNZ, or with the rest. Assumes nothing.
use mathlib.Core.Logic.{⊎_elim}
use mathlib.Core.Path.{sym, ap}
use Rattle.pieces.specs.Walk.{end_in}
use Rattle.pieces.proofs.end_in.Goals as goal

pub returns-in-AfterUnz : goal.returns-in-AfterUnz
unfolding end_in
returns-in-AfterUnz c = sym (ap (end_in _) c.in-AfterUnz.is)

pub returns-in-Stopped : goal.returns-in-Stopped
unfolding end_in
returns-in-Stopped c = ⊎_elim (λ stopped. sym (ap (end_in _) stopped.1)) (λ ended. sym (ap (end_in _) ended)) c.in-Stopped.is
