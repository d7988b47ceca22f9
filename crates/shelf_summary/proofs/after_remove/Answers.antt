-- `shelf_summary::after_remove` meets its contract, case by case. Assumes nothing.
use native.Mathlib.Omega.{arith}
use mathlib.Core.Path.{sym, ap, subst, ◌∙◌}
use Rattle.shelf_summary.specs.Steps.{after_remove, RemoveFits}
use Rattle.shelf_summary.proofs.after_remove.Goals as goal

pub overflow_cast-size : goal.overflow_cast-size
unfolding RemoveFits
overflow_cast-size c = let x = c.args in let fits = subst (RemoveFits x.u x.slot) c.in-Ok.is c.requires in record { fits = omega (arith, fits.1) }

pub removed-requires : goal.removed-requires
unfolding RemoveFits
removed-requires c = let x = c.args in subst (RemoveFits x.u x.slot) c.in-Ok.is c.requires

pub returns-in-Ok : goal.returns-in-Ok
unfolding after_remove
returns-in-Ok c = let x = c.args in c.removed.ensures ∙ sym (ap (after_remove x.u x.slot) c.in-Ok.is)

pub returns-in-Err : goal.returns-in-Err
unfolding after_remove
returns-in-Err c = let x = c.args in sym (ap (after_remove x.u x.slot) c.in-Err.is)
