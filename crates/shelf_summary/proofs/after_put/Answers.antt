-- `shelf_summary::after_put` meets its contract, case by case. Assumes nothing.
use mathlib.Core.Path.{sym, ap, subst, ◌∙◌, ◌≡◌}
use Rattle.std.specs.Prelude.{Ok}
use Rattle.shelf_summary.specs.Steps.{after_put, PutFits}
use Rattle.shelf_summary.proofs.after_put.Goals as goal

pub put_new-requires : goal.put_new-requires
unfolding PutFits
put_new-requires c = let x = c.args in subst (PutFits x.u) (c.in-Ok.is ∙ ap Ok c.in-New.is) c.requires

pub returns-in-New : goal.returns-in-New
unfolding after_put
returns-in-New c = let x = c.args in c.put_new.ensures ∙ sym (ap (after_put x.u) (c.in-Ok.is ∙ ap Ok c.in-New.is))

pub returns-in-Copy : goal.returns-in-Copy
unfolding after_put
returns-in-Copy c = let x = c.args in c.put_copy.ensures ∙ sym (ap (after_put x.u) (c.in-Ok.is ∙ ap Ok c.in-Copy.is))

pub returns-in-Err : goal.returns-in-Err
unfolding after_put
returns-in-Err c = let x = c.args in sym (ap (after_put x.u) c.in-Err.is)
