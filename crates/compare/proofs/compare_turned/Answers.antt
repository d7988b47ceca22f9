-- `compare::compare_turned` meets its contract: the answer in the other order, turned round. Assumes nothing.
use Rattle.std.specs.Prelude.{Ok, Err}
use mathlib.Core.Path.{◌≡◌, refl, sym, ap, subst, ◌∙◌}
use borrow.Author.Rules.{rules}
use Rattle.refusals.specs.declared.Refusal.{Refusal}
use Rattle.answers.specs.declared.Unaccepted.TheVariants.{First}
use Rattle.answers.specs.declared.Figures.{Figures}
use Rattle.contracts.specs.Promises.{Compares}
use Rattle.lists.specs.Lists.{maybe}
use Rattle.judge.proofs.Told.{told_accepted, told_refused}
use Rattle.compare.proofs.Turned.{turned, turned_is}
use Rattle.compare.proofs.compare_turned.Goals as goal

pub returns-in-Ok : goal.returns-in-Ok
unfolding turned
returns-in-Ok c =
    let x = c.args in
    turned_is x.first.now x.second.now c.compare_in_order.ensures c.in-Ok.is refl

pub returns-in-Err-Second : goal.returns-in-Err-Second
unfolding turned
returns-in-Err-Second c =
    let x = c.args in
    turned_is x.first.now x.second.now c.compare_in_order.ensures (c.in-Err-Second.is ∙ ap Err c.in-Err-Second.field-0-is) refl

pub returns-in_err-map_err-in-Err-First : goal.returns-in_err-map_err-in-Err-First
unfolding turned maybe
returns-in_err-map_err-in-Err-First c =
    let x = c.args in
    let e : (q : Refusal) × (c.judge.result ≡ Err q) × (c.from_residual.result ≡ Err (First q)) = search rules in
    subst (Compares x.first.now x.second.now) (sym e.2)
    (turned_is x.first.now x.second.now c.compare_in_order.ensures (c.in-Err-First.is ∙ ap Err c.in-Err-First.field-0-is)
    (told_refused x.first.now c.judge.ensures e.1))

pub returns-in_ok-map_err-in-Err-First : goal.returns-in_ok-map_err-in-Err-First
unfolding turned maybe
returns-in_ok-map_err-in-Err-First c =
    let x = c.args in
    let e : (i : Figures) × (c.judge.result ≡ Ok i) = search rules in
    turned_is x.first.now x.second.now c.compare_in_order.ensures (c.in-Err-First.is ∙ ap Err c.in-Err-First.field-0-is)
    (told_accepted x.first.now c.judge.ensures e.1).0
