-- `report::counted` meets its contract: each case is counted as its own function counts it. Assumes nothing.
use mathlib.Core.Path.{sym, ap, ◌∙◌, subst}
use Rattle.report.specs.Counting.{counted, Countable}
use Rattle.report.proofs.counted.Goals as goal

pub with_accepted-requires : goal.with_accepted-requires
with_accepted-requires c = (c.requires.0, subst Countable c.in-Ok.is c.requires.1)

pub with_refused-requires : goal.with_refused-requires
with_refused-requires c = (c.requires.0, subst Countable c.in-Err.is c.requires.1)

pub returns-in-Ok : goal.returns-in-Ok
unfolding counted
returns-in-Ok c = c.with_accepted.ensures ∙ sym (ap (counted c.args.report) c.in-Ok.is)

pub returns-in-Err : goal.returns-in-Err
unfolding counted
returns-in-Err c = c.with_refused.ensures ∙ sym (ap (counted c.args.report) c.in-Err.is)
