-- `reported::report_of` meets its contract: the interchange is not reported, or what is taken from it says. Assumes nothing.
use mathlib.Core.Path.{sym, subst, ◌∙◌}
use Rattle.reported.specs.Reporting.{Reports}
use Rattle.reported.proofs.Asked.{unreported_is, reported_is}
use Rattle.reported.proofs.report_of.Goals as goal

pub returns-in_err-standing_of : goal.returns-in_err-standing_of
returns-in_err-standing_of c =
    let s = c.args.s.now in
    subst (Reports s) (sym c.from_residual.ensures) (unreported_is s (sym c.standing_of.ensures ∙ c.in_err-standing_of.was))

pub taken_from-requires : goal.taken_from-requires
taken_from-requires c = reported_is c.args.s.now (sym c.standing_of.ensures ∙ c.in_ok-standing_of.was)
