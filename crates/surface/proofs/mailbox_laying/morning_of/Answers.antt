-- `mailbox_laying::morning_of` meets its contract. Assumes nothing.
use Rattle.std.specs.Prelude.{Result}
use Rattle.refusals.specs.declared.Refusal.{Refusal}
use Rattle.answers.specs.Answers.{refused}
use Rattle.mailbox_files.specs.declared.Report.{Report}
use mathlib.Core.Path.{sym, ap, ◌∙◌}
use borrow.Author.Rules.{rules}
use Rattle.mailbox_files.specs.Report.{with_figures, told_reported}
use Rattle.surface.specs.OfMailbox.{morning_of}
use Rattle.surface.proofs.MailboxLaid.{given_beside, refused_beside}
use Rattle.surface.proofs.mailbox_laying.morning_of.Goals as goal

pub returns-in-Ok : goal.returns-in-Ok
unfolding told_reported
returns-in-Ok c =
    let laid = c.figures_beside.ensures in
    let report = c.in-Ok.report in
    laid.0 ∙ given_beside report laid.1 ∙ sym (ap (λ (r : Result Report Refusal). morning_of (told_reported r)) c.in-Ok.is)

pub returns-in-Err : goal.returns-in-Err
unfolding told_reported
returns-in-Err c =
    let laid = c.figures_beside-in-Err.ensures in
    let report = c.no_figures.result in
    laid.0
    ∙ refused_beside report laid.1 c.in-Err.refusal c.refusal_number.ensures
    ∙ ap (λ (r : Report). morning_of (with_figures (refused c.in-Err.refusal) r)) c.no_figures.ensures
    ∙ sym (ap (λ (r : Result Report Refusal). morning_of (told_reported r)) c.in-Err.is)
