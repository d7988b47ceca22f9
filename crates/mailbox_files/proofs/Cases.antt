-- What the contract allows, case by case. Assumes nothing.
use Rattle.std.specs.Prelude.{Result, Ok, Err}
use Prim.Native.Nat.{ℕ, ◌≤◌, ◌<◌}
use mathlib.Core.Path.{◌≡◌, ◌∙◌}
use mathlib.Core.List.{List}
use lib.ListN.{length}
use Rattle.refusals.specs.declared.Refusal.{Refusal}
use Rattle.mailbox_files.specs.declared.Report.{Report}
use Rattle.mailbox_files.specs.Pieces.{pieces}
use Rattle.mailbox_files.specs.Report.{most_file, report_over, told_reported}
use Rattle.mailbox_files.specs.Promises.{Reports}
use Rattle.mailbox_files.proofs.Answers.{too_long_at_zero, report-long, report-given}
use Rattle.mailbox_files.proofs.Tight.{reported_tells}

-- the figures over the list of the file's pieces; or 1 at 0
pub reports : (file : List ℕ) (r : Result Report Refusal) → Reports file r
    → (length file ≤ most_file → r ≡ Ok (report_over (pieces file))) × (most_file < length file → r ≡ Err too_long_at_zero)
unfolding told_reported
reports file r h = (
  λ l. reported_tells r (Ok (report_over (pieces file))) (h ∙ report-given file l),
  λ l. reported_tells r (Err too_long_at_zero) (h ∙ report-long file l),
)
