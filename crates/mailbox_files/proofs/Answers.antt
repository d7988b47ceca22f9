-- What is answered for a file that is too long, and for any other. Assumes nothing.
use Rattle.std.specs.Prelude.{if◌then◌else◌}
use Prim.Native.Nat.{ℕ, ◌≤◌, ◌<◌}
use mathlib.Core.Path.{◌≡◌, ap}
use mathlib.Core.Bool.{Bool}
use mathlib.Core.List.{List, []}
use mathlib.Core.Option.{Option, none, some}
use lib.ListN.{length}
use lib.Dec.{ltb}
use borrow.Author.Tests.{lt-ltb, le-ltb}
use Rattle.lists.specs.Lists.{maybe}
use Rattle.refusals.specs.declared.Fault.TheVariants.{TooLong}
use Rattle.refusals.specs.declared.Refusal.{Refusal}
use Rattle.refusals.specs.Refusals.{answering}
use Rattle.refusals.proofs.Stages.{one_place}
use Rattle.answers.specs.Answers.{given, refused}
use Rattle.mailbox_files.specs.Pieces.{pieces}
use Rattle.mailbox_files.specs.Report.{most_file, report_over, no_figures, with_figures, file_refusal, report}

-- 1 at 0
abbrev pub too_long_at_zero : Refusal
too_long_at_zero = record { fault = TooLong; place = 0 }

module _ (file : List ℕ) where
  refusal-by : {long : Bool} → ltb most_file (length file) ≡ long → file_refusal file ≡ (if long then some too_long_at_zero else none)
  unfolding file_refusal answering
  refusal-by e = one_place TooLong 0 [] e

  answered : {o : Option Refusal} → file_refusal file ≡ o
      → report file ≡ maybe (with_figures (given []) (report_over (pieces file))) (λ r. with_figures (refused r) no_figures) o
  unfolding report
  answered e = ap (maybe (with_figures (given []) (report_over (pieces file))) (λ (r : Refusal). with_figures (refused r) no_figures)) e

  -- "a longer file answers 1 at 0"
  pub report-long : most_file < length file → report file ≡ with_figures (refused too_long_at_zero) no_figures
  unfolding maybe
  report-long h = answered (refusal-by (lt-ltb most_file (length file) h))

  -- any other is reported
  pub report-given : length file ≤ most_file → report file ≡ with_figures (given []) (report_over (pieces file))
  unfolding maybe
  report-given h = answered (refusal-by (le-ltb most_file (length file) h))
