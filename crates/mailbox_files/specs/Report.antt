-- Request 2026-02, the morning figures: "Each figure equals its definition over the list of pieces." Assumes nothing.
use Rattle.std.specs.Prelude.{ℕ, zero, ◌+◌, max, List, [], ◌∷◌, ◌++◌, map, length, replicate, eqb, ltb, Ok, Err, Result}
use Rattle.std.proofs.Math.Option.{Option}
use Rattle.lists.specs.Lists.{those, maybe}
use Rattle.refusals.specs.declared.Fault.TheVariants.{TooLong}
use Rattle.refusals.specs.declared.Refusal.{Refusal}
use Rattle.refusals.specs.Refusals.{met, place_if, answering}
use Rattle.stages.specs.Contents.{normal_form}
use Rattle.answers.specs.Answers.{Answer, given, refused}
use Rattle.operations.specs.Judge.{figures_of, judge}
use Rattle.operations.specs.Compare.{is_accepted}
use Rattle.mailbox_files.specs.declared.Report.{Report}
use Rattle.mailbox_files.specs.Pieces.{pieces}

-- "files of at most 65,536 bytes"
abbrev pub most_file : ℕ
most_file = 65536

-- the sum of them
unfoldable pub sum : List ℕ → ℕ
sum [] = zero
sum (n ∷ ns) = n + sum ns

-- the greatest of them, "(0 where none)"
unfoldable pub greatest : List ℕ → ℕ
greatest [] = zero
greatest (n ∷ ns) = max n (greatest ns)

-- ---- the figures

-- the numbers under which Judge refuses
abbrev pub numbers : List ℕ
numbers = 1 ∷ 2 ∷ 3 ∷ 4 ∷ 5 ∷ 6 ∷ 7 ∷ 8 ∷ 9 ∷ 10 ∷ 11 ∷ 12 ∷ 13 ∷ []

-- "refused under each number": "the number that Judge gives it"
unfoldable pub refused_under : List (List ℕ) → ℕ → ℕ
refused_under pieces n = length (those (λ piece. eqb (judge piece).number n) pieces)

-- "of the accepted ones segments, messages, .. normal lengths"
unfoldable pub segments_of_each : List (List ℕ) → List ℕ
segments_of_each pieces = map (λ piece. (figures_of piece).segments.0) (those is_accepted pieces)

unfoldable pub messages_of_each : List (List ℕ) → List ℕ
messages_of_each pieces = map (λ piece. (figures_of piece).messages.0) (those is_accepted pieces)

unfoldable pub normal_lengths : List (List ℕ) → List ℕ
normal_lengths pieces = map (λ piece. length (normal_form piece)) (those is_accepted pieces)

-- "interchanges accepted, refused under each number, and of the accepted ones segments, messages, total of normal lengths and the
-- longest normal length (0 where none)"
unfoldable pub report_over : List (List ℕ) → Report
report_over pieces =
    record {
      accepted = length (those is_accepted pieces);
      refused = 0 ∷ map (refused_under pieces) numbers;
      segments = record { 0 = sum (segments_of_each pieces) };
      messages = record { 0 = sum (messages_of_each pieces) };
      total = sum (normal_lengths pieces);
      longest = greatest (normal_lengths pieces);
    }

-- ---- what is answered

-- the figures of a report, in the request's order
unfoldable pub listed : Report → List ℕ
listed r = r.accepted ∷ (r.refused ++ r.segments.0 ∷ r.messages.0 ∷ r.total ∷ r.longest ∷ [])

-- every figure is 0
unfoldable pub no_figures : Report
no_figures = record { accepted = 0; refused = replicate 14 0; segments = record { 0 = 0 }; messages = record { 0 = 0 }; total = 0; longest = 0 }

-- an answer with the figures of a report behind its own values
unfoldable pub with_figures : Answer → Report → Answer
with_figures answer r = record { number = answer.number; values = answer.values ++ listed r }

-- the number and the values of what is answered: the figures; or the refusal's place and figures that are all 0
unfoldable pub told_reported : Result Report Refusal → Answer
told_reported (Ok r) = with_figures (given []) r
told_reported (Err r) = with_figures (refused r) no_figures

-- "Refusals: a longer file answers 1 at 0."
unfoldable pub file_refusal : List ℕ → Option Refusal
file_refusal file = answering (met TooLong (place_if (ltb most_file (length file)) 0) ∷ [])

-- the report of a file
unfoldable pub report : List ℕ → Answer
report file = maybe (with_figures (given []) (report_over (pieces file))) (λ r. with_figures (refused r) no_figures) (file_refusal file)
