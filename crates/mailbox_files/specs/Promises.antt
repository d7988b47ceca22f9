-- Request 2026-02: what the operation promises of its answer, for every file, refused or not; and that this leaves one answer.
-- Assumes nothing.
use Rattle.std.specs.Prelude.{ℕ, ◌≡◌, List, Result}
use Rattle.refusals.specs.declared.Refusal.{Refusal}
use Rattle.mailbox_files.specs.declared.Report.{Report}
use Rattle.mailbox_files.specs.Report.{told_reported, report}

abbrev pub Reports : (file : List ℕ) → Result Report Refusal → Type 0
Reports file r = told_reported r ≡ report file

-- two answers that it allows are equal; `proofs/Tight.antt` proves it
abbrev pub Tight : Type 0
Tight = (file : List ℕ) (r q : Result Report Refusal) → Reports file r → Reports file q → r ≡ q
