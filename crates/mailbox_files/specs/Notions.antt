-- Request 2026-02 in words: what one piece more does to the figures. Assumes nothing.
use Rattle.std.specs.Prelude.{ℕ, suc, ◌+◌, max, ◌≡◌, List, ◌∷◌, eqb, if◌then◌else◌}
use Rattle.refusals.specs.declared.Refusal.{Refusal}
use Rattle.refusals.specs.Refusals.{number}
use Rattle.answers.specs.declared.Figures.{Figures}
use Rattle.mailbox_files.specs.declared.Report.{Report}
use Rattle.mailbox_files.specs.Report.{refused_under, report_over}

-- An accepted piece, of which Judge says these figures: it is counted, its segments, messages and normal length are added, and its normal form
-- may be the longest. It is refused under no number.
pub record AddsAccepted (figures : Figures) (others all : Report) : Type 0 where
  pub accepted : all.accepted ≡ suc others.accepted
  pub refused : all.refused ≡ others.refused
  pub segments : all.segments.0 ≡ figures.segments.0 + others.segments.0
  pub messages : all.messages.0 ≡ figures.messages.0 + others.messages.0
  pub total : all.total ≡ figures.length + others.total
  pub longest : all.longest ≡ max figures.length others.longest

-- A refused piece: one more is refused under its number, and nothing else changes.
pub record AddsRefused (r : Refusal) (piece : List ℕ) (others : List (List ℕ)) : Type 0 where
  pub accepted : (report_over (piece ∷ others)).accepted ≡ (report_over others).accepted
  pub under : (n : ℕ)
      → refused_under (piece ∷ others) n ≡ (if eqb (number r.fault) n then suc (refused_under others n) else refused_under others n)
  pub segments : (report_over (piece ∷ others)).segments ≡ (report_over others).segments
  pub messages : (report_over (piece ∷ others)).messages ≡ (report_over others).messages
  pub total : (report_over (piece ∷ others)).total ≡ (report_over others).total
  pub longest : (report_over (piece ∷ others)).longest ≡ (report_over others).longest
