-- Request 2026-02, "Mailbox files and the morning figures": what is promised of the definitions, for all files. Each field is a theorem;
-- `proofs/Theorems.antt` proves the record. Assumes nothing.
use Rattle.std.specs.Prelude.{ℕ, ◌+◌, ◌≤◌, ◌<◌, ◌≡◌, ◌↔◌, ◌⊎◌, false, length, replicate}
use mathlib.Core.List.{List, [], ◌∷◌, ◌++◌, map, Memᴰ}
use Rattle.refusals.specs.declared.Refusal.{Refusal}
use Rattle.values.specs.Spelling.{leads_break}
use Rattle.stages.specs.Contents.{normal_form}
use Rattle.answers.specs.declared.Figures.{Figures}
use Rattle.answers.specs.Answers.{given, refused, accepted}
use Rattle.operations.specs.Judge.{judge}
use Rattle.operations.specs.Compare.{is_accepted}
use Rattle.normal_form_laws.specs.Forms.{NormalForms, end_to_end, cut_forms}
use Rattle.acceptance_laws.specs.Allowed.{Allowed}
use Rattle.mailbox_files.specs.Pieces.{pieces}
use Rattle.mailbox_files.specs.Report.{sum, numbers, refused_under, report_over, no_figures, listed, report}
use Rattle.mailbox_files.specs.Notions.{AddsAccepted, AddsRefused}
use Rattle.mailbox_file_laws.specs.Cutting.{EndsInUnz, Unending, Cut}

pub record MailboxFiles : Type 0 where
  -- ---- 1. Cutting

  -- "files .. with interchanges end to end": the pieces joined are the file
  pub joined : (file : List ℕ) → end_to_end (pieces file) ≡ file
  -- each piece but perhaps the last "ends after its first UNZ segment and the breaks behind it", and the last does so too, or is the rest,
  -- in which "the cutting meets a fault 2 to 6 or the file's end before a UNZ"; and no other list of pieces is cut so
  pub cut_exactly : (file : List ℕ) (ps : List (List ℕ)) → (pieces file ≡ ps) ↔ ((end_to_end ps ≡ file) × Cut ps)
  -- whatever Judge says of a piece that ends in its UNZ, the cutting goes on behind it: 1 and 7 to 13 never stop it
  pub goes_on : (piece more : List ℕ) → EndsInUnz piece → leads_break more ≡ false → pieces (piece ++ more) ≡ piece ∷ pieces more
  -- "the rest is one .. piece", from its beginning on, "and the report ends there"
  pub rest_is_one : (rest : List ℕ) → (rest ≡ [] → ⊥) → Unending rest → pieces rest ≡ rest ∷ []
  -- "one refused piece"
  pub rest_refused : (rest : List ℕ) → Unending rest → is_accepted rest ≡ false
  -- a piece never does both
  pub never_both : (piece : List ℕ) → EndsInUnz piece → Unending piece → ⊥
  -- "A file of no bytes has no pieces."
  pub no_bytes : pieces [] ≡ []
  -- ---- 2. Interchanges written end to end

  -- an accepted interchange is a piece: it ends in its UNZ
  pub accepted_ends : (s : List ℕ) → Allowed s → EndsInUnz s
  -- any number of them, with the breaks behind each, is cut into them
  pub accepted_again : (ss : List (List ℕ)) → ((s : List ℕ) → Memᴰ s ss → Allowed s) → pieces (end_to_end ss) ≡ ss
  -- and so are normal forms, as demand 3's cut does it
  pub forms_again : (forms : List (List ℕ)) → NormalForms forms → pieces (end_to_end forms) ≡ forms
  pub same_cut : (forms : List (List ℕ)) → NormalForms forms → pieces (end_to_end forms) ≡ cut_forms (end_to_end forms)
  -- ---- 3. The report

  -- "files of at most 65,536 bytes": the figures over the list of pieces
  pub reports : (file : List ℕ) → length file ≤ 65536 → report file ≡ given (listed (report_over (pieces file)))
  -- "a longer file answers 1 at 0", and every figure is 0
  pub too_long : (file : List ℕ) → 65536 < length file → report file ≡ record { number = 1; values = 0 ∷ replicate 19 0 }
  -- every piece is counted once: it is accepted, or refused under one of 1 to 13
  pub all_counted : (file : List ℕ)
      → let ps = pieces file in
      (report_over ps).accepted + sum (map (refused_under ps) numbers) ≡ length ps
  -- "refused under each number": the figure at each place is that of the number; none has the number 0
  pub refused_listed : (ps : List (List ℕ))
      → let under = refused_under ps in
      (report_over ps).refused
      ≡ 0 ∷ under 1 ∷ under 2 ∷ under 3 ∷ under 4 ∷ under 5 ∷ under 6 ∷ under 7 ∷ under 8 ∷ under 9 ∷ under 10 ∷ under 11 ∷ under 12 ∷ under 13 ∷ []
  -- "of the accepted ones segments, messages, total of normal lengths and the longest": of no piece every figure is 0; with an accepted piece more,
  -- what Judge says of it is added; a refused one is counted under its number alone. This leaves one report for each list of pieces.
  pub figures_none : report_over [] ≡ no_figures
  pub figures_accepted : (piece : List ℕ) (others : List (List ℕ)) (f : Figures) → judge piece ≡ accepted f
      → AddsAccepted f (report_over others) (report_over (piece ∷ others))
  pub figures_refused : (piece : List ℕ) (others : List (List ℕ)) (r : Refusal) → judge piece ≡ refused r → AddsRefused r piece others
  pub judge_numbers : (piece : List ℕ) → (judge piece).number ≤ 13
  -- a piece over 32,000 bytes is counted under 1, be it the rest or not
  pub over_counted : (piece : List ℕ) → 32000 < length piece → (judge piece).number ≡ 1
  -- "the longest normal length (0 where none)": no accepted piece's is longer, and it is that of one of them
  pub longest_most : (ps : List (List ℕ)) (p : List ℕ) → Memᴰ p ps → Allowed p → length (normal_form p) ≤ (report_over ps).longest
  pub longest_is : (ps : List (List ℕ))
      → (((p : List ℕ) → Memᴰ p ps → Allowed p → ⊥) × ((report_over ps).longest ≡ 0))
      ⊎ ((p : List ℕ) × Memᴰ p ps × Allowed p × (length (normal_form p) ≡ (report_over ps).longest))
