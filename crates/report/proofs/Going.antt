-- Going through a file piece by piece: what is known at each place, and why it still holds after the next piece. Assumes nothing.
use Rattle.refusals.specs.declared.Refusal.{Refusal}
use Rattle.answers.specs.Answers.{Judged}
use Rattle.std.specs.Prelude.{Ok, Err, Result}
use Prim.Native.Nat.{ℕ, ◌+◌, ◌-◌, ◌≤◌, ◌<◌}
use mathlib.Core.Path.{◌≡◌, refl, sym, ap, ap₂, ◌∙◌, subst}
use mathlib.Core.List.{List, [], ◌∷◌, ◌++◌, append_assoc, append-nil}
use native.Mathlib.Omega.{arith}
use lib.ListN.{length, take, drop, length-append, length-drop, drop_of_length-le}
use lib.Seq.{drop-drop, take_all}
use Rattle.refusals.specs.declared.Fault.TheVariants.{TooLong}
use Rattle.refusals.specs.Refusals.{failed_at}
use Rattle.answers.specs.declared.Figures.{Figures}
use Rattle.operations.specs.Judge.{figures_of}
use Rattle.contracts.specs.Promises.{Judges}
use Rattle.judge.proofs.Told.{told_accepted, told_refused}
use Rattle.mailbox_files.specs.declared.Report.{Report}
use Rattle.mailbox_files.specs.Pieces.{piece_end, pieces}
use Rattle.mailbox_files.specs.Report.{most_file, report_over, no_figures, told_reported}
use Rattle.mailbox_files.specs.Promises.{Reports}
use Rattle.mailbox_files.proofs.Pieces.{end_within, no_pieces, pieces_first}
use Rattle.mailbox_files.proofs.Numbers.{refused_number}
use Rattle.mailbox_files.proofs.Answers.{report-long, report-given}
use Rattle.report.specs.Counting.{counted, Within, Small, Countable}
use Rattle.report.proofs.Counting.{count_none, count_accepted, count_refused}
use Rattle.report.proofs.Bounds.{small, report_within}

-- ---- one piece

module _ (p : List ℕ) where
  -- what Judge says of it can be counted
  pub countable : (j : Judged) → Judges p j → Countable j
  countable (Ok i) h = let told = told_accepted p h refl in subst Small (sym told.1) (small p told.0)
  countable (Err r) h = refused_number p r (told_refused p h refl)

  -- and the figures with it are those of one piece more
  one_more : (ps : List (List ℕ)) (j : Judged) → Judges p j → report_over (ps ++ p ∷ []) ≡ counted (report_over ps) j
  unfolding counted
  one_more ps (Ok i) h =
      let told = told_accepted p h refl in
      count_accepted ps p told.0 ∙ ap (λ (f : Figures). counted (report_over ps) (Ok f)) (sym told.1)
  one_more ps (Err r) h = count_refused ps p r (told_refused p h refl)

-- ---- the file up to a place

-- the pieces that ended there are counted, and the others are those of what is left
pub record UpTo (file : List ℕ) (report : Report) (at : ℕ) : Type 0 where
  pub passed : List (List ℕ)
  pub figures : report ≡ report_over passed
  pub left : pieces file ≡ passed ++ pieces (drop at file)
  pub few : length passed ≤ at
  pub inside : at ≤ length file

pub up_to_start : (file : List ℕ) → UpTo file no_figures 0
up_to_start file = record { passed = []; figures = sym count_none; left = refl; few = omega arith; inside = omega arith }

module _ (file : List ℕ) {report : Report} {at : ℕ} (h : UpTo file report at) where
  -- no figure is too large for one piece more
  pub up_to_within : length file ≤ most_file → at < length file → Within 65535 report
  up_to_within short more = subst (Within 65535) (sym h.figures) (report_within h.passed 65535 (omega (arith, h.few)))

  -- at the end all are counted
  pub up_to_end : length file ≤ at → report ≡ report_over (pieces file)
  up_to_end end =
      h.figures
      ∙ ap report_over (sym (h.left
      ∙ ap (λ (rest : List ℕ). h.passed ++ pieces rest) (drop_of_length-le file end)
      ∙ ap (λ (ps : List (List ℕ)). h.passed ++ ps) no_pieces
      ∙ append-nil h.passed))

  -- the next piece, with what is left and the piece as parts of the file
  module _ (more : at < length file) {end : ℕ} (e : end ≡ piece_end (take (length file - at) (drop at file))) where
    end_is : end ≡ piece_end (drop at file)
    end_is = e ∙ ap piece_end (take_all (length file - at) (drop at file) (omega (arith, length-drop at file)))

    -- it has a byte and ends inside the file
    pub next_above : at < at + end
    next_above = omega (arith, end_is, (end_within (drop at file)).1 (omega (arith, length-drop at file)))

    pub next_within : at + end ≤ length file
    next_within = omega (arith, end_is, (end_within (drop at file)).0, length-drop at file)

    abbrev piece : List ℕ
    piece = take (at + end - at) (drop at file)

    -- and is the first piece of what is left
    piece_first : pieces (drop at file) ≡ piece ∷ pieces (drop (at + end) file)
    piece_first =
        let rest : List ℕ = drop at file in
        let size : piece_end rest ≡ at + end - at = omega (arith, end_is) in
        pieces_first rest (omega (arith, length-drop at file))
        ∙ ap₂ (λ (n : ℕ) (m : ℕ). take n rest ∷ pieces (drop m rest)) size (sym end_is)
        ∙ ap (λ (left : List ℕ). piece ∷ pieces left) (drop-drop end at file)

    pub up_to_next : (j : Judged) → Judges piece j → UpTo file (counted report j) (at + end)
    up_to_next j judges =
        record {
          passed = h.passed ++ piece ∷ [];
          figures = ap (λ (r : Report). counted r j) h.figures ∙ sym (one_more piece h.passed j judges);
          left = h.left
              ∙ ap (λ (ps : List (List ℕ)). h.passed ++ ps) piece_first
              ∙ sym (append_assoc h.passed (piece ∷ []) (pieces (drop (at + end) file)));
          few = omega (arith, h.few, next_above, length-append h.passed (piece ∷ []));
          inside = next_within;
        }

-- ---- what is answered

module _ (file : List ℕ) where
  pub reports_long : {r : Result Report Refusal} → most_file < length file → r ≡ Err (record { fault = TooLong; place = 0 }) → Reports file r
  unfolding told_reported
  reports_long h e = ap told_reported e ∙ sym (report-long file h)

  pub reports_short : {figures : Report} → length file ≤ most_file → figures ≡ report_over (pieces file) → Reports file (Ok figures)
  unfolding told_reported
  reports_short h f = ap (λ (y : Report). told_reported (Ok y)) f ∙ sym (report-given file h)
