-- The record of what is promised of mailbox files, proved. Assumes nothing.
use Prim.Native.Nat.{ℕ, ◌≤◌, ◌<◌}
use mathlib.Core.Path.{◌≡◌, refl, sym, ◌∙◌}
use mathlib.Core.Bool.{false}
use mathlib.Core.Logic.{inl, inr, ⊎_elim}
use mathlib.Core.List.{List, [], ◌∷◌}
use mathlib.Core.Option.{Option, none, some, none-ne-some}
use native.Mathlib.Omega.{arith}
use lib.ListN.{length, replicate}
use Rattle.refusals.specs.declared.Refusal.{Refusal}
use Rattle.refusals.specs.declared.Fault.TheVariants.{TooLong}
use Rattle.stages.specs.Stages.{refusal_of}
use Rattle.stages.proofs.Cases.{length_first}
use Rattle.answers.specs.Answers.{given, refused}
use Rattle.operations.specs.Judge.{judge}
use Rattle.operations.specs.Compare.{is_accepted}
use Rattle.normal_form_laws.specs.Forms.{end_to_end}
use Rattle.normal_form_laws.proofs.Theorems.{cut_forms_lem}
use Rattle.acceptance_laws.specs.Allowed.{Allowed}
use Rattle.acceptance_laws.proofs.Acceptance.{allowed_exactly}
use Rattle.mailbox_files.specs.Report.{report_over, listed, no_figures, with_figures, report}
use Rattle.mailbox_files.specs.Pieces.{pieces}
use Rattle.mailbox_files.proofs.Pieces.{no_pieces, pieces_joined}
use Rattle.mailbox_files.proofs.Figures.{refused_listed, figures_none, figures_accepted, figures_refused}
use Rattle.mailbox_files.proofs.Numbers.{refused_number, number_accepted, number_refused, not_accepted}
use Rattle.mailbox_files.proofs.Answers.{report-long, report-given}
use Rattle.mailbox_file_laws.specs.Cutting.{EndsInUnz, Unending}
use Rattle.mailbox_file_laws.specs.Cutting.{EndsInUnz, Unending}
use Rattle.mailbox_file_laws.specs.MailboxFiles.{MailboxFiles}
use Rattle.mailbox_file_laws.proofs.Ends.{unz_ends}
use Rattle.mailbox_file_laws.proofs.Cuts.{none_unending, rest_alone, piece_first, cut_exactly}
use Rattle.mailbox_file_laws.proofs.Interchanges.{accepted_ends, accepted_again, forms_again}
use Rattle.mailbox_file_laws.proofs.Figures.{all_counted, longest_most, longest_is}

-- accepted, in words and by the stages
stages_of : (s : List ℕ) → Allowed s → refusal_of s ≡ none
stages_of s a = (allowed_exactly s).1 a

some_byte : (s : List ℕ) → (s ≡ [] → ⊥) → 0 < length s
some_byte [] k = absurd (k refl)
some_byte (b ∷ bs) k = omega arith

-- Judge's number, by what the stages answer
number_at_most : (s : List ℕ) → (judge s).number ≤ 13
number_at_most s = step (refusal_of s) refl
  where
    step : (o : Option Refusal) → refusal_of s ≡ o → (judge s).number ≤ 13
    step none e = omega (arith, number_accepted s e)
    step (some r) e = omega (arith, number_refused s r e, refused_number s r e)

-- what is answered, with nothing in front of the figures, or the place
given_figures : (file : List ℕ) → length file ≤ 65536 → report file ≡ given (listed (report_over (pieces file)))
unfolding with_figures given
given_figures file h = report-given file h

refused_figures : (file : List ℕ) → 65536 < length file → report file ≡ record { number = 1; values = 0 ∷ replicate 19 0 }
unfolding with_figures refused listed no_figures
refused_figures file h = report-long file h

-- a piece that does both
both : (piece : List ℕ) → EndsInUnz piece → Unending piece → ⊥
both piece e u = none-ne-some e.unz (sym (none_unending piece u) ∙ (unz_ends piece e).0)

-- the rest is not accepted: an accepted interchange ends in its UNZ
rest_refused : (rest : List ℕ) → Unending rest → is_accepted rest ≡ false
rest_refused rest u = step (refusal_of rest) refl
  where
    step : (o : Option Refusal) → refusal_of rest ≡ o → is_accepted rest ≡ false
    step none e = absurd (both rest (accepted_ends rest e) u)
    step (some r) e = not_accepted rest r e

pub mailbox_files : MailboxFiles
unfolding end_to_end report_over
mailbox_files =
    record {
      joined = pieces_joined;
      cut_exactly = cut_exactly;
      goes_on = piece_first;
      rest_is_one = λ rest n u. rest_alone rest (none_unending rest u) (some_byte rest n);
      rest_refused = rest_refused;
      never_both = both;
      no_bytes = no_pieces;
      accepted_ends = λ s a. accepted_ends s (stages_of s a);
      accepted_again = λ ss a. accepted_again ss (λ s m. stages_of s (a s m));
      forms_again = forms_again;
      same_cut = λ forms f. forms_again forms f ∙ sym (cut_forms_lem forms f);
      reports = given_figures;
      too_long = refused_figures;
      all_counted = λ file. all_counted (pieces file);
      refused_listed = refused_listed;
      figures_none = figures_none;
      figures_accepted = figures_accepted;
      figures_refused = figures_refused;
      judge_numbers = number_at_most;
      over_counted = λ piece h. number_refused piece (record { fault = TooLong; place = 0 }) (length_first piece h);
      longest_most = λ ps p m a. longest_most ps p m (stages_of p a);
      longest_is = λ ps. ⊎_elim
          (λ h. inl (λ p m a. h.0 p m (stages_of p a), h.1))
          (λ h. inr (h.0, h.1, (allowed_exactly h.0).0 h.2, h.3))
          (longest_is ps);
    }
