-- The structs of the morning figures and of a piece's end are those that the definitions give. Assumes nothing.
use Rattle.std.specs.Prelude.{if◌then◌else◌}
use Prim.Native.Nat.{ℕ, ◌+◌}
use mathlib.Core.Path.{◌≡◌, refl, sym, ap, ◌∙◌}
use mathlib.Core.Bool.{Bool, true, false}
use mathlib.Core.List.{List, [], ◌∷◌, ◌++◌}
use mathlib.Core.Option.{Option, none, some}
use lib.ListN.{length, get_or, take}
use lib.Seq.{take-append_seam, get_or-append-add}
use lib.Dec.{eqb}
use Rattle.refusals.specs.declared.Refusal.{Refusal}
use Rattle.refusals.specs.Refusals.{number}
use Rattle.lists.specs.Lists.{is_empty, maybe}
use Rattle.lists.proofs.Texts.{if_false}
use Rattle.values.specs.Tokens.{Segment}
use Rattle.refusals.specs.Refusals.{answering}
use Rattle.stages.specs.Stages.{stages_in}
use Rattle.answers.specs.Answers.{Answer, given, refused}
use Rattle.mailbox_files.specs.declared.Report.{Report}
use Rattle.mailbox_files.specs.Report.{listed, with_figures}
use Rattle.mailbox_files.specs.Pieces.{end_behind, unz_of, piece_end}
use Rattle.mailbox_files.specs.Stops.{stop_of}
use Rattle.pieces.specs.declared.Ending.{Ending}
use Rattle.pieces.specs.Walk.{ending, ending_of}
use Rattle.surface.specs.Verdicts.{value}
use Rattle.surface.specs.OfMailbox.{figures_from, morning_of, beside, piece_end_of, laid_ending}
use Rattle.surface.proofs.Laid.{refusal_numbered}

module _ (r : Report) (fourteen : length r.refused ≡ 14) where
  abbrev others : List ℕ
  others = r.segments.0 ∷ r.messages.0 ∷ r.total ∷ r.longest ∷ []

  -- the counts by number, and what stands behind them
  counts : take 14 (r.refused ++ others) ≡ r.refused
  counts = ap (λ (n : ℕ). take n (r.refused ++ others)) (sym fourteen) ∙ take-append_seam r.refused others

  behind : (i : ℕ) → get_or (r.refused ++ others) (14 + i) 0 ≡ get_or others i 0
  behind i = ap (λ (n : ℕ). get_or (r.refused ++ others) (n + i) 0) (sym fourteen) ∙ get_or-append-add r.refused others i 0

  pub given_beside : beside 0 0 r ≡ morning_of (with_figures (given []) r)
  unfolding beside morning_of figures_from value with_figures given listed
  given_beside =
      λ k.
      record {
        number = 0;
        accepted = r.accepted;
        refused = sym counts k;
        segments = sym (behind 0) k;
        messages = sym (behind 1) k;
        place = 0;
        total = sym (behind 2) k;
        longest = sym (behind 3) k;
      }

  -- behind the place
  refused_laid : (q : Refusal) → beside (number q.fault) q.place r ≡ figures_from 1 q.place (with_figures (refused q) r)
  unfolding beside figures_from value with_figures refused listed
  refused_laid q =
      λ k.
      record {
        number = number q.fault;
        accepted = r.accepted;
        refused = sym counts k;
        segments = sym (behind 0) k;
        messages = sym (behind 1) k;
        place = q.place;
        total = sym (behind 2) k;
        longest = sym (behind 3) k;
      }

  pub refused_beside : (q : Refusal) {n : ℕ} → n ≡ number q.fault → beside n q.place r ≡ morning_of (with_figures (refused q) r)
  unfolding morning_of value with_figures refused
  refused_beside q e =
      let a : Answer = with_figures (refused q) r in
      ap (λ (m : ℕ). beside m q.place r) e
      ∙ refused_laid q
      ∙ sym (if_false (eqb (number q.fault) 0) (figures_from 0 0 a) (figures_from 1 q.place a) (refusal_numbered q.fault))

-- how the first piece of a file ends
pub ending_laid : (file : List ℕ) {e : Ending} → e ≡ ending_of file → laid_ending (length file) e ≡ piece_end_of file
unfolding ending_of ending laid_ending piece_end_of piece_end stop_of maybe
ending_laid file e =
    ap (laid_ending (length file)) e ∙ step (unz_of file) (is_empty file) (answering (stages_in file 2 6))
  where
    step : (unz : Option Segment) (no_byte : Bool) (met : Option Refusal)
        → let stop = if no_byte then none else maybe met (λ g. none) unz in
        laid_ending (length file) (ending file unz stop)
        ≡ record {
          number = maybe 0 (λ r. number r.fault) stop;
          ended = maybe 0 (λ g. 1) unz;
          place = maybe 0 (λ r. r.place) stop;
          end = maybe (length file) (end_behind file) unz;
        }
    step none true met = refl
    step none false none = refl
    step none false (some r) = refl
    step (some g) true met = refl
    step (some g) false met = refl
