-- The figures of a list of pieces, from those of its first piece, which are Judge's, and of the others: these laws leave one report for each list.
-- Assumes nothing.
use Rattle.std.specs.Prelude.{if◌then◌else◌}
use Prim.Native.Nat.{ℕ, suc, ◌+◌, max}
use mathlib.Core.Path.{◌≡◌, refl, sym, ap, ◌∙◌}
use mathlib.Core.Bool.{Bool, true, false}
use mathlib.Core.List.{List, [], ◌∷◌, map}
use mathlib.Core.Option.{Option, none, some}
use lib.ListN.{length}
use lib.Dec.{eqb}
use Rattle.lists.specs.Lists.{those}
use Rattle.refusals.specs.declared.Refusal.{Refusal}
use Rattle.stages.specs.Contents.{normal_form}
use Rattle.stages.specs.Stages.{refusal_of}
use Rattle.answers.specs.declared.Figures.{Figures}
use Rattle.answers.specs.Answers.{Answer, refused, accepted}
use Rattle.operations.specs.Judge.{figures_of, judge}
use Rattle.operations.specs.Compare.{is_accepted}
use Rattle.operations.proofs.Cases.{judge_is}
use Rattle.contracts.proofs.Told.{accepted_tells, different}
use Rattle.mailbox_files.specs.Report.{sum, greatest, numbers, refused_under, segments_of_each, messages_of_each, normal_lengths, report_over, no_figures}
use Rattle.mailbox_files.specs.Notions.{AddsAccepted, AddsRefused}
use Rattle.mailbox_files.proofs.Numbers.{number_accepted, is_accepted_lem, not_accepted}

-- no piece, no figure
pub figures_none : report_over [] ≡ no_figures
unfolding report_over no_figures refused_under segments_of_each messages_of_each normal_lengths sum greatest those
figures_none = refl

-- "refused under each number": at each place the figure of that number; none has the number 0
pub refused_listed : (ps : List (List ℕ))
    → let under = refused_under ps in
    (report_over ps).refused
    ≡ 0 ∷ under 1 ∷ under 2 ∷ under 3 ∷ under 4 ∷ under 5 ∷ under 6 ∷ under 7 ∷ under 8 ∷ under 9 ∷ under 10 ∷ under 11 ∷ under 12 ∷ under 13 ∷ []
unfolding report_over
refused_listed ps = refl

module _ (p : List ℕ) (ps : List (List ℕ)) where
  abbrev rest : List (List ℕ)
  rest = those is_accepted ps

  -- the accepted ones, and those of a number, of one piece more
  more_accepted : {t : Bool} → is_accepted p ≡ t → those is_accepted (p ∷ ps) ≡ (if t then p ∷ rest else rest)
  unfolding those
  more_accepted e = ap (λ (t : Bool). if t then p ∷ rest else rest) e

  pub more_under : (n : ℕ) → refused_under (p ∷ ps) n ≡ (if eqb (judge p).number n then suc (refused_under ps n) else refused_under ps n)
  unfolding refused_under those
  more_under n = step (eqb (judge p).number n)
    where
      others : List (List ℕ)
      others = those (λ piece. eqb (judge piece).number n) ps

      step : (t : Bool) → length (if t then p ∷ others else others) ≡ (if t then suc (length others) else length others)
      step true = refl
      step false = refl

  -- a piece with the number 0 is refused under none
  none_refused : (judge p).number ≡ 0 → (report_over (p ∷ ps)).refused ≡ (report_over ps).refused
  unfolding report_over refused_under those
  none_refused e =
      ap (λ (k : ℕ). 0 ∷ map (λ n. length (if eqb k n then p ∷ those (λ piece. eqb (judge piece).number n) ps else those (λ piece. eqb (judge piece).number n) ps)) numbers) e

  -- of an accepted piece the figures that Judge says are added
  pub figures_accepted : (f : Figures) → judge p ≡ accepted f → AddsAccepted f (report_over ps) (report_over (p ∷ ps))
  unfolding report_over segments_of_each messages_of_each normal_lengths sum greatest figures_of
  figures_accepted f h = told (refusal_of p) refl
    where
      told : (o : Option Refusal) → refusal_of p ≡ o → AddsAccepted f (report_over ps) (report_over (p ∷ ps))
      told (some r) e = absurd (different f r (sym h ∙ (judge_is p).1 r e))
      told none e =
          let same : figures_of p ≡ f = accepted_tells (figures_of p) f (sym ((judge_is p).0 e) ∙ h) in
          let mine : those is_accepted (p ∷ ps) ≡ p ∷ rest = more_accepted (is_accepted_lem p e) in
          record {
            accepted = ap length mine;
            refused = none_refused (number_accepted p e);
            segments = ap (λ (qs : List (List ℕ)). sum (map (λ q. (figures_of q).segments.0) qs)) mine
                ∙ ap (λ (g : Figures). g.segments.0 + (report_over ps).segments.0) same;
            messages = ap (λ (qs : List (List ℕ)). sum (map (λ q. (figures_of q).messages.0) qs)) mine
                ∙ ap (λ (g : Figures). g.messages.0 + (report_over ps).messages.0) same;
            total = ap (λ (qs : List (List ℕ)). sum (map (λ q. length (normal_form q)) qs)) mine
                ∙ ap (λ (g : Figures). g.length + (report_over ps).total) same;
            longest = ap (λ (qs : List (List ℕ)). greatest (map (λ q. length (normal_form q)) qs)) mine
                ∙ ap (λ (g : Figures). max g.length (report_over ps).longest) same;
          }

  -- a refused piece is counted under its number alone
  pub figures_refused : (r : Refusal) → judge p ≡ refused r → AddsRefused r p ps
  unfolding report_over segments_of_each messages_of_each normal_lengths refused
  figures_refused r h = told (refusal_of p) refl
    where
      told : (o : Option Refusal) → refusal_of p ≡ o → AddsRefused r p ps
      told none e = absurd (different (figures_of p) r (sym ((judge_is p).0 e) ∙ h))
      told (some q) e =
          let mine : those is_accepted (p ∷ ps) ≡ rest = more_accepted (not_accepted p q e) in
          record {
            accepted = ap length mine;
            under = λ n. more_under n ∙ ap (λ (k : ℕ). if eqb k n then suc (refused_under ps n) else refused_under ps n) (ap (λ (a : Answer). a.number) h);
            segments = ap (λ (qs : List (List ℕ)). record { 0 = sum (map (λ q. (figures_of q).segments.0) qs) }) mine;
            messages = ap (λ (qs : List (List ℕ)). record { 0 = sum (map (λ q. (figures_of q).messages.0) qs) }) mine;
            total = ap (λ (qs : List (List ℕ)). sum (map (λ q. length (normal_form q)) qs)) mine;
            longest = ap (λ (qs : List (List ℕ)). greatest (map (λ q. length (normal_form q)) qs)) mine;
          }
