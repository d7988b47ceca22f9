-- The figures over pieces with one piece more are the figures over the pieces, with that piece counted. Assumes nothing.
use Rattle.answers.specs.Answers.{Judged}
use Rattle.std.specs.Prelude.{if◌then◌else◌}
use Prim.Native.Nat.{ℕ, suc, ◌+◌, ◌≤◌, max}
use mathlib.Core.Path.{◌≡◌, refl, ap, ◌∙◌, fun_ext}
use mathlib.Core.Bool.{Bool, true, false}
use mathlib.Core.List.{List, [], ◌∷◌, ◌++◌, map, map-append, append-nil}
use mathlib.Core.Option.{none, some}
use native.Mathlib.Omega.{arith}
use lib.ListN.{length, get_or, set, length-append}
use lib.Dec.{eqb}
use borrow.Author.Tests.{ne_eqb}
use Rattle.lists.specs.Lists.{those}
use Rattle.lists.proofs.Texts.{if_false}
use Rattle.refusals.specs.declared.Fault.{Fault}
use Rattle.refusals.specs.declared.Fault.TheVariants.{TooLong, UnusableAdvice, NoOpening, StrayRelease, UnendedSegment, BrokenTag, ForeignLevel, OutsideLevel, MisplacedSegment, BadControl, ReferenceDiffers, CountWrong, NormalTooLong, BufferShort, BadList, NeedsRelease, NoFreeSlot, NoRoom, UnsoundShelf, FreeSlot, UnsoundTable, UnmatchedBody, NoAcknowledgement, NoColumns}
use Rattle.refusals.specs.declared.Refusal.{Refusal}
use Rattle.refusals.specs.Refusals.{number}
use Rattle.stages.specs.Contents.{normal_form}
use Rattle.stages.specs.Stages.{refusal_of}
use Rattle.answers.specs.declared.Figures.{Figures}
use Rattle.operations.specs.Judge.{figures_of, judge}
use Rattle.operations.specs.Compare.{is_accepted}
use Rattle.mailbox_files.specs.Report.{sum, greatest, numbers, refused_under, segments_of_each, messages_of_each, normal_lengths, report_over, no_figures}
use Rattle.mailbox_files.proofs.Numbers.{refused_number, number_accepted, number_refused, is_accepted_lem, not_accepted}
use Rattle.report.specs.Counting.{with_accepted, with_refused}

abbrev Piece : Type 0
Piece = List ℕ

-- ---- lists with one more

those_append : {A : Type 0} (t : A → Bool) (xs ys : List A) → those t (xs ++ ys) ≡ those t xs ++ those t ys
unfolding those
those_append t [] ys = refl
those_append {A} t (x ∷ xs) ys = step (t x) (those_append t xs ys)
  where
    step : (b : Bool) → those t (xs ++ ys) ≡ those t xs ++ those t ys
        → (if b then x ∷ those t (xs ++ ys) else those t (xs ++ ys)) ≡ (if b then x ∷ those t xs else those t xs) ++ those t ys
    step true ih = ap (λ (l : List A). x ∷ l) ih
    step false ih = ih

-- one that passes, or does not
those_more : {A : Type 0} (t : A → Bool) (xs : List A) (x : A) → t x ≡ true → those t (xs ++ x ∷ []) ≡ those t xs ++ x ∷ []
unfolding those
those_more {A} t xs x h = those_append t xs (x ∷ []) ∙ ap (λ (b : Bool). those t xs ++ (if b then x ∷ [] else [])) h

those_same : {A : Type 0} (t : A → Bool) (xs : List A) (x : A) → t x ≡ false → those t (xs ++ x ∷ []) ≡ those t xs
unfolding those
those_same {A} t xs x h =
    those_append t xs (x ∷ []) ∙ ap (λ (b : Bool). those t xs ++ (if b then x ∷ [] else [])) h ∙ append-nil (those t xs)

sum_more : (ns : List ℕ) (n : ℕ) → sum (ns ++ n ∷ []) ≡ sum ns + n
unfolding sum
sum_more [] n = omega arith
sum_more (m ∷ ns) n = omega (arith, sum_more ns n)

greatest_more : (ns : List ℕ) (n : ℕ) → greatest (ns ++ n ∷ []) ≡ max (greatest ns) n
unfolding greatest
greatest_more [] n = omega arith
greatest_more (m ∷ ns) n = omega (arith, greatest_more ns n)

module _ (ps : List Piece) (p : Piece) where
  abbrev more : List Piece
  more = ps ++ p ∷ []

  -- what is told of each accepted one
  mapped_more : (f : Piece → ℕ) → is_accepted p ≡ true → map f (those is_accepted more) ≡ map f (those is_accepted ps) ++ f p ∷ []
  mapped_more f h = ap (map f) (those_more is_accepted ps p h) ∙ map-append f (those is_accepted ps) (p ∷ [])

  summed : (f : Piece → ℕ) → is_accepted p ≡ true → sum (map f (those is_accepted more)) ≡ sum (map f (those is_accepted ps)) + f p
  summed f h = ap sum (mapped_more f h) ∙ sum_more (map f (those is_accepted ps)) (f p)

  -- how many are refused under a number
  under : (n : ℕ) → refused_under more n ≡ (if eqb (judge p).number n then refused_under ps n + 1 else refused_under ps n)
  unfolding refused_under
  under n = step (eqb (judge p).number n) refl
    where
      t : Piece → Bool
      t piece = eqb (judge piece).number n

      step : (b : Bool) → t p ≡ b → length (those t more) ≡ (if b then length (those t ps) + 1 else length (those t ps))
      step true e = ap length (those_more t ps p e) ∙ length-append (those t ps) (p ∷ [])
      step false e = ap length (those_same t ps p e)

  -- ---- an accepted piece

  -- under no number there is one more
  under_same : refusal_of p ≡ none → (n : ℕ) → refused_under more (suc n) ≡ refused_under ps (suc n)
  under_same h n =
      under (suc n)
      ∙ if_false (eqb (judge p).number (suc n)) (refused_under ps (suc n) + 1) (refused_under ps (suc n))
      (ap (λ (k : ℕ). eqb k (suc n)) (number_accepted p h) ∙ ne_eqb 0 (suc n) (λ e. omega arith))

  pub count_accepted : refusal_of p ≡ none → report_over more ≡ with_accepted (report_over ps) (figures_of p)
  unfolding report_over with_accepted segments_of_each messages_of_each normal_lengths figures_of
  count_accepted h =
      let a : is_accepted p ≡ true = is_accepted_lem p h in
      let u : (n : ℕ) → refused_under more (suc n) ≡ refused_under ps (suc n) = under_same h in
      let e : length (those is_accepted more) ≡ length (those is_accepted ps) + 1 =
      ap length (those_more is_accepted ps p a) ∙ length-append (those is_accepted ps) (p ∷ []) in
      λ k.
      record {
        accepted = e k;
        refused =
            0 ∷ u 0 k ∷ u 1 k ∷ u 2 k ∷ u 3 k ∷ u 4 k ∷ u 5 k ∷ u 6 k ∷ u 7 k ∷ u 8 k ∷ u 9 k ∷ u 10 k ∷ u 11 k ∷ u 12 k ∷ [];
        segments = record { 0 = summed (λ q. (figures_of q).segments.0) a k };
        messages = record { 0 = summed (λ q. (figures_of q).messages.0) a k };
        total = summed (λ q. length (normal_form q)) a k;
        longest = (ap greatest (mapped_more (λ q. length (normal_form q)) a)
            ∙ greatest_more (map (λ q. length (normal_form q)) (those is_accepted ps)) (length (normal_form p))) k;
      }

  -- ---- a refused piece

  -- one more under its number, and under no other
  raised : (f : Fault) → number f ≤ 13 → (judge p).number ≡ number f
      → 0 ∷ map (refused_under more) numbers
      ≡ set (0 ∷ map (refused_under ps) numbers) (number f) (get_or (0 ∷ map (refused_under ps) numbers) (number f) 0 + 1)
  raised f h e = ap (λ (g : ℕ → ℕ). 0 ∷ map g numbers) (fun_ext by_number) ∙ step f h
    where
      one_more : ℕ → ℕ → ℕ
      one_more k n = if eqb k n then refused_under ps n + 1 else refused_under ps n

      by_number : (n : ℕ) → refused_under more n ≡ one_more (number f) n
      by_number n = under n ∙ ap (λ (k : ℕ). one_more k n) e

      step : (g : Fault) → number g ≤ 13
          → 0 ∷ map (one_more (number g)) numbers
          ≡ set (0 ∷ map (refused_under ps) numbers) (number g) (get_or (0 ∷ map (refused_under ps) numbers) (number g) 0 + 1)
      step TooLong k = refl
      step UnusableAdvice k = refl
      step NoOpening k = refl
      step StrayRelease k = refl
      step UnendedSegment k = refl
      step BrokenTag k = refl
      step ForeignLevel k = refl
      step OutsideLevel k = refl
      step MisplacedSegment k = refl
      step BadControl k = refl
      step ReferenceDiffers k = refl
      step CountWrong k = refl
      step NormalTooLong k = refl
      step BufferShort k = absurd (omega arith)
      step BadList k = absurd (omega arith)
      step NeedsRelease k = absurd (omega arith)
      step NoFreeSlot k = absurd (omega arith)
      step NoRoom k = absurd (omega arith)
      step UnsoundShelf k = absurd (omega arith)
      step FreeSlot k = absurd (omega arith)
      step UnsoundTable k = absurd (omega arith)
      step UnmatchedBody k = absurd (omega arith)
      step NoAcknowledgement k = absurd (omega arith)
      step NoColumns k = absurd (omega arith)

  pub count_refused : (r : Refusal) → refusal_of p ≡ some r → report_over more ≡ with_refused (report_over ps) r
  unfolding report_over with_refused segments_of_each messages_of_each normal_lengths
  count_refused r h =
      let same : those is_accepted more ≡ those is_accepted ps = those_same is_accepted ps p (not_accepted p r h) in
      λ k.
      record {
        accepted = length (same k);
        refused = raised r.fault (refused_number p r h) (number_refused p r h) k;
        segments = record { 0 = sum (map (λ q. (figures_of q).segments.0) (same k)) };
        messages = record { 0 = sum (map (λ q. (figures_of q).messages.0) (same k)) };
        total = sum (map (λ q. length (normal_form q)) (same k));
        longest = greatest (map (λ q. length (normal_form q)) (same k));
      }

-- over no pieces every figure is 0
pub count_none : report_over [] ≡ no_figures
unfolding report_over no_figures segments_of_each messages_of_each normal_lengths refused_under those sum greatest
count_none = refl
