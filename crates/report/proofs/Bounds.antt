-- How large the figures are: each piece is counted once, and what Judge says of an accepted one is at most 32,000. Assumes nothing.
use Rattle.std.specs.Prelude.{if◌then◌else◌}
use Prim.Native.Nat.{ℕ, zero, suc, ◌+◌, ◌*◌, ◌≤◌}
use mathlib.Core.Path.{◌≡◌, refl, ap}
use mathlib.Core.Bool.{Bool, true, false}
use mathlib.Core.List.{List, [], ◌∷◌, map, reverse_aux}
use mathlib.Core.Option.{Option, none, some}
use native.Mathlib.Omega.{arith}
use lib.ListN.{length, get_or}
use lib.Dec.{eqb}
use Rattle.lists.specs.Lists.{any, those, maybe}
use Rattle.refusals.specs.declared.Fault.TheVariants.{TooLong, NormalTooLong}
use Rattle.refusals.specs.declared.Refusal.{Refusal}
use Rattle.refusals.specs.Limits.{most_bytes}
use Rattle.values.specs.Tokens.{Segment}
use Rattle.segments.specs.declared.Kind.TheVariants.{Unh}
use Rattle.segments.specs.Kinds.{is}
use Rattle.segments.specs.Tags.{kind_of}
use Rattle.segments.specs.Order.{segments_in, messages_in}
use Rattle.stages.specs.Contents.{segments_of, kinds_of, normal_form}
use Rattle.stages.specs.Places.{too_long, normal_too_long}
use Rattle.stages.specs.Stages.{places_of, brackets, refusal_of}
use Rattle.stages.proofs.Over.{within}
use Rattle.stages.proofs.Stages.{accepted_unmet}
use Rattle.stage_walks.proofs.Rows.{Climbs, end, on}
use Rattle.stage_walks.proofs.Rising.{Spans, segments_rise}
use Rattle.operations.specs.Judge.{figures_of, judge}
use Rattle.operations.specs.Compare.{is_accepted}
use Rattle.mailbox_files.specs.Report.{sum, numbers, refused_under, segments_of_each, messages_of_each, normal_lengths, report_over}
use Rattle.report.specs.Counting.{Within, Small}

-- ---- an accepted piece

-- each segment has a byte
row_length : {low high : ℕ} {gs : List Segment} → Climbs Spans low high gs → low + length gs ≤ high
row_length (end h) = omega arith
row_length (on low next g l (from, to, rises) rest) = omega (arith, row_length rest)

those_length : {A : Type 0} (t : A → Bool) (xs : List A) → length (those t xs) ≤ length xs
unfolding those
those_length t [] = omega arith
those_length t (x ∷ xs) = step (t x) (those_length t xs)
  where
    step : (b : Bool) → length (those t xs) ≤ length xs → length (if b then x ∷ those t xs else those t xs) ≤ suc (length xs)
    step true h = omega arith
    step false h = omega arith

-- a list turned round is as long
turned_length : {A : Type 0} (xs ys : List A) → length (reverse_aux xs ys) ≡ length xs + length ys
turned_length [] ys = omega arith
turned_length (x ∷ xs) ys = omega (arith, turned_length xs (x ∷ ys))

mapped_length : {A B : Type 0} (f : A → B) (xs : List A) → length (map f xs) ≡ length xs
mapped_length f [] = refl
mapped_length f (x ∷ xs) = ap suc (mapped_length f xs)

kinds_length : (s : List ℕ) → length (kinds_of s) ≤ length s
unfolding kinds_of
kinds_length s =
    omega (arith, turned_length (map kind_of (segments_of s)) [], mapped_length kind_of (segments_of s), row_length (segments_rise s))

pub small : (s : List ℕ) → refusal_of s ≡ none → Small (figures_of s)
unfolding figures_of segments_in messages_in places_of too_long normal_too_long any brackets
small s h =
    let short : length s ≤ most_bytes = (within s 0).0 (accepted_unmet s h TooLong refl) in
    record {
      segments = omega (arith, kinds_length s);
      messages = omega (arith, kinds_length s, those_length (is Unh) (kinds_of s));
      normal = (within (normal_form s) (length (normal_form s))).0 (accepted_unmet s h NormalTooLong refl);
    }

-- ---- the figures of so many pieces

abbrev Piece : Type 0
Piece = List ℕ

-- what is at most 32,000 for each accepted piece is at most so many times that for all
sum_small : (f : Piece → ℕ) → ((p : Piece) → refusal_of p ≡ none → f p ≤ most_bytes) → (ps : List Piece)
    → sum (map f (those is_accepted ps)) ≤ most_bytes * length ps
unfolding sum those is_accepted maybe
sum_small f h [] = omega arith
sum_small f h (p ∷ ps) = step (refusal_of p) refl (sum_small f h ps)
  where
    rest : List Piece
    rest = those is_accepted ps

    step : (o : Option Refusal) → refusal_of p ≡ o → sum (map f rest) ≤ most_bytes * length ps
        → sum (map f (if maybe true (λ (r : Refusal). false) o then p ∷ rest else rest)) ≤ most_bytes * suc (length ps)
    step none e k = omega (arith, h p e)
    step (some r) e k = omega arith

-- a list of numbers that are all so small
get_d_small : (f : ℕ → ℕ) (most : ℕ) → ((n : ℕ) → f n ≤ most) → (ns : List ℕ) (i : ℕ) → get_or (map f ns) i 0 ≤ most
get_d_small f most h [] i = omega arith
get_d_small f most h (n ∷ ns) zero = h n
get_d_small f most h (n ∷ ns) (suc i) = get_d_small f most h ns i

module _ (ps : List Piece) (most : ℕ) (few : length ps ≤ most) where
  refused_small : (n : ℕ) → get_or (0 ∷ map (refused_under ps) numbers) n 0 ≤ most
  unfolding refused_under
  refused_small zero = omega arith
  refused_small (suc n) =
      get_d_small (refused_under ps) most (λ k. omega (arith, those_length (λ p. eqb (judge p).number k) ps)) numbers n

  pub report_within : Within most (report_over ps)
  unfolding report_over segments_of_each messages_of_each normal_lengths figures_of
  report_within =
      record {
        accepted = omega (arith, those_length is_accepted ps);
        numbers = refl;
        refused = refused_small;
        segments = omega (arith, sum_small (λ p. (figures_of p).segments.0) (λ p h. (small p h).segments) ps);
        messages = omega (arith, sum_small (λ p. (figures_of p).messages.0) (λ p h. (small p h).messages) ps);
        total = omega (arith, sum_small (λ p. length (normal_form p)) (λ p h. (small p h).normal) ps);
      }
