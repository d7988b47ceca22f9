-- What the figures add up to: every piece is counted once, and the longest normal form is that of an accepted one. Assumes nothing.
use Rattle.std.specs.Prelude.{if◌then◌else◌}
use Prim.Native.Nat.{ℕ, zero, suc, ◌+◌, ◌≤◌, max}
use mathlib.Core.Path.{◌≡◌, refl, sym, ap, ◌∙◌}
use mathlib.Core.Logic.{◌⊎◌, inl, inr, ⊎_elim}
use mathlib.Core.Bool.{Bool, true, false}
use mathlib.Core.List.Memᴰ
use mathlib.Core.List.{List, [], ◌∷◌, map, Memᴰ}
use mathlib.Core.Option.{Option, none, some, none-ne-some}
use native.Mathlib.Omega.{arith}
use native.Mathlib.Decide.{dec_le}
use native.Mathlib.Nat.{lt_of_not-le}
use lib.ListN.{length}
use lib.Dec.{eqb}
use borrow.Author.Tests.{eqb-true}
use Rattle.lists.specs.Lists.{those}
use Rattle.lists.proofs.Tests.{all_from, tested_from}
use Rattle.refusals.specs.declared.Refusal.{Refusal}
use Rattle.refusals.specs.Refusals.{number}
use Rattle.refusals.proofs.Order.{number_not_zero}
use Rattle.stages.specs.Contents.{normal_form}
use Rattle.stages.specs.Stages.{refusal_of}
use Rattle.operations.specs.Judge.{judge}
use Rattle.operations.specs.Compare.{is_accepted}
use Rattle.mailbox_files.specs.Report.{sum, greatest, numbers, refused_under, normal_lengths}
use Rattle.mailbox_files.proofs.Figures.{more_under}
use Rattle.mailbox_files.proofs.Numbers.{refused_number, number_accepted, number_refused, is_accepted_lem, not_accepted}

abbrev Piece : Type 0
Piece = List ℕ

-- ---- every piece is counted once

-- as many more in all as its number is among the numbers
sum_under : (p : Piece) (ps : List Piece) (ns : List ℕ)
    → sum (map (refused_under (p ∷ ps)) ns) ≡ sum (map (refused_under ps) ns) + length (those (eqb (judge p).number) ns)
unfolding sum those
sum_under p ps [] = omega arith
sum_under p ps (n ∷ ns) = step (eqb (judge p).number n) (more_under p ps n) (sum_under p ps ns)
  where
    k : ℕ
    k = (judge p).number

    step : (b : Bool) → refused_under (p ∷ ps) n ≡ (if b then suc (refused_under ps n) else refused_under ps n)
        → sum (map (refused_under (p ∷ ps)) ns) ≡ sum (map (refused_under ps) ns) + length (those (eqb k) ns)
        → refused_under (p ∷ ps) n + sum (map (refused_under (p ∷ ps)) ns)
        ≡ refused_under ps n + sum (map (refused_under ps) ns) + length (if b then n ∷ those (eqb k) ns else those (eqb k) ns)
    step true e ih = omega arith
    step false e ih = omega arith

-- 0 is not among them, and each of 1 to 13 is once
abbrev times_among : ℕ → ℕ
times_among k = length (those (eqb k) numbers)

zero_not_among : times_among 0 ≡ 0
unfolding those
zero_not_among = refl

once_among : (k : ℕ) → 1 ≤ k → k ≤ 13 → times_among k ≡ 1
unfolding those all_from
once_among k l h = eqb-true (times_among k) 1 (tested_from (λ n. eqb (times_among n) 1) 1 13 refl k l (omega arith))

-- those accepted of one more
more_accepted : (p : Piece) (ps : List Piece) {b : Bool} → is_accepted p ≡ b
    → those is_accepted (p ∷ ps) ≡ (if b then p ∷ those is_accepted ps else those is_accepted ps)
unfolding those
more_accepted p ps e = ap (λ (t : Bool). if t then p ∷ those is_accepted ps else those is_accepted ps) e

abbrev counted : List Piece → ℕ
counted ps = length (those is_accepted ps) + sum (map (refused_under ps) numbers)

pub all_counted : (ps : List Piece) → counted ps ≡ length ps
unfolding those sum refused_under
all_counted [] = refl
all_counted (p ∷ ps) = step (refusal_of p) refl (all_counted ps)
  where
    step : (o : Option Refusal) → refusal_of p ≡ o → counted ps ≡ length ps → counted (p ∷ ps) ≡ suc (length ps)
    step none e ih =
        omega (
          arith,
          ap length (more_accepted p ps (is_accepted_lem p e)),
          sum_under p ps numbers,
          ap times_among (number_accepted p e) ∙ zero_not_among,
        )
    step (some r) e ih =
        let k : (judge p).number ≡ number r.fault = number_refused p r e in
        let positive : 1 ≤ number r.fault = some_number (number r.fault) (number_not_zero r.fault) in
        omega (
          arith,
          ap length (more_accepted p ps (not_accepted p r e)),
          sum_under p ps numbers,
          ap times_among k ∙ once_among (number r.fault) positive (refused_number p r e),
        )
      where
        some_number : (n : ℕ) → (n ≡ 0 → ⊥) → 1 ≤ n
        some_number zero f = absurd (f refl)
        some_number (suc n) f = omega arith

-- ---- the longest normal form

abbrev longest_of : List Piece → ℕ
longest_of ps = greatest (normal_lengths ps)

longest_more : (p : Piece) (ps : List Piece) {b : Bool} → is_accepted p ≡ b
    → longest_of (p ∷ ps) ≡ (if b then max (length (normal_form p)) (longest_of ps) else longest_of ps)
unfolding normal_lengths greatest
longest_more p ps {b} e = ap (λ (qs : List Piece). greatest (map (λ q. length (normal_form q)) qs)) (more_accepted p ps e) ∙ step b
  where
    step : (t : Bool)
        → greatest (map (λ (q : Piece). length (normal_form q)) (if t then p ∷ those is_accepted ps else those is_accepted ps))
        ≡ (if t then max (length (normal_form p)) (longest_of ps) else longest_of ps)
    step true = refl
    step false = refl

-- no accepted one is longer
pub longest_most : (ps : List Piece) (p : Piece) → Memᴰ p ps → refusal_of p ≡ none → length (normal_form p) ≤ longest_of ps
longest_most [] p m a = absurd (Memᴰ.not-nil m)
longest_most (q ∷ ps) p m a =
    ⊎_elim
    (λ e.
    let own : refusal_of q ≡ none = ap refusal_of (sym e) ∙ a in
    omega (arith, longest_more q ps (is_accepted_lem q own), ap (λ (s : Piece). length (normal_form s)) e))
    (λ i. step (is_accepted q) refl (longest_most ps p i a))
    (Memᴰ.cases_cons m)
  where
    step : (b : Bool) → is_accepted q ≡ b → length (normal_form p) ≤ longest_of ps → length (normal_form p) ≤ longest_of (q ∷ ps)
    step true e h = omega (arith, longest_more q ps e)
    step false e h = omega (arith, longest_more q ps e)

-- it is one's own, or 0 where none is accepted
abbrev Longest : List Piece → Type 0
Longest ps =
    (((p : Piece) → Memᴰ p ps → refusal_of p ≡ none → ⊥) × (longest_of ps ≡ 0))
    ⊎ ((p : Piece) × Memᴰ p ps × (refusal_of p ≡ none) × (length (normal_form p) ≡ longest_of ps))

pub longest_is : (ps : List Piece) → Longest ps
unfolding normal_lengths greatest those
longest_is [] = inl (λ p m. absurd (Memᴰ.not-nil m), refl)
longest_is (q ∷ ps) = step (refusal_of q) refl (longest_is ps)
  where
    step : (o : Option Refusal) → refusal_of q ≡ o → Longest ps → Longest (q ∷ ps)
    step none e (inl h) = inr (q, Memᴰ.head refl, e, omega (arith, longest_more q ps (is_accepted_lem q e), h.1))
    step none e (inr (p, m, a, l)) = elim (dec_le (longest_of ps) (length (normal_form q))) [
      | yes k ↦ inr (q, Memᴰ.head refl, e, omega (arith, longest_more q ps (is_accepted_lem q e)))
      | no k ↦ inr (p, Memᴰ.tail m, a, omega (arith, longest_more q ps (is_accepted_lem q e), lt_of_not-le k))
    ]
    step (some r) e (inl h) = inl (
      λ p m a. ⊎_elim (λ i. none-ne-some r (sym a ∙ ap refusal_of i ∙ e)) (λ i. h.0 p i a) (Memᴰ.cases_cons m),
      longest_more q ps (not_accepted q r e) ∙ h.1,
    )
    step (some r) e (inr (p, m, a, l)) = inr (p, Memᴰ.tail m, a, l ∙ sym (longest_more q ps (not_accepted q r e)))
