-- The bytes between two places, one by one: digits and the number that they spell, and bytes that stand at two places. Assumes nothing.
use Prim.Native.Nat.{ℕ, zero, suc, ◌+◌, ◌*◌, ◌-◌, ◌≤◌, ◌<◌}
use mathlib.Core.Path.{◌≡◌, refl, sym, ap, ap₂, subst, ◌∙◌}
use mathlib.Core.Bool.{true, ◌&&◌}
use mathlib.Core.List.{List, [], ◌∷◌, ◌++◌}
use native.Mathlib.Omega.{arith}
use native.Mathlib.Decide.{dec_le}
use native.Mathlib.Nat.{lt_of_not-le}
use lib.ListN.{length, get_or, take, drop, length-drop}
use lib.Dec.{leb}
use borrow.Author.Tests.{leb-true}
use lib.Seq.{take-suc, get_or-drop}
use Rattle.lists.specs.Lists.{all}
use Rattle.lists.proofs.Numbers.{drop_next}
use Rattle.lists.proofs.Texts.{and_left, and_both, all_append}
use Rattle.characters.specs.Characters.{between, digit}
use Rattle.control_elements.specs.Control.{decimal_from, decimal}
use Rattle.control_fields.specs.Reading.{ceiling}
use Rattle.control_fields.proofs.Bytes.{five_spell}
use Rattle.ordinary_runs.specs.Runs.{is_ordinary, Run}
use Rattle.ordinary_runs.proofs.Runs.{run_none, run_next_lem}
use Rattle.ordinary_controls.specs.Standing.{part, SameRun, Counts}

-- a digit is ordinary
digit_ordinary : (b : ℕ) → digit b ≡ true → is_ordinary b ≡ true
unfolding is_ordinary
digit_ordinary b d = rw d

-- and no byte below 48
pub digit_least : (b : ℕ) → digit b ≡ true → 48 ≤ b
unfolding digit between
digit_least b d = leb-true 48 b (and_left (leb 48 b) (leb b 57) d)

-- a digit more
decimal_more : (n : ℕ) (ds : List ℕ) (d : ℕ) → decimal_from n (ds ++ (d ∷ [])) ≡ decimal_from n ds * 10 + (d - 48)
unfolding decimal_from
decimal_more n [] d = refl
decimal_more n (x ∷ ds) d = decimal_more (n * 10 + (x - 48)) ds d

module _ (s : List ℕ) where
  part_none : (from : ℕ) → part s from from ≡ []
  part_none from = let none : from - from ≡ 0 = omega arith in ap (λ (k : ℕ). take k (drop from s)) none

  -- a byte more
  part_next : (from at : ℕ) → from ≤ at → at < length s → part s from (at + 1) ≡ part s from at ++ (get_or s at 0 ∷ [])
  part_next from at l h =
      let next : at + 1 - from ≡ suc (at - from) = omega arith in
      let there : from + (at - from) ≡ at = omega arith in
      ap (λ (k : ℕ). take k (drop from s)) next
      ∙ take-suc (drop from s) (at - from) 0 (omega (arith, length-drop from s))
      ∙ ap (λ (b : ℕ). part s from at ++ (b ∷ [])) (get_or-drop from s (at - from) 0 ∙ ap (λ (k : ℕ). get_or s k 0) there)

  -- ---- digits

  -- what was read so far of a count, with room for a digit more
  pub record Reads (from at number : ℕ) : Type 0 where
    pub counts : Counts s from (record { end = at; number = number })
    pub low : number ≤ ceiling (at - from)

  pub reads_none : (from : ℕ) → Reads from from 0
  unfolding decimal decimal_from all
  reads_none from =
      record {
        counts =
            record {
              run = run_none s from;
              few = omega arith;
              digits = ap (all digit) (part_none from);
              number_is = sym (ap decimal (part_none from));
            };
        low = omega arith;
      }

  -- six digits leave the number small
  pub reads_few : (from at number : ℕ) → Reads from at number → at - from < 6 → number ≤ 2299977
  reads_few from at number i h = five_spell (record { size = at - from; digits = true; number = number; alone = true }) i.low h

  -- a digit more
  pub reads_next : (from at number : ℕ) → Reads from at number → at < length s → at - from < 6 → digit (get_or s at 0) ≡ true
      → get_or s at 0 ≤ 255 → Reads from (at + 1) (number * 10 + (get_or s at 0 - 48))
  unfolding decimal ceiling all
  reads_next from at number i h few d byte =
      let l = i.counts.run.0 in
      let more = part_next from at l h in
      let b = get_or s at 0 in
      let next : suc (at - from) ≡ at + 1 - from = omega arith in
      record {
        counts =
            record {
              run = run_next_lem s from refl i.counts.run h (digit_ordinary b d);
              few = omega arith;
              digits =
                  ap (all digit) more
                  ∙ all_append digit (part s from at) (b ∷ [])
                  ∙ and_both (all digit (part s from at)) (digit b && true) i.counts.digits (and_both (digit b) true d refl);
              number_is =
                  sym (ap decimal more
                  ∙ decimal_more 0 (part s from at) b
                  ∙ ap (λ (n : ℕ). n * 10 + (b - 48)) (sym i.counts.number_is));
            };
        low = subst (λ (n : ℕ). number * 10 + (b - 48) ≤ ceiling n) next (omega (arith, i.low));
      }

  -- ---- bytes at two places

  pub same_none : (first second : ℕ) → SameRun s first second first
  same_none first second = (run_none s first, λ k h. absurd (omega arith))

  pub same_next : (first second at other : ℕ) → SameRun s first second at → first + other ≡ second + at → at < length s → other < length s
      → is_ordinary (get_or s at 0) ≡ true → get_or s at 0 ≡ get_or s other 0 → SameRun s first second (at + 1)
  same_next first second at other (run, same) there h l o e = (
    run_next_lem s first refl run h o,
    λ k m. elim (dec_le (first + k + 1) at) [
      | yes q ↦ same k (omega arith)
      | no q ↦
          let w : first + k ≡ at = omega (arith, lt_of_not-le q) in
          let v : second + k ≡ other = omega arith in
          (omega arith, ap (λ (p : ℕ). get_or s p 0) v ∙ sym e ∙ ap (λ (p : ℕ). get_or s p 0) (sym w))
    ],
  )

  -- they are the same bytes
  same_bytes : (n first second : ℕ) → ((k : ℕ) → k < n → (first + k < length s) × (second + k < length s) × (get_or s (second + k) 0 ≡ get_or s (first + k) 0))
      → take n (drop second s) ≡ take n (drop first s)
  same_bytes zero first second h = refl
  same_bytes (suc n) first second h =
      let i : first < length s = omega (arith, (h 0 (omega arith)).0) in
      let j : second < length s = omega (arith, (h 0 (omega arith)).1) in
      let here : second ≡ second + 0 = omega arith in
      let there : first + 0 ≡ first = omega arith in
      ap (take (suc n)) (drop_next s second j)
      ∙ ap₂ (λ (b : ℕ) (l : List ℕ). b ∷ l)
      (ap (λ (p : ℕ). get_or s p 0) here ∙ (h 0 (omega arith)).2 ∙ ap (λ (p : ℕ). get_or s p 0) there)
      (same_bytes n (first + 1) (second + 1) moved)
      ∙ ap (take (suc n)) (sym (drop_next s first i))
    where
      moved : (k : ℕ) → k < n → (first + 1 + k < length s) × (second + 1 + k < length s) × (get_or s (second + 1 + k) 0 ≡ get_or s (first + 1 + k) 0)
      moved k l =
          let (i, j, e) = h (k + 1) (omega arith) in
          let here : second + 1 + k ≡ second + (k + 1) = omega arith in
          let there : first + (k + 1) ≡ first + 1 + k = omega arith in
          (omega arith, omega arith, ap (λ (p : ℕ). get_or s p 0) here ∙ e ∙ ap (λ (p : ℕ). get_or s p 0) there)

  -- and at the second place they are ordinary too
  pub same_part : (first second to : ℕ) → SameRun s first second to → part s second (second + (to - first)) ≡ part s first to
  same_part first second to (run, same) =
      let size : second + (to - first) - second ≡ to - first = omega arith in
      ap (λ (k : ℕ). take k (drop second s)) size
      ∙ same_bytes (to - first) first second
      (λ k h. let l : first + k < to = omega (arith, run.0) in ((run.1 (first + k) (omega arith) l).1, (same k l).0, (same k l).1))

  pub same_ordinary : (first second to : ℕ) → SameRun s first second to → Run true s second (second + (to - first))
  same_ordinary first second to (run, same) = (
    omega arith,
    λ p l h.
        let k = p - second in
        let i : first + k < to = omega (arith, run.0) in
        let there : second + k ≡ p = omega arith in
        let (inside, equal) = same k i in
        (refl, omega arith, ap (λ (q : ℕ). is_ordinary (get_or s q 0)) (sym there) ∙ ap is_ordinary equal ∙ (run.1 (first + k) (omega arith) i).2),
  )
