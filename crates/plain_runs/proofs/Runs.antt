-- A run of plain bytes, byte by byte: each of them is a byte of a value. Assumes nothing.
use Prim.Native.Nat.{ℕ, zero, suc, ◌+◌, ◌-◌, ◌≤◌, ◌<◌}
use mathlib.Core.Path.{◌≡◌, refl, sym, ap, subst, ◌∙◌}
use mathlib.Core.Bool.{false, false≢true}
use mathlib.Core.List.{List, [], ◌∷◌, ◌++◌}
use native.Mathlib.Omega.{arith}
use native.Mathlib.Decide.{dec_le}
use native.Mathlib.Nat.{lt_of_not-le}
use lib.ListN.{length, get_or, take, drop, length-drop}
use lib.Seq.{take-suc, get_or-drop, length-take-le}
use Rattle.characters.specs.declared.Characters.{Characters}
use Rattle.characters.specs.declared.Role.{Role}
use Rattle.characters.specs.declared.Role.TheVariants.{Separator, Release, Plain}
use Rattle.characters.specs.Characters.{role, is_service}
use Rattle.values.specs.Tokens.{byte, tokens_at}
use Rattle.values.proofs.Steps.{at_plain}
use Rattle.spelling_laws.proofs.Service.{serves, service_serves}
use Rattle.storing.specs.Sinks.{SinkLaws}
use Rattle.storing.proofs.Putting.{put_after}
use Rattle.plain_runs.specs.Runs.{PlainRun}

module _ (c : Characters) where
  -- what is no service character is plain
  role_plain : (b : ℕ) → is_service c b ≡ false → role c b ≡ Plain
  role_plain b e = step (role c b) (sym (service_serves c b) ∙ e)
    where
      step : (r : Role) → serves r ≡ false → r ≡ Plain
      step (Separator rank) f = absurd (false≢true (sym f))
      step Release f = absurd (false≢true (sym f))
      step Plain f = refl

  module _ (s : List ℕ) where
    -- ---- the run, from a place on

    pub run_none : (from : ℕ) → PlainRun c s from from
    run_none from = (omega arith, λ k l m. absurd (omega arith))

    pub run_next_lem : {from at : ℕ} → PlainRun c s from at → at < length s → is_service c (get_or s at 0) ≡ false → PlainRun c s from (at + 1)
    run_next_lem {from} {at} (h, o) i e = (
      omega arith,
      λ k l m. elim (dec_le (k + 1) at) [
        | yes q ↦ o k l (omega arith)
        | no q ↦ let w : k ≡ at = omega (arith, lt_of_not-le q) in (omega arith, ap (λ (p : ℕ). is_service c (get_or s p 0)) w ∙ e)
      ],
    )

    -- it lies in the input
    pub run_inside : {from to : ℕ} → PlainRun c s from to → from ≤ length s → to ≤ length s
    run_inside {from} {to} (h, o) i =
        elim (dec_le to from) [
          | yes k ↦ omega arith
          | no k ↦ let (l, p) = o (to - 1) (omega (arith, lt_of_not-le k)) (omega (arith, lt_of_not-le k)) in omega arith
        ]

    -- ---- the tokens of a run

    -- What each byte of the run keeps, as a byte of a value, the run keeps.
    pub by_bytes : (P : ℕ → Type 0) {from to : ℕ} → PlainRun c s from to
        → ((k : ℕ) → from ≤ k → k < to → k < length s → tokens_at c s k ≡ byte (get_or s k 0) k k ∷ tokens_at c s (k + 1) → P k → P (k + 1))
        → P from → P to
    by_bytes P {from} {to} (h, o) f p = subst P there (go (to - from) (omega arith))
      where
        there : from + (to - from) ≡ to
        there = omega arith

        go : (n : ℕ) → n ≤ to - from → P (from + n)
        go zero l = subst P none p
          where
            none : from ≡ from + 0
            none = omega arith
        go (suc n) l =
            let k : ℕ = from + n in
            let (i, e) = o k (omega arith) (omega arith) in
            subst P next (f k (omega arith) (omega arith) i (at_plain c s k i (role_plain (get_or s k 0) e)) (go n (omega arith)))
          where
            next : from + n + 1 ≡ from + suc n
            next = omega arith

-- ---- a run that a sink takes

module _ {holds : List ℕ → ℕ → List ℕ → List ℕ} {room : List ℕ → ℕ} (laws : SinkLaws holds room) (s : List ℕ) where
  -- nothing of it changes nothing
  pub none_put : (from into : ℕ) (buffer : List ℕ) → buffer ≡ holds buffer into (take (from - from) (drop from s))
  none_put from into buffer =
      let none : 0 ≡ from - from = omega arith in
      sym (laws.none buffer into) ∙ ap (λ (k : ℕ). holds buffer into (take k (drop from s))) none

  -- a byte more is put after it
  pub run_put : {from at : ℕ} → from ≤ at → at < length s → (buffer : List ℕ) (into : ℕ) {to : ℕ} → to ≡ into + (at - from)
      → holds buffer into (take (at + 1 - from) (drop from s)) ≡ holds (holds buffer into (take (at - from) (drop from s))) to (get_or s at 0 ∷ [])
  run_put {from} {at} l h buffer into d =
      let front = take (at - from) (drop from s) in
      let next : at + 1 - from ≡ suc (at - from) = omega arith in
      let there : from + (at - from) ≡ at = omega arith in
      let long = length-take-le (at - from) (drop from s) (omega (arith, length-drop from s)) in
      ap (λ (k : ℕ). holds buffer into (take k (drop from s))) next
      ∙ ap (holds buffer into) (take-suc (drop from s) (at - from) 0 (omega (arith, length-drop from s)))
      ∙ ap (λ (b : ℕ). holds buffer into (front ++ (b ∷ []))) (get_or-drop from s (at - from) 0 ∙ ap (λ (k : ℕ). get_or s k 0) there)
      ∙ sym (put_after laws buffer into front (get_or s at 0 ∷ []) refl (d ∙ ap (λ (k : ℕ). into + k) (sym long)) refl)
