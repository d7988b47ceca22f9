-- A segment that is passed token by token, and over a run at once: how long the text is so far, and what is held back. Assumes nothing.
use Prim.Native.Nat.{ℕ, zero, suc, ◌+◌, ◌-◌, ◌*◌, ◌≤◌, ◌<◌}
use mathlib.Core.Path.{◌≡◌, sym, ap, subst, ◌∙◌}
use mathlib.Core.Bool.{Bool, true, ◌&&◌}
use mathlib.Core.List.{List, [], ◌∷◌}
use native.Mathlib.Omega.{arith}
use lib.ListN.{length, get_or}
use Rattle.lists.proofs.Texts.{and_left}
use Rattle.characters.specs.declared.Characters.{Characters}
use Rattle.values.specs.Tokens.{byte, separator, fault, tokens_at}
use Rattle.values.proofs.Steps.{at_plain}
use Rattle.emission_laws.specs.declared.Held.{Held}
use Rattle.emission_laws.specs.declared.Measure.{Measure}
use Rattle.emission_laws.specs.Emission.{nothing, waiting, emitted, after}
use Rattle.emission_laws.proofs.Steps.{after_most}
use Rattle.verbatim.specs.Verbatim.{Sound}
use Rattle.verbatim.proofs.Sound.{sound_next}
use Rattle.ordinary_runs.specs.Runs.{is_ordinary, quiet, Run, longer}
use Rattle.ordinary_runs.proofs.Runs.{role_plain, run_inside}
use Rattle.stretches.specs.declared.Reached.{Reached}
use Rattle.stretches.specs.Stretches.{emitted_at}
use Rattle.normal_form_text.specs.Measured.{Measured}
use Rattle.normal_form_text.proofs.Lengths.{Counts, counts_byte, counts_separator, counts_fault, counts_end, counts_terminator, counts_run}

-- What is emitted from a place on is measured up to another one, with what is held back there; two bytes are spelled or held back for each byte
-- passed, at most. No fault lies after it that does not lie in the whole.
pub record Passing (c n : Characters) (s : List ℕ) (from : Reached) (m : Measure) (at : ℕ) : Type 0 where
  pub counts : Counts n (from.total + length (emitted_at c n s from.at)) m (tokens_at c s at)
  pub low : m.total + waiting m.held ≤ from.total + 2 * (at - from.at)
  pub on : from.at ≤ at
  pub inside : at ≤ length s
  pub sound : Sound c s from.at → Sound c s at

-- no fault lies after a run that does not lie in the whole: each of its bytes is one of a value
module _ (c n : Characters) (s : List ℕ) {calm : Bool} (q : calm ≡ (quiet c && quiet n)) where
  step : (k at : ℕ) → ((p : ℕ) → at ≤ p → p < at + k → (calm ≡ true) × (p < length s) × (is_ordinary (get_or s p 0) ≡ true)) → Sound c s at → Sound c s (at + k)
  step zero at h o = let there : at ≡ at + 0 = omega arith in subst (Sound c s) there o
  step (suc k) at h o =
      let (calm-is, inside, ordinary) = h at (omega arith) (omega arith) in
      let there : at + 1 + k ≡ at + suc k = omega arith in
      let value = role_plain c (and_left (quiet c) (quiet n) (sym q ∙ calm-is)) (get_or s at 0) ordinary in
      subst (Sound c s) there
      (step k (at + 1) (λ p x y. h p (omega arith) (omega arith)) (sound_next c s at (at + 1) (at_plain c s at inside value) o))

  pub run_sound : {from to : ℕ} → Run calm s from to → Sound c s from → Sound c s to
  run_sound {from} {to} (h, o) w =
      let there : from + (to - from) ≡ to = omega arith in
      subst (Sound c s) there (step (to - from) from (λ p x y. o p x (omega arith)) w)

module _ (c n : Characters) (s : List ℕ) where
  -- nothing is passed yet
  pub passing_none : (from : Reached) {m : Measure} → from.at ≤ length s → m.total ≡ from.total → m.held ≡ nothing
      → Passing c n s from m from.at
  passing_none from i t z =
      record {
        counts = omega (arith, ap (λ (h : Held). length (emitted n h (tokens_at c s from.at))) z);
        low = omega (arith, ap (λ (h : Held). waiting h) z);
        on = omega arith;
        inside = i;
        sound = λ o. o;
      }

  module _ {from : Reached} (m : Measure) {at : ℕ} (p : Passing c n s from m at) where
    -- a token more
    pub passing_byte : {b first place next : ℕ} {l : Measure} → tokens_at c s at ≡ byte b first place ∷ tokens_at c s next → at < next → next ≤ length s
        → l ≡ after n m (byte b 0 0 ∷ []) → Passing c n s from l next
    passing_byte {b = b} {next = next} e h i d =
        record {
          counts = counts_byte n m p.counts e d;
          low = omega (arith, after_most n m (byte b 0 0 ∷ []) d, p.low, p.on);
          on = omega (arith, p.on);
          inside = i;
          sound = λ o. sound_next c s at next e (p.sound o);
        }

    pub passing_separator : {rank place next : ℕ} {l : Measure} → tokens_at c s at ≡ separator rank place ∷ tokens_at c s next → at < next → next ≤ length s
        → l ≡ after n m (separator rank 0 ∷ []) → Passing c n s from l next
    passing_separator {rank = rank} {next = next} e h i d =
        record {
          counts = counts_separator n m p.counts e d;
          low = omega (arith, after_most n m (separator rank 0 ∷ []) d, p.low, p.on);
          on = omega (arith, p.on);
          inside = i;
          sound = λ o. sound_next c s at next e (p.sound o);
        }

    pub passing_fault : {place next : ℕ} → tokens_at c s at ≡ fault place ∷ tokens_at c s next → at < next → next ≤ length s → Passing c n s from m next
    passing_fault {next = next} e h i =
        record {
          counts = counts_fault n m p.counts e;
          low = omega (arith, p.low, p.on);
          on = omega (arith, p.on);
          inside = i;
          sound = λ o. sound_next c s at next e (p.sound o);
        }

    -- a run more, where nothing is held back
    pub passing_run : {calm : Bool} → calm ≡ (quiet c && quiet n) → {to : ℕ} {l : Measure} → m.held ≡ nothing → Run calm s at to → l ≡ longer m (to - at)
        → Passing c n s from l to
    passing_run q z run d =
        record {
          counts = counts_run n c s q m p.counts z run p.inside d;
          low = omega (arith, run.0, ap (λ (v : Measure). v.total + waiting v.held) d, p.low, p.on);
          on = omega (arith, run.0, p.on);
          inside = run_inside s run p.inside;
          sound = λ o. run_sound c n s q run (p.sound o);
        }

    -- the segment is passed: nothing is left, or it ends in a terminator
    pub passing_end : tokens_at c s at ≡ [] → Measured c n s from (record { total = m.total; at = at })
    passing_end e =
        record {
          counted = counts_end n m p.counts e;
          low = omega (arith, p.low);
          on = p.on;
          inside = λ i. p.inside;
          sound = p.sound;
        }

    pub passing_terminator : {rank place next : ℕ} {l : Measure} → tokens_at c s at ≡ separator rank place ∷ tokens_at c s next → at < next
        → next ≤ length s → rank ≡ 0 → l ≡ after n m (separator rank 0 ∷ []) → Measured c n s from (record { total = l.total; at = next })
    passing_terminator e h i z d =
        let q = passing_separator e h i d in
        record {
          counted = counts_terminator n m p.counts e z d;
          low = omega (arith, q.low);
          on = q.on;
          inside = λ j. i;
          sound = q.sound;
        }
