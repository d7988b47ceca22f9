-- How long what is emitted is, token by token and over a run or a stretch at once. Assumes nothing.
use Prim.Native.Nat.{ℕ, ◌+◌, ◌-◌, ◌≤◌}
use mathlib.Core.Path.{◌≡◌, refl, sym, ap, ◌∙◌}
use mathlib.Core.Bool.{Bool, ◌&&◌}
use mathlib.Core.List.{List, [], ◌∷◌}
use native.Mathlib.Omega.{arith}
use lib.ListN.{length, take, drop, length-append}
use Rattle.characters.specs.declared.Characters.{Characters}
use Rattle.values.specs.Tokens.{Token, byte, separator, fault, tokens_at}
use Rattle.emission_laws.specs.declared.Held.{Held}
use Rattle.emission_laws.specs.declared.Measure.{Measure}
use Rattle.emission_laws.specs.Emission.{nothing, emitted, after}
use Rattle.emission_laws.proofs.Steps.{goes_byte, goes_separator, goes_fault}
use Rattle.ordinary_runs.specs.Runs.{quiet, Run, longer}
use Rattle.ordinary_runs.proofs.Runs.{run_inside, run_text, run_length, none_after}
use Rattle.stretches.specs.Stretches.{respelling, emitted_at, Stretch}
use Rattle.stretches.proofs.Steps.{respelling_length}

module _ (n : Characters) where
  -- the measure `m` is reached, and with what the tokens spell the text has this length
  abbrev pub Counts : ℕ → Measure → List Token → Type 0
  Counts total m ts = total ≡ m.total + length (emitted n m.held ts)

  module _ {total : ℕ} (m : Measure) {ts : List Token} (g : Counts total m ts) where
    pub counts_byte : {b from place : ℕ} {rest : List Token} {l : Measure} → ts ≡ byte b from place ∷ rest → l ≡ after n m (byte b 0 0 ∷ [])
        → Counts total l rest
    unfolding after
    counts_byte e d = g ∙ ap (λ (v : Measure). v.total) (goes_byte n m {end = after n m ts} refl e d)

    pub counts_separator : {rank place : ℕ} {rest : List Token} {l : Measure} → ts ≡ separator rank place ∷ rest → l ≡ after n m (separator rank 0 ∷ [])
        → Counts total l rest
    unfolding after
    counts_separator e d = g ∙ ap (λ (v : Measure). v.total) (goes_separator n m {end = after n m ts} refl e d)

    pub counts_fault : {place : ℕ} {rest : List Token} → ts ≡ fault place ∷ rest → Counts total m rest
    unfolding after
    counts_fault e = g ∙ ap (λ (v : Measure). v.total) (goes_fault n m {end = after n m ts} refl e)

    -- where nothing is left, and after a terminator, what is emitted anew has the same length
    pub counts_end : ts ≡ [] → total ≡ m.total + length (emitted n nothing ts)
    unfolding emitted
    counts_end e = g ∙ ap (λ (l : List Token). m.total + length (emitted n m.held l)) e ∙ sym (ap (λ (l : List Token). m.total + length (emitted n nothing l)) e)

    pub counts_terminator : {rank place : ℕ} {rest : List Token} {l : Measure} → ts ≡ separator rank place ∷ rest → rank ≡ 0
        → l ≡ after n m (separator rank 0 ∷ []) → total ≡ l.total + length (emitted n nothing rest)
    counts_terminator {rest = rest} {l = l} e z d =
        counts_separator e d ∙ ap (λ (h : Held). l.total + length (emitted n h rest)) (none_after n m z d)

  module _ (c : Characters) (s : List ℕ) where
    -- a run counts its bytes
    pub counts_run : {calm : Bool} → calm ≡ (quiet c && quiet n) → {total from to : ℕ} (m : Measure) {l : Measure} → Counts total m (tokens_at c s from)
        → m.held ≡ nothing → Run calm s from to → from ≤ length s → l ≡ longer m (to - from) → Counts total l (tokens_at c s to)
    counts_run q {total} {from} {to} m {l} g z run i d =
        omega (
          arith,
          ap (λ (h : Held). length (emitted n h (tokens_at c s from))) z,
          ap length (run_text c n s q run),
          length-append (take (to - from) (drop from s)) (emitted_at c n s to),
          run_length s run.0 (run_inside s run i),
          ap (λ (v : Measure). v.total) d,
          ap (λ (v : Measure). length (emitted n v.held (tokens_at c s to))) d,
          ap (λ (h : Held). length (emitted n h (tokens_at c s to))) z,
        )

    -- and so does a stretch
    pub stretch_length : {from to : ℕ} → Stretch c n s from to → length (emitted_at c n s from) ≡ (to - from) + length (emitted_at c n s to)
    stretch_length {from} {to} (l, i, e, o) =
        omega (arith, ap length e, length-append (respelling c n s from (to - from)) (emitted_at c n s to), respelling_length c n s from (to - from))
