-- A loop that stores what tokens spell, step by step. Assumes nothing.
use Prim.Native.Nat.{ℕ, ◌+◌, ◌*◌, ◌<◌, ◌≤◌}
use native.Mathlib.Nat.{add-zero}
use mathlib.Core.Path.{◌≡◌, refl, sym, ap, ◌∙◌}
use mathlib.Core.List.{List, [], ◌∷◌, ◌++◌}
use native.Mathlib.Omega.{arith}
use lib.ListN.{length, length-append}
use Rattle.lists.specs.Lists.{gather}
use Rattle.characters.specs.declared.Characters.{Characters}
use Rattle.values.specs.Tokens.{Token, byte, separator, fault}
use Rattle.values.specs.Spelling.{spell_byte, spell_value}
use Rattle.storing.specs.Sinks.{SinkLaws}
use Rattle.storing.proofs.Stores.{byte_most}
use Rattle.storing.proofs.Putting.{Going, front_goes, going_step, going_done}
use Rattle.emission_laws.specs.declared.Held.{Held}
use Rattle.emission_laws.specs.declared.Measure.{Measure}
use Rattle.emission_laws.specs.Emission.{nothing, waiting, held_next, held_after, let_out, spelled_next, emitted, after}
use Rattle.emission_laws.proofs.Steps.{emitted_append, byte_first, let_out_length}
use Rattle.held_separators.specs.Putting.{value_byte, value_tokens, Fits, Puts}

-- ---- a whole value

nothing_held_after : (value : List ℕ) → held_after nothing (value_tokens value) ≡ nothing
unfolding held_after held_next
nothing_held_after [] = refl
nothing_held_after (b ∷ bs) = nothing_held_after bs

-- its first byte lets out all that is held back
pub value_held : (h : Held) (value : List ℕ) → 0 < length value → held_after h (value_tokens value) ≡ nothing
unfolding held_after held_next
value_held h [] p = absurd (omega arith)
value_held h (b ∷ bs) p = nothing_held_after bs

module _ (c : Characters) where
  bare_value : (value : List ℕ) → emitted c nothing (value_tokens value) ≡ spell_value c value
  unfolding let_out emitted spell_value gather
  bare_value [] = refl
  bare_value (b ∷ bs) = byte_first c nothing b 0 0 (value_tokens bs) ∙ ap (λ (l : List ℕ). spell_byte c b ++ l) (bare_value bs)

  pub value_text : (h : Held) (value : List ℕ) → 0 < length value → emitted c h (value_tokens value) ≡ let_out c h ++ spell_value c value
  unfolding spell_value gather
  value_text h [] p = absurd (omega arith)
  value_text h (b ∷ bs) p = byte_first c h b 0 0 (value_tokens bs) ∙ ap (λ (l : List ℕ). let_out c h ++ (spell_byte c b ++ l)) (bare_value bs)

  pub value_length : (h : Held) (value : List ℕ) → 0 < length value
      → length (emitted c h (value_tokens value)) ≡ waiting h + length (spell_value c value)
  value_length h value p = omega (arith, ap length (value_text h value p), length-append (let_out c h) (spell_value c value), let_out_length c h)

  -- it takes two bytes for each of its own at most
  pub value_most : (value : List ℕ) → length (spell_value c value) ≤ 2 * length value
  unfolding spell_value gather
  value_most [] = omega arith
  value_most (b ∷ bs) = omega (arith, byte_most c b, length-append (spell_byte c b) (spell_value c bs), value_most bs)

-- an empty value leaves the measure as it is
pub value_none : (c : Characters) (m : Measure) (value : List ℕ) → length value ≡ 0 → m ≡ after c m (value_tokens value)
unfolding after emitted held_after
value_none c m [] e = ap (λ (n : ℕ). record { total = n; held = m.held }) (sym (add-zero m.total))
value_none c m (b ∷ bs) e = absurd (omega arith)

pub value_empty : (c : Characters) (h : Held) (value : List ℕ) → length value ≡ 0 → emitted c h (value_tokens value) ≡ []
unfolding emitted
value_empty c h [] e = refl
value_empty c h (b ∷ bs) e = absurd (omega arith)

-- The sink has what is passed, the measure `m` is reached, and `ts` are left.
module _ {holds : List ℕ → ℕ → List ℕ → List ℕ} {room : List ℕ → ℕ} (laws : SinkLaws holds room) (c : Characters) (m : Measure) {l₀ l₁ : List ℕ} {from : ℕ}
    {whole : List ℕ} (ts : List Token) (g : Going holds room l₀ l₁ from m.total whole (emitted c m.held ts)) where
  -- the first of them
  module _ (us rest : List Token) (e : ts ≡ us ++ rest) where
    first : emitted c m.held ts ≡ emitted c m.held us ++ emitted c (held_after m.held us) rest
    first = ap (emitted c m.held) e ∙ emitted_append c m.held us rest

    pub tokens_fit : Fits room c l₁ m us
    tokens_fit = front_goes laws g (emitted c m.held us) (emitted c (held_after m.held us) rest) first

    pub tokens_put : {l₂ : List ℕ} {n : Measure} → Puts holds c l₁ m us l₂ n → Going holds room l₀ l₂ from n.total whole (emitted c n.held rest)
    unfolding after
    tokens_put {l₂} {n} (s, d) =
        going_step laws g (emitted c m.held us) (emitted c n.held rest)
        (first ∙ ap (λ (k : Measure). emitted c m.held us ++ emitted c k.held rest) (sym d)) s (ap (λ (k : Measure). k.total) d)

  module _ {b at place : ℕ} {rest : List Token} (e : ts ≡ byte b at place ∷ rest) where
    pub byte_fits : Fits room c l₁ m (value_byte b ∷ [])
    unfolding emitted spelled_next
    byte_fits = tokens_fit (byte b at place ∷ []) rest e

    pub byte_put : {l₂ : List ℕ} {n : Measure} → Puts holds c l₁ m (value_byte b ∷ []) l₂ n → Going holds room l₀ l₂ from n.total whole (emitted c n.held rest)
    unfolding after emitted spelled_next held_after held_next
    byte_put p = tokens_put (byte b at place ∷ []) rest e p

  module _ {rank place : ℕ} {rest : List Token} (e : ts ≡ separator rank place ∷ rest) where
    pub separator_fits : Fits room c l₁ m (separator rank 0 ∷ [])
    unfolding emitted spelled_next
    separator_fits = tokens_fit (separator rank place ∷ []) rest e

    pub separator_put : {l₂ : List ℕ} {n : Measure} → Puts holds c l₁ m (separator rank 0 ∷ []) l₂ n
        → Going holds room l₀ l₂ from n.total whole (emitted c n.held rest)
    unfolding after emitted spelled_next held_after held_next
    separator_put p = tokens_put (separator rank place ∷ []) rest e p

  -- a stray release character spells nothing
  pub fault_put : {place : ℕ} {rest : List Token} → ts ≡ fault place ∷ rest → Going holds room l₀ l₁ from m.total whole (emitted c m.held rest)
  unfolding emitted spelled_next held_next
  fault_put {rest = rest} e = going_step laws g [] (emitted c m.held rest) (ap (emitted c m.held) e) (sym (laws.none l₁ m.total)) (sym (add-zero m.total))

  pub all_put_lem : ts ≡ [] → l₁ ≡ holds l₀ from whole
  unfolding emitted
  all_put_lem e = going_done laws g (ap (emitted c m.held) e)
