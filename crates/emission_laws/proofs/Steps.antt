-- The machine's steps: tokens one after the other, how long what they spell is, and how far the measure moves. Assumes nothing.
use Rattle.std.specs.Prelude.{if◌then◌else◌}
use Prim.Native.Nat.{ℕ, ◌+◌, ◌*◌, ◌≤◌}
use native.Mathlib.Omega.{arith}
use native.Mathlib.Nat.{add-zero}
use mathlib.Core.Path.{◌≡◌, refl, sym, ap, ap₂, ◌∙◌}
use mathlib.Core.Bool.{Bool, true, false}
use mathlib.Core.List.{List, [], ◌∷◌, ◌++◌, append-nil, append_assoc}
use lib.Dec.{leb}
use borrow.Author.Tests.{le-leb, lt-leb}
use lib.ListN.{length, replicate, length-append, length-replicate}
use Rattle.characters.specs.declared.Characters.{Characters}
use Rattle.values.specs.Tokens.{Token, byte, separator, fault, Reading, inside, tokens_from, tokens}
use Rattle.values.specs.Spelling.{spell_byte}
use Rattle.emission_laws.specs.declared.Held.{Held}
use Rattle.emission_laws.specs.declared.Measure.{Measure}
use Rattle.emission_laws.specs.Emission.{nothing, waiting, separated, held_next, held_after, let_out, spelled_next, emitted, after}
use Rattle.emission_laws.proofs.Cases.{by_spelling, of_reading}

-- what holds after a terminator, an element separator, a repetition separator and a component separator holds after a separator
pub by_rank : (P : Bool → Held → Type 0) (h : Held) (rank : ℕ) → P true nothing
    → P false (record { elements = h.elements + 1; repeats = 0; components = 0 })
    → P false (record { elements = h.elements; repeats = h.repeats + 1; components = 0 })
    → P false (record { elements = h.elements; repeats = h.repeats; components = h.components + 1 })
    → P (leb rank 0) (separated h rank)
unfolding separated
by_rank P h rank p q r s = step (leb rank 0) (leb rank 1) (leb rank 2)
  where
    step : (t u v : Bool)
        → P t
        (if t then nothing else (if u then record { elements = h.elements + 1; repeats = 0; components = 0 }
        else (if v then record { elements = h.elements; repeats = h.repeats + 1; components = 0 }
        else record { elements = h.elements; repeats = h.repeats; components = h.components + 1 })))
    step true u v = p
    step false true v = q
    step false false true = r
    step false false false = s

held_append : (h : Held) (us ts : List Token) → held_after h (us ++ ts) ≡ held_after (held_after h us) ts
unfolding held_after
held_append h [] ts = refl
held_append h (u ∷ us) ts = held_append (held_next h u) us ts

module _ (c : Characters) where
  -- ---- tokens one after the other

  pub emitted_append : (h : Held) (us ts : List Token) → emitted c h (us ++ ts) ≡ emitted c h us ++ emitted c (held_after h us) ts
  unfolding emitted held_after
  emitted_append h [] ts = refl
  emitted_append h (u ∷ us) ts =
      ap (λ (l : List ℕ). spelled_next c h u ++ l) (emitted_append (held_next h u) us ts)
      ∙ sym (append_assoc (spelled_next c h u) (emitted c (held_next h u) us) (emitted c (held_after (held_next h u) us) ts))

  pub after_append : (m : Measure) (us ts : List Token) → after c m (us ++ ts) ≡ after c (after c m us) ts
  unfolding after
  after_append m us ts =
      ap₂ (λ (n : ℕ) (h : Held). record { total = n; held = h })
      (omega (arith, ap length (emitted_append m.held us ts), length-append (emitted c m.held us) (emitted c (held_after m.held us) ts)))
      (held_append m.held us ts)

  -- Where the measure `m` is reached and `ts` are left, the measure at the end is this; and so where the first of them are passed.
  module _ (m : Measure) {end : Measure} {ts : List Token} (g : end ≡ after c m ts) where
    pub goes_on : (us rest : List Token) {n : Measure} → ts ≡ us ++ rest → n ≡ after c m us → end ≡ after c n rest
    goes_on us rest e d = g ∙ ap (after c m) e ∙ after_append m us rest ∙ ap (λ (n : Measure). after c n rest) (sym d)

    -- what a token is does not depend on where it stands
    pub goes_byte : {b from place : ℕ} {rest : List Token} {n : Measure} → ts ≡ byte b from place ∷ rest → n ≡ after c m (byte b 0 0 ∷ [])
        → end ≡ after c n rest
    unfolding after emitted spelled_next held_after held_next
    goes_byte {b} {from} {place} {rest} e d = goes_on (byte b from place ∷ []) rest e d

    pub goes_separator : {rank place : ℕ} {rest : List Token} {n : Measure} → ts ≡ separator rank place ∷ rest → n ≡ after c m (separator rank 0 ∷ [])
        → end ≡ after c n rest
    unfolding after emitted spelled_next held_after held_next
    goes_separator {rank} {place} {rest} e d = goes_on (separator rank place ∷ []) rest e d

    pub goes_fault : {place : ℕ} {rest : List Token} → ts ≡ fault place ∷ rest → end ≡ after c m rest
    unfolding after emitted spelled_next held_after held_next
    goes_fault e = g ∙ ap (after c m) e

    pub goes_end : ts ≡ [] → m ≡ end
    unfolding after emitted held_after
    goes_end e = sym (g ∙ ap (after c m) e ∙ ap (λ (n : ℕ). record { total = n; held = m.held }) (add-zero m.total))

  -- ---- how long

  pub let_out_length : (h : Held) → length (let_out c h) ≡ waiting h
  unfolding let_out
  let_out_length h = simp (length-append, length-replicate) (omega arith)

  -- three runs, in front of a text
  pub let_out_runs : (h : Held) (text : List ℕ)
      → let_out c h ++ text
      ≡ replicate h.elements c.element ++ (replicate h.repeats c.repetition ++ (replicate h.components c.component ++ text))
  unfolding let_out
  let_out_runs h text =
      append_assoc (replicate h.elements c.element) (replicate h.repeats c.repetition ++ replicate h.components c.component) text
      ∙ ap (λ (l : List ℕ). replicate h.elements c.element ++ l)
      (append_assoc (replicate h.repeats c.repetition) (replicate h.components c.component) text)

  pub byte_first : (h : Held) (b from place : ℕ) (ts : List Token) → emitted c h (byte b from place ∷ ts) ≡ let_out c h ++ (spell_byte c b ++ emitted c nothing ts)
  unfolding emitted spelled_next held_next
  byte_first h b from place ts = append_assoc (let_out c h) (spell_byte c b) (emitted c nothing ts)

  -- ---- one token, wherever it stands

  -- a byte of a value lets out what is held back
  pub byte_text_lem : (h : Held) (b : ℕ) → emitted c h (byte b 0 0 ∷ []) ≡ let_out c h ++ spell_byte c b
  unfolding emitted spelled_next
  byte_text_lem h b = append-nil (let_out c h ++ spell_byte c b)

  pub byte_length : (h : Held) (b : ℕ) → length (emitted c h (byte b 0 0 ∷ [])) ≡ waiting h + length (spell_byte c b)
  byte_length h b = omega (arith, ap length (byte_text_lem h b), length-append (let_out c h) (spell_byte c b), let_out_length h)

  -- a terminator ends a segment, and another separator is held back
  pub terminator_text : (h : Held) (rank : ℕ) → rank ≡ 0 → emitted c h (separator rank 0 ∷ []) ≡ c.terminator ∷ []
  unfolding emitted spelled_next
  terminator_text h rank z = ap (λ (t : Bool). (if t then c.terminator ∷ [] else []) ++ []) (le-leb rank 0 (omega arith))

  pub no_text : (h : Held) (rank : ℕ) → (rank ≡ 0 → ⊥) → emitted c h (separator rank 0 ∷ []) ≡ []
  unfolding emitted spelled_next
  no_text h rank z = ap (λ (t : Bool). (if t then c.terminator ∷ [] else []) ++ []) (lt-leb rank 0 (omega arith))

  -- the measure after tokens, from the length of what they spell and what they leave held back
  pub moved : (m : Measure) (ts : List Token) {n : ℕ} {h : Held} → n ≡ m.total + length (emitted c m.held ts) → h ≡ held_after m.held ts
      → record { total = n; held = h } ≡ after c m ts
  unfolding after
  moved m ts t d = ap₂ (λ (n : ℕ) (h : Held). record { total = n; held = h }) t d

  -- ---- at most two bytes a token

  -- a token adds at most two bytes to what is spelled or held back
  token_most : (h : Held) (t : Token) → length (spelled_next c h t) + waiting (held_next h t) ≤ waiting h + 2
  unfolding spelled_next held_next
  token_most h (byte b from place) =
      omega (arith, length-append (let_out c h) (spell_byte c b), let_out_length h, by_spelling (λ s. length s ≤ 2) c b (omega arith) (omega arith))
  token_most h (separator rank place) =
      by_rank (λ t k. length {A = ℕ} (if t then c.terminator ∷ [] else []) + waiting k ≤ waiting h + 2) h rank (omega arith) (omega arith) (omega arith) (omega arith)
  token_most h (fault place) = omega arith

  -- the tokens add at most n bytes
  abbrev Adds : ℕ → List Token → Type 0
  Adds n ts = (h : Held) → length (emitted c h ts) + waiting (held_after h ts) ≤ waiting h + n

  token_adds : (n : ℕ) (t : Token) (ts : List Token) → Adds n ts → Adds (2 + n) (t ∷ ts)
  unfolding emitted held_after
  token_adds n t ts p h =
      omega (arith, length-append (spelled_next c h t) (emitted c (held_next h t) ts), p (held_next h t), token_most h t)

  tokens_add : (ts : List Token) → Adds (2 * length ts) ts
  unfolding emitted held_after
  tokens_add [] h = omega arith
  tokens_add (t ∷ ts) h = omega (arith, token_adds (2 * length ts) t ts (tokens_add ts) h)

  pub after_most : (m : Measure) (ts : List Token) {n : Measure} → n ≡ after c m ts → n.total + waiting n.held ≤ m.total + waiting m.held + 2 * length ts
  unfolding after
  after_most m ts d = omega (arith, ap (λ (n : Measure). n.total + waiting n.held) d, tokens_add ts m.held)

  -- so what was read adds at most two for each of its bytes
  reading_adds : (d : Characters) (r : Reading) (place : ℕ) (bs : List ℕ) → Adds (2 * length bs) (tokens_from d r place bs)
  unfolding emitted spelled_next held_after held_next
  reading_adds =
      of_reading
      (λ n ts. Adds (2 * n) ts)
      (λ h. omega arith)
      (λ from h. omega arith)
      (λ n t ts k p h. omega (arith, token_adds (2 * n) t ts p h))
      (λ n ts p h. omega (arith, p h))

  pub at_most_twice : (d : Characters) (place : ℕ) (body : List ℕ) → length (emitted c nothing (tokens d place body)) ≤ 2 * length body
  unfolding tokens
  at_most_twice d place body = omega (arith, reading_adds d inside place body nothing)
