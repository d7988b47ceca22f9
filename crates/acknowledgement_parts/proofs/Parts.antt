-- Each part moves the text's end as its records do. Assumes nothing.
use Rattle.std.specs.Prelude.{if◌then◌else◌}
use Prim.Native.Nat.{ℕ, ◌+◌, ◌*◌, ◌≤◌}
use mathlib.Core.Path.{◌≡◌, refl, sym, ap, subst, ◌∙◌}
use mathlib.Core.Bool.{Bool, true, false}
use mathlib.Core.List.{List, [], ◌∷◌, ◌++◌, append-nil}
use native.Mathlib.Omega.{arith}
use lib.Dec.{leb}
use lib.ListN.{length, drop, length-append, length-drop}
use Rattle.lists.specs.Lists.{all, gather}
use Rattle.characters.specs.declared.Characters.{Characters}
use Rattle.values.specs.Tokens.{Token, byte, separator, fault, inside, tokens, tokens_at}
use Rattle.storing.specs.Sinks.{SinkLaws}
use Rattle.storing.proofs.Putting.{Going}
use Rattle.emission_laws.specs.declared.Held.{Held}
use Rattle.emission_laws.specs.declared.Measure.{Measure}
use Rattle.emission_laws.specs.Emission.{nothing, waiting, emitted, after}
use Rattle.emission_laws.proofs.Cases.{known, reading_known, of_reading}
use Rattle.emission_laws.proofs.Steps.{after_append, after_most}
use Rattle.elements.specs.Values.{value_in}
use Rattle.held_separators.specs.Putting.{Fits, Puts}
use Rattle.held_separators.proofs.Steps.{tokens_fit, tokens_put, all_put_lem}
use Rattle.operations.specs.ValueList.{Item, rank_of, list_element}
use Rattle.value_list_text.specs.Composing.{record_tokens}
use Rattle.value_list_text.specs.Advancing.{records_tokens, Alike, Appended}
use Rattle.value_list_text.proofs.Composed.{record_passed, separator_fits, value_fits, record_put}
use Rattle.value_list_text.proofs.Advancing.{alike_same, records_few}
use Rattle.received_pieces.specs.Pieces.{piece_of, element_in, Spelt}
use Rattle.received_pieces.proofs.Trimmed.{element_same, element_left, value_piece}
use Rattle.lent_elements.specs.Leading.{Reaches, Advances}
use Rattle.acknowledgement_parts.specs.Parts.{syntax_items}

-- every separator that is read has one of the four ranks
pub ranked : (d : Characters) (s : List ℕ) (at : ℕ) → all known (tokens_at d s at) ≡ true
unfolding tokens_at
ranked d s at = reading_known d at (drop at s)

-- ---- records that are put as a whole

module _ {holds : List ℕ → ℕ → List ℕ → List ℕ} (c : Characters) (m : Measure) (items : List Item) {buffer put : List ℕ} {r : Measure} where
  appended_by : r ≡ after c m (records_tokens items) → put ≡ holds buffer m.total (emitted c m.held (records_tokens items))
      → Appended holds c buffer m items put r
  appended_by e q =
      record { stored = q; known = alike_same e; few = omega (arith, ap (λ (k : Measure). waiting k.held) e, records_few c m items) }

  -- they are put as far as the text is not over 32,000 bytes
  pub advances_by : Appended holds c buffer m items put r → Advances holds c buffer m items put r
  advances_by a = record { all = λ h. a; over = λ h. omega (arith, h, a.known.total) }

-- there is room for what is known to fit 64 bits
pub room_for : (room : List ℕ → ℕ) (c : Characters) (m : Measure) (ts : List Token) (buffer : List ℕ) → Reaches room c buffer m ts
    → (after c m ts).total ≤ 18446744073709551615 → Fits room c buffer m ts
unfolding after
room_for room c m ts buffer f h = omega (arith, f, h)

-- one record alone
one_record : (l : Item) → record_tokens l ≡ records_tokens (l ∷ [])
unfolding gather
one_record l = sym (append-nil (record_tokens l))

pub one_reaches : (room : List ℕ → ℕ) (c : Characters) (m : Measure) (l : Item) (buffer : List ℕ) → Reaches room c buffer m (records_tokens (l ∷ []))
    → Reaches room c buffer m (record_tokens l)
one_reaches room c m l buffer f = subst (λ (ts : List Token). Reaches room c buffer m ts) (sym (one_record l)) f

pub one_appended : {holds : List ℕ → ℕ → List ℕ → List ℕ} (c : Characters) (m : Measure) (l : Item) {buffer put : List ℕ} {r : Measure}
    → Puts holds c buffer m (record_tokens l) put r → Appended holds c buffer m (l ∷ []) put r
one_appended {holds} c m l {buffer} p =
    appended_by c m (l ∷ []) (p.1 ∙ ap (after c m) (one_record l)) (p.0 ∙ ap (λ (ts : List Token). holds buffer m.total (emitted c m.held ts)) (one_record l))

-- ---- how much the steps may add

pub past_separator : (c : Characters) (m : Measure) (rank : ℕ) {n : Measure} → n ≡ after c m (separator rank 0 ∷ [])
    → n.total + waiting n.held ≤ m.total + waiting m.held + 2
past_separator c m rank e = omega (arith, after_most c m (separator rank 0 ∷ []) e)

-- no more tokens than bytes, and a stray release character at the end
tokens_few : (d : Characters) (s : List ℕ) (at : ℕ) → length (tokens_at d s at) ≤ length (drop at s) + 1
unfolding tokens_at tokens
tokens_few d s at =
    of_reading (λ n ts. length ts ≤ n + 1) (omega arith) (λ from. omega arith) (λ n t ts h p. omega (arith, p)) (λ n ts p. omega (arith, p)) d inside at (drop at s)

piece_few : (rank : ℕ) (ts : List Token) → length (piece_of rank ts) ≤ length ts
unfolding piece_of
piece_few rank [] = omega arith
piece_few rank (byte b from place ∷ ts) = omega (arith, piece_few rank ts)
piece_few rank (separator r place ∷ ts) = step (leb r rank) (piece_few rank ts)
  where
    step : (b : Bool) → length (piece_of rank ts) ≤ length ts → length (if b then [] else separator r 0 ∷ piece_of rank ts) ≤ length (separator r place ∷ ts)
    step true h = omega arith
    step false h = omega (arith, h)
piece_few rank (fault place ∷ ts) = omega (arith, piece_few rank ts)

pub past_piece : (c : Characters) (m : Measure) (d : Characters) (s : List ℕ) (rank at : ℕ) {n : Measure} → n ≡ after c m (piece_of rank (tokens_at d s at))
    → n.total + waiting n.held ≤ m.total + waiting m.held + 2 * length s + 2
past_piece c m d s rank at e =
    omega (
      arith,
      after_most c m (piece_of rank (tokens_at d s at)) e,
      piece_few rank (tokens_at d s at),
      tokens_few d s at,
      length-drop at s,
    )

-- ---- level and version

module _ (c : Characters) (s : List ℕ) (d : Characters) (level version : ℕ) (m : Measure) where
  abbrev first : Item
  first = record { kind = 1; value = value_in (tokens_at d s level) }

  abbrev second : Item
  second = record { kind = 2; value = value_in (tokens_at d s version) }

  first_rank : 1 ≡ rank_of 1
  unfolding rank_of
  first_rank = refl

  second_rank : 3 ≡ rank_of 2
  unfolding rank_of
  second_rank = refl

  -- the tokens of the two, one after the other
  two_records : records_tokens (syntax_items s d level version) ≡ record_tokens first ++ record_tokens second
  unfolding gather
  two_records = ap (λ (ts : List Token). record_tokens first ++ ts) (append-nil (record_tokens second))

  module _ {n₁ n₂ n₃ n₄ : Measure} (e₁ : n₁ ≡ after c m (separator 1 0 ∷ [])) (e₂ : n₂ ≡ after c n₁ (piece_of 3 (tokens_at d s level)))
      (e₃ : n₃ ≡ after c n₂ (separator 3 0 ∷ [])) (e₄ : n₄ ≡ after c n₃ (piece_of 3 (tokens_at d s version))) where
    level_passed : n₂ ≡ after c m (record_tokens first)
    level_passed = record_passed c m first first_rank refl e₁ (e₂ ∙ ap (after c n₁) (value_piece (tokens_at d s level) (ranked d s level)))

    pub syntax_passed : n₄ ≡ after c m (records_tokens (syntax_items s d level version))
    syntax_passed =
        record_passed c n₂ second second_rank refl e₃ (e₄ ∙ ap (after c n₃) (value_piece (tokens_at d s version) (ranked d s version)))
        ∙ ap (λ (n : Measure). after c n (record_tokens second)) level_passed
        ∙ sym (after_append c m (record_tokens first) (record_tokens second))
        ∙ ap (after c m) (sym two_records)

  -- they end where a place still fits 64 bits
  pub syntax_most : (after c m (records_tokens (syntax_items s d level version))).total ≤ m.total + waiting m.held + 4 * length s + 8
  syntax_most =
      omega (
        arith,
        after_most c m (records_tokens (syntax_items s d level version)) refl,
        ap length two_records,
        length-append (record_tokens first) (record_tokens second),
        ap length (value_piece (tokens_at d s level) (ranked d s level)),
        ap length (value_piece (tokens_at d s version) (ranked d s version)),
        piece_few 3 (tokens_at d s level),
        piece_few 3 (tokens_at d s version),
        tokens_few d s level,
        tokens_few d s version,
        length-drop level s,
        length-drop version s,
      )

  -- put one after the other
  module _ {holds : List ℕ → ℕ → List ℕ → List ℕ} {room : List ℕ → ℕ} (laws : SinkLaws holds room) (l₀ : List ℕ)
      (f : Fits room c l₀ m (records_tokens (syntax_items s d level version))) where
    start : Going holds room l₀ l₀ m.total m.total (emitted c m.held (records_tokens (syntax_items s d level version))) (emitted c m.held (records_tokens (syntax_items s d level version)))
    start = record { put = refl; fits = f; same_room = refl }

    first_fits : Fits room c l₀ m (record_tokens first)
    first_fits = tokens_fit laws c m (records_tokens (syntax_items s d level version)) start (record_tokens first) (record_tokens second) two_records

    pub level_lead : Fits room c l₀ m (separator 1 0 ∷ [])
    level_lead = separator_fits c laws m first first_rank refl l₀ first_fits

    module _ {l₁ : List ℕ} {n₁ : Measure} (p₁ : Puts holds c l₀ m (separator 1 0 ∷ []) l₁ n₁) where
      pub level_fits : Fits room c l₁ n₁ (piece_of 3 (tokens_at d s level))
      level_fits =
          subst (λ (ts : List Token). Fits room c l₁ n₁ ts) (sym (value_piece (tokens_at d s level) (ranked d s level)))
          (value_fits c laws m first first_rank refl l₀ first_fits p₁)

      module _ {l₂ : List ℕ} {n₂ : Measure} (p₂ : Puts holds c l₁ n₁ (piece_of 3 (tokens_at d s level)) l₂ n₂) where
        level_put : Puts holds c l₀ m (record_tokens first) l₂ n₂
        level_put =
            record_put c laws m first first_rank refl l₀ first_fits p₁
            (subst (λ (ts : List Token). Puts holds c l₁ n₁ ts l₂ n₂) (value_piece (tokens_at d s level) (ranked d s level)) p₂)

        left : Going holds room l₀ l₂ m.total n₂.total (emitted c m.held (records_tokens (syntax_items s d level version))) (emitted c n₂.held (record_tokens second))
        left = tokens_put laws c m (records_tokens (syntax_items s d level version)) start (record_tokens first) (record_tokens second) two_records level_put

        pub version_lead : Fits room c l₂ n₂ (separator 3 0 ∷ [])
        version_lead = separator_fits c laws n₂ second second_rank refl l₂ left.fits

        module _ {l₃ : List ℕ} {n₃ : Measure} (p₃ : Puts holds c l₂ n₂ (separator 3 0 ∷ []) l₃ n₃) where
          pub version_fits : Fits room c l₃ n₃ (piece_of 3 (tokens_at d s version))
          version_fits =
              subst (λ (ts : List Token). Fits room c l₃ n₃ ts) (sym (value_piece (tokens_at d s version) (ranked d s version)))
              (value_fits c laws n₂ second second_rank refl l₂ left.fits p₃)

          pub syntax_put : {l₄ : List ℕ} {n₄ : Measure} → Puts holds c l₃ n₃ (piece_of 3 (tokens_at d s version)) l₄ n₄
              → Appended holds c l₀ m (syntax_items s d level version) l₄ n₄
          syntax_put {l₄} {n₄} p₄ =
              let second-put = record_put c laws n₂ second second_rank refl l₂ left.fits p₃
              (subst (λ (ts : List Token). Puts holds c l₃ n₃ ts l₄ n₄) (value_piece (tokens_at d s version) (ranked d s version)) p₄) in
              appended_by c m (syntax_items s d level version) (syntax_passed p₁.1 p₂.1 p₃.1 p₄.1)
              (all_put_lem laws c n₄ [] (tokens_put laws c n₂ (record_tokens second) left (record_tokens second) [] (sym (append-nil (record_tokens second))) second-put) refl)

-- ---- an element

module _ (c : Characters) (s : List ℕ) (d : Characters) (from : ℕ) (h : Spelt (tokens_at d s from)) (m : Measure) where
  abbrev ts : List Token
  ts = tokens_at d s from

  abbrev items : List Item
  items = list_element 1 (element_in ts)

  same : emitted c m.held (separator 1 0 ∷ piece_of 1 ts) ≡ emitted c m.held (records_tokens items)
  same = element_same ts h (ranked d s from) c m.held m.held refl

  -- the measure past it, with nothing held back
  module _ {n past : Measure} {held : Held} (e₁ : n ≡ after c m (separator 1 0 ∷ [])) (e₂ : past ≡ after c n (piece_of 1 ts))
      (e₃ : held ≡ nothing) where
    total : past.total ≡ (after c m (records_tokens items)).total
    unfolding after
    total =
        ap (λ (k : Measure). k.total) (e₂ ∙ ap (λ (k : Measure). after c k (piece_of 1 ts)) e₁ ∙ sym (after_append c m (separator 1 0 ∷ []) (piece_of 1 ts)))
        ∙ ap (λ (l : List ℕ). m.total + length l) same

    alike : Alike (record { total = past.total; held = held }) (after c m (records_tokens items))
    unfolding after
    alike =
        record { total = total; elements = ap (λ (k : Held). k.elements) e₃ ∙ sym (element_left ts h (ranked d s from) c m.held) }

    element_appended : {holds : List ℕ → ℕ → List ℕ → List ℕ} {buffer put : List ℕ}
        → put ≡ holds buffer m.total (emitted c m.held (separator 1 0 ∷ piece_of 1 ts))
        → Appended holds c buffer m items put (record { total = past.total; held = held })
    element_appended {holds} {buffer} q =
        record { stored = q ∙ ap (holds buffer m.total) same; known = alike; few = omega (arith, ap (λ (k : Held). waiting k) e₃) }

  -- it ends where a place still fits 64 bits
  pub element_most : (after c m (records_tokens items)).total ≤ m.total + waiting m.held + 2 * length s + 4
  unfolding after
  element_most =
      omega (
        arith,
        ap length same,
        after_most c m (separator 1 0 ∷ piece_of 1 ts) refl,
        piece_few 1 ts,
        tokens_few d s from,
        length-drop from s,
      )

  -- there is room for it
  module _ {holds : List ℕ → ℕ → List ℕ → List ℕ} {room : List ℕ → ℕ} (laws : SinkLaws holds room) (l₀ : List ℕ) (f : Fits room c l₀ m (records_tokens items)) where
    fits : Fits room c l₀ m (separator 1 0 ∷ piece_of 1 ts)
    fits = omega (arith, f, ap length same)

    begins : Going holds room l₀ l₀ m.total m.total (emitted c m.held (separator 1 0 ∷ piece_of 1 ts)) (emitted c m.held (separator 1 0 ∷ piece_of 1 ts))
    begins = record { put = refl; fits = fits; same_room = refl }

    pub element_lead : Fits room c l₀ m (separator 1 0 ∷ [])
    element_lead = tokens_fit laws c m (separator 1 0 ∷ piece_of 1 ts) begins (separator 1 0 ∷ []) (piece_of 1 ts) refl

    module _ {l₁ : List ℕ} {n : Measure} (p₁ : Puts holds c l₀ m (separator 1 0 ∷ []) l₁ n) where
      rest : Going holds room l₀ l₁ m.total n.total (emitted c m.held (separator 1 0 ∷ piece_of 1 ts)) (emitted c n.held (piece_of 1 ts))
      rest = tokens_put laws c m (separator 1 0 ∷ piece_of 1 ts) begins (separator 1 0 ∷ []) (piece_of 1 ts) refl p₁

      pub element_fits : Fits room c l₁ n (piece_of 1 ts)
      element_fits = rest.fits

      pub element_put : {l₂ : List ℕ} {past : Measure} {held : Held} → Puts holds c l₁ n (piece_of 1 ts) l₂ past → held ≡ nothing
          → Appended holds c l₀ m items l₂ (record { total = past.total; held = held })
      element_put {past = past} p₂ e =
          element_appended p₁.1 p₂.1 e
          (all_put_lem laws c past [] (tokens_put laws c n (piece_of 1 ts) rest (piece_of 1 ts) [] (sym (append-nil (piece_of 1 ts))) p₂) refl)
