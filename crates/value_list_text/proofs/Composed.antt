-- The text of a value list is the trimmed list, spelled after its advice; how it is stored and measured. Assumes nothing.
use Prim.Native.Nat.{ℕ, ◌+◌, ◌≤◌, ◌<◌}
use mathlib.Core.Path.{◌≡◌, refl, sym, ap, ap₂, ◌∙◌}
use mathlib.Core.List.{List, [], ◌∷◌, ◌++◌, append-nil}
use native.Mathlib.Omega.{arith}
use lib.ListN.{length, set, drop, length-take, length-append}
use lib.Seq.{sets, set-set}
use Rattle.characters.specs.declared.Characters.{Characters}
use Rattle.characters.specs.Characters.{advice_of, spelled_out}
use Rattle.values.specs.Tokens.{separator}
use Rattle.values.specs.Spelling.{Bytes, spell}
use Rattle.stages.specs.Contents.{interchange}
use Rattle.emission_laws.specs.declared.Held.{Held}
use Rattle.emission_laws.specs.declared.Measure.{Measure}
use Rattle.emission_laws.specs.Emission.{nothing, waiting, separated, held_next, held_after, spelled_next, emitted, after}
use Rattle.emission_laws.proofs.Spelled.{spelled_emitted}
use Rattle.emission_laws.proofs.Steps.{by_rank, emitted_append, after_append}
use Rattle.storing.specs.Sinks.{SinkLaws}
use Rattle.storing.proofs.Putting.{Going}
use Rattle.held_separators.specs.Putting.{value_tokens, Fits, Puts}
use Rattle.held_separators.proofs.Steps.{tokens_fit, tokens_put, all_put_lem}
use Rattle.operations.specs.ValueList.{Item, Entry, rank_of, value_in, segments_listed, trim_list}
use Rattle.trimming_laws.specs.Kinds.{first_kind}
use Rattle.value_list_text.specs.Composing.{record_tokens, list_tokens, first_measure, advice_front, composed_text}
use Rattle.value_list_text.proofs.Tokens.{item_tokens, list_tokens_lem, contents_listed, tokens_whole, tokens_known}

-- a value is at most as long as its record says
pub value_size : (bytes : List ℕ) (e : Entry) → length (value_in bytes e) ≤ e.size
unfolding value_in
value_size bytes e = omega (arith, length-take e.size (drop e.start bytes))

module _ (c : Characters) where
  -- ---- a record

  -- first its separator, then its value
  pub record_passed : (m : Measure) (l : Item) {rank : ℕ} {value : Bytes} {kept n : Measure} → rank ≡ rank_of l.kind → value ≡ l.value
      → kept ≡ after c m (separator rank 0 ∷ []) → n ≡ after c kept (value_tokens value) → n ≡ after c m (record_tokens l)
  record_passed m l {value = value} r v k e =
      e
      ∙ ap₂ (λ (j : Measure) (b : Bytes). after c j (value_tokens b)) (k ∙ ap (λ (x : ℕ). after c m (separator x 0 ∷ [])) r) v
      ∙ sym (after_append c m (separator (rank_of l.kind) 0 ∷ []) (value_tokens l.value))

  -- there is room for both, and both are put
  module _ {holds : List ℕ → ℕ → List ℕ → List ℕ} {room : List ℕ → ℕ} (laws : SinkLaws holds room) (m : Measure) (l : Item) {rank : ℕ} {value : Bytes}
      (r : rank ≡ rank_of l.kind) (v : value ≡ l.value) (l₀ : List ℕ) (f : Fits room c l₀ m (record_tokens l)) where
    parts : record_tokens l ≡ (separator rank 0 ∷ []) ++ value_tokens value
    parts = ap₂ (λ (x : ℕ) (b : Bytes). separator x 0 ∷ value_tokens b) (sym r) (sym v)

    start : Going holds room l₀ l₀ m.total m.total (emitted c m.held (record_tokens l)) (emitted c m.held (record_tokens l))
    start = record { put = refl; fits = f; same_room = refl }

    pub separator_fits : Fits room c l₀ m (separator rank 0 ∷ [])
    separator_fits = tokens_fit laws c m (record_tokens l) start (separator rank 0 ∷ []) (value_tokens value) parts

    module _ {l₁ : List ℕ} {kept : Measure} (p : Puts holds c l₀ m (separator rank 0 ∷ []) l₁ kept) where
      left : Going holds room l₀ l₁ m.total kept.total (emitted c m.held (record_tokens l)) (emitted c kept.held (value_tokens value))
      left = tokens_put laws c m (record_tokens l) start (separator rank 0 ∷ []) (value_tokens value) parts p

      pub value_fits : Fits room c l₁ kept (value_tokens value)
      value_fits = left.fits

      pub record_put : {l₂ : List ℕ} {n : Measure} → Puts holds c l₁ kept (value_tokens value) l₂ n → Puts holds c l₀ m (record_tokens l) l₂ n
      record_put {n = n} q =
          (all_put_lem laws c n [] (tokens_put laws c kept (value_tokens value) left (value_tokens value) [] (sym (append-nil (value_tokens value))) q) refl, record_passed m l r v p.1 q.1)

  -- it leaves at most one separator more held back
  value_holds : (h : Held) (value : Bytes) → waiting (held_after h (value_tokens value)) ≤ waiting h
  unfolding held_after held_next
  value_holds h [] = omega arith
  value_holds h (b ∷ bs) = omega (arith, value_holds nothing bs)

  pub record_holds : (m : Measure) (l : Item) {n : Measure} → n ≡ after c m (record_tokens l) → waiting n.held ≤ waiting m.held + 1
  unfolding after held_after held_next
  record_holds m l d =
      let rank = rank_of l.kind in
      omega (
        arith,
        ap (λ (n : Measure). waiting n.held) d,
        value_holds (separated m.held rank) l.value,
        by_rank (λ t h. waiting h ≤ waiting m.held + 1) m.held rank (omega arith) (omega arith) (omega arith) (omega arith),
      )

  -- a terminator takes one byte
  pub ended_total : (m : Measure) {n : Measure} → n ≡ after c m (separator 0 0 ∷ []) → n.total ≡ m.total + 1
  unfolding after emitted spelled_next
  ended_total m d = ap (λ (n : Measure). n.total) d

  -- ---- the whole text

  -- the records begin at the advice's last byte
  pub text_length : (items : List Item) → length (composed_text c items) ≡ 8 + length (emitted c nothing (list_tokens items))
  unfolding composed_text advice_front
  text_length items = omega arith

  pub whole_length : (items : List Item) → length (composed_text c items) ≡ (after c first_measure (list_tokens items)).total
  unfolding after
  whole_length items = text_length items

  -- there is always something to store: the last terminator
  some_left : (h : Held) (items : List Item) → 0 < length (emitted c h (list_tokens items))
  unfolding list_tokens emitted spelled_next
  some_left h [] = omega arith
  some_left h (l ∷ ls) =
      let us = record_tokens l in
      let k = held_after h us in
      omega (arith, ap length (emitted_append c h us (list_tokens ls)), length-append (emitted c h us) (emitted c k (list_tokens ls)), some_left k ls)

  -- the advice fits
  pub advice_fits : (items : List Item) {room : ℕ} → length (composed_text c items) ≤ room → 9 ≤ room
  advice_fits items h = omega (arith, text_length items, some_left nothing items)

  -- its last byte is stored again by what follows
  pub text_stored : (items : List Item) (l₀ l₁ l₂ : List ℕ) → l₁ ≡ sets l₀ 0 (advice_of c) → l₂ ≡ sets l₁ 8 (emitted c nothing (list_tokens items))
      → l₂ ≡ sets l₀ 0 (composed_text c items)
  unfolding composed_text advice_front advice_of spelled_out
  text_stored items l₀ l₁ l₂ p q =
      q
      ∙ ap (λ (l : List ℕ). sets l 8 (emitted c nothing (list_tokens items))) p
      ∙ stored_again (sets l₀ 0 (advice_front c)) (emitted c nothing (list_tokens items)) (some_left nothing items)
    where
      stored_again : (l text : List ℕ) → 0 < length text → sets (set l 8 c.terminator) 8 text ≡ sets l 8 text
      stored_again l [] h = absurd (omega arith)
      stored_again l (y ∷ ys) h = ap (λ (k : List ℕ). sets k 9 ys) (set-set l 8 c.terminator y)

  -- a value list whose first record begins a segment: its text is the interchange that the paper says
  pub composed_written : (items : List Item) → first_kind items ≡ 0
      → composed_text c items ≡ interchange c (trim_list (segments_listed items))
  unfolding composed_text advice_front interchange advice_of spelled_out emitted spelled_next held_next separated rank_of
  composed_written items h =
      ap (λ (l : List ℕ). advice_front c ++ l)
      (ap (emitted c nothing) (list_tokens_lem items ∙ ap (λ (kind : ℕ). separator (rank_of kind) 0 ∷ item_tokens items) h)
      ∙ ap (λ (l : List ℕ). c.terminator ∷ l)
      (sym (spelled_emitted c (item_tokens items) (tokens_whole items) (tokens_known items)) ∙ ap (spell c) (contents_listed items)))
