-- The bytes of a stretch are emitted byte for byte, respelled. Assumes nothing.
use Prim.Native.Nat.{ℕ, zero, suc, ◌+◌, ◌-◌, ◌≤◌, ◌<◌}
use mathlib.Core.Path.{◌≡◌, refl, sym, ap, ap₂, subst, ◌∙◌}
use mathlib.Core.Bool.{Bool, true, false, not, ◌&&◌, ◌||◌, false≢true}
use mathlib.Core.List.{List, [], ◌∷◌, ◌++◌}
use native.Mathlib.Omega.{arith}
use native.Mathlib.Decide.{dec_le}
use native.Mathlib.Nat.{lt_of_not-le}
use lib.Dec.{eqb}
use lib.ListN.{length, get_or}
use borrow.Author.Tests.{eq-eqb}
use Rattle.lists.proofs.Texts.{and_both, or_none_left, or_none_right, if_false}
use Rattle.characters.specs.declared.Characters.{Characters}
use Rattle.characters.specs.declared.Role.{Role}
use Rattle.characters.specs.declared.Role.TheVariants.{Separator, Release, Plain}
use Rattle.characters.specs.Characters.{role, is_service, has_release, is_break}
use Rattle.values.specs.Tokens.{byte, separator, tokens_at}
use Rattle.values.specs.Spelling.{spell_byte, separator_of}
use Rattle.values.proofs.Steps.{at_end, at_plain, at_terminator, at_separator, at_released_release, at_released_separator}
use Rattle.spelling_laws.proofs.Service.{serves, separable, separable_low, Part, separates, releases, plain, part, service_serves}
use Rattle.line_breaks.proofs.Passing.{after_none}
use Rattle.emission_laws.specs.declared.Held.{Held}
use Rattle.emission_laws.specs.Emission.{nothing, separated, let_out, emitted}
use Rattle.emission_laws.proofs.Steps.{byte_first}
use Rattle.verbatim.specs.Verbatim.{idle, Sound}
use Rattle.verbatim.proofs.Held.{Kept, nothing_kept, Follows, none_held, follows_separator, kept, separator_stands}
use Rattle.verbatim.proofs.Sound.{sound_next}
use Rattle.stretches.specs.Stretches.{stand_in, respelled, halts, Goes, respelling, emitted_at, Stretch, EndsInValue}
use Rattle.stretches.specs.Releases.{alike, Passes, stays, alone, together}
use Rattle.stretches.proofs.Alike.{alike_spelled, alike_respelled}

-- a byte that is no service character is plain
plain_role : (c : Characters) (b : ℕ) → is_service c b ≡ false → role c b ≡ Plain
plain_role c b v = step (role c b) (sym (service_serves c b) ∙ v)
  where
    step : (o : Role) → serves o ≡ false → o ≡ Plain
    step (Separator rank) e = absurd (false≢true (sym e))
    step Release e = absurd (false≢true (sym e))
    step Plain e = refl

-- ---- a byte at which no stretch halts

module _ (c n : Characters) (a b : ℕ) (f : halts c n a b ≡ false) where
  abbrev release : Bool
  release = has_release c && eqb a c.release

  abbrev respelt : Bool
  respelt = is_service n a && not (is_service c a)

  abbrev line : Bool
  line = eqb a c.terminator && is_break b

  none : (release || (respelt || (line || idle c a b))) ≡ false
  unfolding halts
  none = f

  -- it is no release character,
  no_release : a ≡ c.release → has_release c ≡ true → ⊥
  no_release e q =
      false≢true
      (sym (or_none_left release (respelt || (line || idle c a b)) none) ∙ and_both (has_release c) (eqb a c.release) q (eq-eqb a c.release e))

  -- it is not to be released,
  unserved : is_service c a ≡ false → is_service n a ≡ false
  unserved v = step (is_service n a) (is_service c a) (or_none_left respelt (line || idle c a b) (or_none_right release (respelt || (line || idle c a b)) none)) v
    where
      step : (t u : Bool) → (t && not u) ≡ false → u ≡ false → t ≡ false
      step true true h e = e
      step true false h e = h
      step false u h e = refl

  rest : (line || idle c a b) ≡ false
  rest = or_none_right respelt (line || idle c a b) (or_none_right release (respelt || (line || idle c a b)) none)

  -- no line break follows it where it is a terminator,
  no_line : a ≡ c.terminator → is_break b ≡ false
  no_line e = sym (ap (λ (t : Bool). t && is_break b) (eq-eqb a c.terminator e)) ∙ or_none_left line (idle c a b) rest

  -- and nothing is idle
  not_idle : not (idle c a b) ≡ true
  not_idle = ap not (or_none_right line (idle c a b) rest)

-- ---- the tokens that are passed

module _ (c n : Characters) (s : List ℕ) (at : ℕ) (i : at + 1 < length s) where
  -- a terminator, after which no line break stands
  terminator_next : halts c n (get_or s at 0) (get_or s (at + 1) 0) ≡ false → role c (get_or s at 0) ≡ Separator 0 → get_or s at 0 ≡ c.terminator
      → tokens_at c s at ≡ separator 0 at ∷ tokens_at c s (at + 1)
  terminator_next f p e =
      at_terminator c s at (omega arith) p
      ∙ ap (λ (j : ℕ). separator 0 at ∷ tokens_at c s j) (sym (after_none s (at + 1) i (no_line c n (get_or s at 0) (get_or s (at + 1) 0) f e)))

  -- a release character and the service character that it takes
  taken_next : role c (get_or s at 0) ≡ Release → is_service c (get_or s (at + 1) 0) ≡ true
      → tokens_at c s at ≡ byte (get_or s (at + 1) 0) at (at + 1) ∷ tokens_at c s (at + 1 + 1)
  taken_next p q = step (role c (get_or s (at + 1) 0)) refl (sym (service_serves c (get_or s (at + 1) 0)) ∙ q)
    where
      step : (o : Role) → role c (get_or s (at + 1) 0) ≡ o → serves o ≡ true → tokens_at c s at ≡ byte (get_or s (at + 1) 0) at (at + 1) ∷ tokens_at c s (at + 1 + 1)
      step (Separator rank) e u = at_released_separator c s at rank i p e
      step Release e u = at_released_release c s at i p e
      step Plain e u = absurd (false≢true u)

  -- no fault lies after a byte at which no stretch halts that does not lie in the whole
  alone_sound : halts c n (get_or s at 0) (get_or s (at + 1) 0) ≡ false → {o : Role} → role c (get_or s at 0) ≡ o → Part c (get_or s at 0) o
      → Sound c s at → Sound c s (at + 1)
  alone_sound f p (separates zero q e) = sound_next c s at (at + 1) (terminator_next f p e)
  alone_sound f p (separates (suc rank) q e) = sound_next c s at (at + 1) (at_separator c s at rank (omega arith) p)
  alone_sound f p (releases e q) = absurd (no_release c n (get_or s at 0) (get_or s (at + 1) 0) f e q)
  alone_sound f p plain = sound_next c s at (at + 1) (at_plain c s at (omega arith) p)

-- ---- what is passed stands

module _ (c n : Characters) (s : List ℕ) where
  -- What is emitted from a place on: what is held back, where a separator there drops nothing of it, and a text.
  abbrev Stands : ℕ → List ℕ → Type 0
  Stands at text =
      (h : Held) → ((rank : ℕ) → separable c rank ≡ true → get_or s at 0 ≡ separator_of c (3 - rank) → Kept h rank)
      → emitted n h (tokens_at c s at) ≡ let_out n h ++ text

  -- a byte stands respelled as one that plays its part
  as_played : (at : ℕ) (text : List ℕ) (h : Held) {o : Role} → role c (get_or s at 0) ≡ o
      → let_out n h ++ (stand_in n o (get_or s at 0) ∷ text) ≡ let_out n h ++ (respelled c n (get_or s at 0) ∷ text)
  unfolding respelled
  as_played at text h p = ap (λ (o : Role). let_out n h ++ (stand_in n o (get_or s at 0) ∷ text)) (sym p)

  -- a byte of a value lets out what is held back
  value_stands : (at : ℕ) (text : List ℕ) → at < length s → role c (get_or s at 0) ≡ Plain → is_service n (get_or s at 0) ≡ false
      → emitted_at c n s (at + 1) ≡ text → (h : Held) → emitted n h (tokens_at c s at) ≡ let_out n h ++ (respelled c n (get_or s at 0) ∷ text)
  unfolding spell_byte
  value_stands at text i p v r h =
      let b = get_or s at 0 in
      ap (emitted n h) (at_plain c s at i p)
      ∙ byte_first n h b at at (tokens_at c s (at + 1))
      ∙ ap₂ (λ (l m : List ℕ). let_out n h ++ (l ++ m)) (if_false (is_service n b) (n.release ∷ b ∷ []) (b ∷ []) v) r
      ∙ as_played at text h p

  module _ (at : ℕ) (text : List ℕ) (i : at + 1 < length s) (f : halts c n (get_or s at 0) (get_or s (at + 1) 0) ≡ false) (go : Stands (at + 1) text) where
    -- what follows a byte after which so much is held back
    onward : (h : Held) → Follows c (get_or s at 0) h → emitted n h (tokens_at c s (at + 1)) ≡ let_out n h ++ text
    onward h w = go h (kept c (get_or s at 0) (get_or s (at + 1) 0) w (not_idle c n (get_or s at 0) (get_or s (at + 1) 0) f))

    separator_next : (rank : ℕ) → role c (get_or s at 0) ≡ Separator rank → separable c rank ≡ true → get_or s at 0 ≡ separator_of c (3 - rank)
        → tokens_at c s at ≡ separator rank at ∷ tokens_at c s (at + 1) → (h : Held) → Kept h rank
        → emitted n h (tokens_at c s at) ≡ let_out n h ++ (respelled c n (get_or s at 0) ∷ text)
    separator_next rank p q e t h k =
        ap (emitted n h) t
        ∙ separator_stands n h rank (separable_low c rank q) k at (tokens_at c s (at + 1)) text
        (onward (separated h rank) (follows_separator c (get_or s at 0) h rank q e))
        ∙ as_played at text h p

    -- a byte at which no stretch halts
    by_part : {o : Role} → role c (get_or s at 0) ≡ o → Part c (get_or s at 0) o → Stands at (respelled c n (get_or s at 0) ∷ text)
    unfolding let_out
    by_part p (separates zero q e) h k =
        separator_next zero p q e
        (terminator_next c n s at i f p e) h (k zero q e)
    by_part p (separates (suc rank) q e) h k = separator_next (suc rank) p q e (at_separator c s at rank (omega arith) p) h (k (suc rank) q e)
    by_part p (releases e q) h k = absurd (no_release c n (get_or s at 0) (get_or s (at + 1) 0) f e q)
    by_part p plain h k =
        value_stands at text (omega arith) p
        (unserved c n (get_or s at 0) (get_or s (at + 1) 0) f (service_serves c (get_or s at 0) ∙ ap serves p))
        (onward nothing (none_held c (get_or s at 0))) h

  -- a release character and the service character that it takes, which is a byte of a value
  taken_stands : (at : ℕ) (text : List ℕ) → at + 1 < length s → alike c n ≡ true → role c (get_or s at 0) ≡ Release → is_service c (get_or s (at + 1) 0) ≡ true
      → Stands (at + 1 + 1) text → Stands at (respelled c n (get_or s at 0) ∷ respelled c n (get_or s (at + 1) 0) ∷ text)
  unfolding let_out
  taken_stands at text i v p q go h k =
      let b = get_or s (at + 1) 0 in
      ap (emitted n h) (taken_next c n s at i p q)
      ∙ byte_first n h b at (at + 1) (tokens_at c s (at + 1 + 1))
      ∙ ap₂ (λ (l m : List ℕ). let_out n h ++ (l ++ m)) (alike_spelled c n v b q) (go nothing (λ rank r e. nothing_kept rank))
      ∙ ap₂ (λ (x y : ℕ). let_out n h ++ (x ∷ y ∷ text)) (sym (released (subst (Part c (get_or s at 0)) p (part c (get_or s at 0))))) (sym (alike_respelled c n v b))
    where
      -- it stands for itself
      released : Part c (get_or s at 0) Release → respelled c n (get_or s at 0) ≡ c.release
      released (releases e x) = alike_respelled c n v (get_or s at 0) ∙ e

-- ---- so many bytes

module _ (c n : Characters) (s : List ℕ) where
  -- one more at the end
  respelling_more : (at count : ℕ) (text : List ℕ)
      → respelling c n s at count ++ (respelled c n (get_or s (at + count) 0) ∷ text) ≡ respelling c n s at (suc count) ++ text
  unfolding respelling
  respelling_more at zero text = let there : at + zero ≡ at = omega arith in ap (λ (p : ℕ). respelled c n (get_or s p 0) ∷ text) there
  respelling_more at (suc count) text =
      let there : at + suc count ≡ at + 1 + count = omega arith in
      ap (λ (p : ℕ). respelled c n (get_or s at 0) ∷ (respelling c n s (at + 1) count ++ (respelled c n (get_or s p 0) ∷ text))) there
      ∙ ap (λ (l : List ℕ). respelled c n (get_or s at 0) ∷ l) (respelling_more (at + 1) count text)

  module _ {from : ℕ} where
    -- the same from one place up to another
    respelling_on : {at to : ℕ} (text : List ℕ) → from ≤ at → to ≡ at + 1
        → respelling c n s from (at - from) ++ (respelled c n (get_or s at 0) ∷ text) ≡ respelling c n s from (to - from) ++ text
    respelling_on {at} {to} text l e =
        let there : at ≡ from + (at - from) = omega arith in
        let more : suc (at - from) ≡ to - from = omega arith in
        ap (λ (p : ℕ). respelling c n s from (at - from) ++ (respelled c n (get_or s p 0) ∷ text)) there
        ∙ respelling_more from (at - from) text
        ∙ ap (λ (k : ℕ). respelling c n s from k ++ text) more

    -- ---- how far it goes

    pub passes_least : {to : ℕ} → Passes c n s from to → from ≤ to
    passes_least (stays e) = omega arith
    passes_least (alone g e i f) = omega (arith, passes_least g)
    passes_least (together g e i v p q) = omega (arith, passes_least g)

    pub passes_inside : {to : ℕ} → Passes c n s from to → from < to → to ≤ length s
    passes_inside (stays e) m = absurd (omega arith)
    passes_inside (alone g e i f) m = omega arith
    passes_inside (together g e i v p q) m = omega arith

    -- what stands after it stands after its bytes
    passes_stand : {to : ℕ} → Passes c n s from to → (text : List ℕ) → Stands c n s to text → Stands c n s from (respelling c n s from (to - from) ++ text)
    unfolding respelling
    passes_stand {to} (stays e) text go =
        let none : 0 ≡ to - from = omega arith in
        subst (λ (k : ℕ). Stands c n s from (respelling c n s from k ++ text)) none (subst (λ (p : ℕ). Stands c n s p text) e go)
    passes_stand {to} (alone {at} g e i f) text go =
        subst (Stands c n s from) (respelling_on text (passes_least g) e)
        (passes_stand g (respelled c n (get_or s at 0) ∷ text)
        (by_part c n s at text i f (subst (λ (p : ℕ). Stands c n s p text) e go) refl (part c (get_or s at 0))))
    passes_stand {to} (together {at} g e i v p q) text go =
        subst (Stands c n s from)
        (respelling_on {to = at + 1} (respelled c n (get_or s (at + 1) 0) ∷ text) (passes_least g) refl
        ∙ respelling_on {at = at + 1} text (omega (arith, passes_least g)) e)
        (passes_stand g (respelled c n (get_or s at 0) ∷ respelled c n (get_or s (at + 1) 0) ∷ text)
        (taken_stands c n s at text i v p q (subst (λ (p : ℕ). Stands c n s p text) e go)))

    -- What is emitted up to a place before which a byte of a value stands. That byte is passed alone: after a release character only a
    -- service character is passed.
    passes_emitted : {to : ℕ} → Passes c n s from to → from < to → is_service c (get_or s (to - 1) 0) ≡ false
        → emitted_at c n s from ≡ respelling c n s from (to - from) ++ emitted_at c n s to
    unfolding let_out
    passes_emitted (stays e) m last = absurd (omega arith)
    passes_emitted {to} (alone {at} g e i f) m last =
        let there : at ≡ to - 1 = omega arith in
        let v = ap (λ (p : ℕ). is_service c (get_or s p 0)) there ∙ last in
        let rest = emitted_at c n s to in
        passes_stand g (respelled c n (get_or s at 0) ∷ rest)
        (λ h k. value_stands c n s at rest (omega arith) (plain_role c (get_or s at 0) v) (unserved c n (get_or s at 0) (get_or s (at + 1) 0) f v) (ap (emitted_at c n s) (sym e)) h)
        nothing (λ rank q r. nothing_kept rank)
        ∙ respelling_on rest (passes_least g) e
    passes_emitted {to} (together {at} g e i v p q) m last =
        let there : at + 1 ≡ to - 1 = omega arith in
        absurd (false≢true (sym (ap (λ (p : ℕ). is_service c (get_or s p 0)) there ∙ last) ∙ q))

    -- no fault lies after it that does not lie in the whole
    passes_sound : {to : ℕ} → Passes c n s from to → Sound c s from → Sound c s to
    passes_sound (stays e) o = subst (Sound c s) (sym e) o
    passes_sound (alone {at} g e i f) o = subst (Sound c s) (sym e) (alone_sound c n s at i f refl (part c (get_or s at 0)) (passes_sound g o))
    passes_sound (together {at} g e i v p q) o =
        subst (Sound c s) (sym e) (sound_next c s at (at + 1 + 1) (taken_next c n s at i p q) (passes_sound g o))

    -- it goes up to an earlier place before which a byte of a value stands
    passes_back : {end : ℕ} (to : ℕ) → Passes c n s from end → from ≤ to → to ≤ end → EndsInValue c s from to → Passes c n s from to
    passes_back to (stays e) l m last = stays {to = to} (omega arith)
    passes_back {end} to (alone g e i f) l m last =
        elim (dec_le end to) [ yes k ↦ alone {to = to} g (omega arith) i f | no k ↦ passes_back to g l (omega (arith, lt_of_not-le k)) last ]
    passes_back {end} to (together {at} g e i v p q) l m last =
        elim (dec_le end to) [
          | yes k ↦ together {to = to} g (omega arith) i v p q
          | no k ↦
              elim (dec_le to at) [
                | yes j ↦ passes_back to g l j last
                | no j ↦
                    let there : at ≡ to - 1 = omega (arith, lt_of_not-le k, lt_of_not-le j) in
                    let later : from < to = omega (arith, passes_least g, lt_of_not-le j) in
                    absurd (false≢true
                    (sym (ap (λ (p : ℕ). is_service c (get_or s p 0)) there ∙ last later) ∙ service_serves c (get_or s at 0) ∙ ap serves p))
              ]
        ]

-- where a stretch goes up to a place, the bytes before an earlier place, at which a byte of a value ends, are emitted so
pub stretched : (c n : Characters) (s : List ℕ) {from to end : ℕ} → Passes c n s from end → from ≤ to → to ≤ end → EndsInValue c s from to
    → Stretch c n s from to
unfolding respelling let_out
stretched c n s {from} {to} {end} g l m last = (
  l,
  λ i. elim (dec_le to from) [ yes k ↦ omega arith | no k ↦ passes_inside c n s (passes_back c n s to g l m last) (lt_of_not-le k) ],
  elim (dec_le to from) [
    | yes k ↦
        let none : to - from ≡ 0 = omega arith in
        let there : from ≡ to = omega arith in
        ap₂ (λ (count p : ℕ). respelling c n s from count ++ emitted_at c n s p) (sym none) there
    | no k ↦ passes_emitted c n s (passes_back c n s to g l m last) (lt_of_not-le k) (last (lt_of_not-le k))
  ],
  passes_sound c n s (passes_back c n s to g l m last),
)

-- after the last byte nothing is emitted
pub emitted_none : (c n : Characters) (s : List ℕ) (at : ℕ) → length s ≤ at → emitted_at c n s at ≡ []
unfolding emitted
emitted_none c n s at h = ap (emitted n nothing) (at_end c s at h)

-- a stretch that goes on passes
pub goes_passes : (c n : Characters) (s : List ℕ) (from count : ℕ) {to : ℕ} → to ≡ from + count → Goes c n s from to → Passes c n s from to
goes_passes c n s from zero {to} e g = stays {to = to} (omega arith)
goes_passes c n s from (suc count) {to} e g =
    let (i, f) = g (from + count) (omega arith) (omega arith) in
    alone {to = to} (goes_passes c n s from count {to = from + count} refl (λ k l m. g k l (omega arith))) (omega arith) i f

-- it passes over two parts, one after the other
pub passes_more : (c n : Characters) (s : List ℕ) {from mid to : ℕ} → Passes c n s from mid → Passes c n s mid to → Passes c n s from to
passes_more c n s g (stays e) = subst (Passes c n s _) (sym e) g
passes_more c n s g (alone h e i f) = alone (passes_more c n s g h) e i f
passes_more c n s g (together h e i v p q) = together (passes_more c n s g h) e i v p q
