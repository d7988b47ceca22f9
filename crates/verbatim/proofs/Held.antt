-- What is held back while nothing is idle, and how a separator stands: where nothing is idle before it, it stands in what is emitted with any
-- characters, in its place. Assumes nothing.
use Rattle.std.specs.Prelude.{if◌then◌else◌}
use Prim.Native.Nat.{ℕ, zero, suc, ◌+◌, ◌-◌, ◌≤◌}
use mathlib.Core.Path.{◌≡◌, refl, sym, ap, ap₂, ◌∙◌}
use mathlib.Core.Bool.{Bool, true, false, not, ◌&&◌, ◌||◌, false≢true}
use mathlib.Core.List.{List, [], ◌∷◌, ◌++◌, append_assoc}
use native.Mathlib.Omega.{arith}
use lib.Dec.{eqb}
use lib.ListN.{replicate, replicate-append-replicate}
use borrow.Author.Tests.{eq-eqb, not-true}
use Rattle.lists.proofs.Texts.{and_both, or_none_left, or_none_right, if_true}
use Rattle.characters.specs.declared.Characters.{Characters}
use Rattle.characters.specs.Characters.{has_repetition}
use Rattle.values.specs.Tokens.{Token, separator}
use Rattle.values.specs.Spelling.{separator_of}
use Rattle.spelling_laws.proofs.Service.{separable, separable_low}
use Rattle.emission_laws.specs.declared.Held.{Held}
use Rattle.emission_laws.specs.Emission.{nothing, separated, held_next, let_out, spelled_next, emitted}
use Rattle.emission_laws.proofs.Steps.{let_out_runs}
use Rattle.verbatim.specs.Verbatim.{ends_repeat, parts_components, parts_repeats, parts_elements, idle, is_repetition, parts_element, parts_segment}

-- a separator of this rank drops nothing of what is held back
abbrev pub Kept : Held → ℕ → Type 0
Kept h zero = (h.elements ≡ 0) × (h.repeats ≡ 0) × (h.components ≡ 0)
Kept h (suc zero) = (h.repeats ≡ 0) × (h.components ≡ 0)
Kept h (suc (suc zero)) = h.components ≡ 0
Kept h (suc (suc (suc rank))) = Unit {0}

-- where nothing is held back, none does
pub nothing_kept : (rank : ℕ) → Kept nothing rank
nothing_kept zero = (refl, refl, refl)
nothing_kept (suc zero) = (refl, refl)
nothing_kept (suc (suc zero)) = refl
nothing_kept (suc (suc (suc rank))) = tt

module _ (c : Characters) where
  -- ---- what is held back

  -- What may be held back after a byte: component separators only after one of them, those of repeats only after one of either rank, and
  -- those of elements only after one of the three.
  pub record Follows (before : ℕ) (h : Held) : Type 0 where
    pub no_components : parts_components c before ≡ false → h.components ≡ 0
    pub no_repeats : parts_element c before ≡ false → h.repeats ≡ 0
    pub no_elements : parts_segment c before ≡ false → h.elements ≡ 0

  pub none_held : (before : ℕ) → Follows before nothing
  none_held before = record { no_components = λ p. refl; no_repeats = λ p. refl; no_elements = λ p. refl }

  module _ (b : ℕ) where
    -- a byte that separates components separates components or repeats, and so on
    parts_element_lem : parts_element c b ≡ false → parts_components c b ≡ false
    parts_element_lem p = or_none_left (parts_components c b) (is_repetition c b) p

    parts_segment_lem : parts_segment c b ≡ false → parts_element c b ≡ false
    parts_segment_lem p = or_none_left (parts_element c b) (eqb b c.element) p

    no_element : b ≡ c.element → parts_segment c b ≡ false → ⊥
    no_element e p = false≢true (sym (or_none_right (parts_element c b) (eqb b c.element) p) ∙ eq-eqb b c.element e)

    no_repeat : has_repetition c ≡ true → b ≡ c.repetition → parts_element c b ≡ false → ⊥
    no_repeat q e p =
        false≢true (sym (or_none_right (parts_components c b) (is_repetition c b) p) ∙ and_both (has_repetition c) (eqb b c.repetition) q (eq-eqb b c.repetition e))

    no_component : b ≡ c.component → parts_components c b ≡ false → ⊥
    no_component e p = false≢true (sym p ∙ eq-eqb b c.component e)

    module _ (h : Held) where
      after_element : b ≡ c.element → Follows b (separated h 1)
      unfolding separated
      after_element e = record { no_components = λ p. refl; no_repeats = λ p. refl; no_elements = λ p. absurd (no_element e p) }

      after_repeat : has_repetition c ≡ true → b ≡ c.repetition → Follows b (separated h 2)
      unfolding separated
      after_repeat q e =
          record {
            no_components = λ p. refl;
            no_repeats = λ p. absurd (no_repeat q e p);
            no_elements = λ p. absurd (no_repeat q e (parts_segment_lem p));
          }

      after_component : b ≡ c.component → Follows b (separated h 3)
      after_component e =
          record {
            no_components = λ p. absurd (no_component e p);
            no_repeats = λ p. absurd (no_component e (parts_element_lem p));
            no_elements = λ p. absurd (no_component e (parts_element_lem (parts_segment_lem p)));
          }

    -- where nothing ends a repeat, the repetition separator does not
    none_parts : parts_repeats c b ≡ false → parts_element c b ≡ false
    unfolding ends_repeat
    none_parts p = step (has_repetition c) (or_none_right (parts_components c b) (eqb b (ends_repeat c)) p)
      where
        step : (t : Bool) → eqb b (if t then c.repetition else c.terminator) ≡ false → (parts_components c b || (t && eqb b c.repetition)) ≡ false
        step true k = ap₂ ◌||◌ (or_none_left (parts_components c b) (eqb b (ends_repeat c)) p) k
        step false k = ap (λ (u : Bool). u || false) (or_none_left (parts_components c b) (eqb b (ends_repeat c)) p)

  -- what is not idle: what ends a repeat is not after a component separator, and so on
  module _ (a b : ℕ) (i : not (idle c a b) ≡ true) where
    abbrev of_repeat : Bool
    of_repeat = eqb b (ends_repeat c) && parts_components c a

    abbrev of_element : Bool
    of_element = eqb b c.element && parts_repeats c a

    abbrev of_segment : Bool
    of_segment = eqb b c.terminator && parts_elements c a

    none_idle : (of_repeat || (of_element || of_segment)) ≡ false
    unfolding idle
    none_idle = not-true (idle c a b) i

    before_repeat : b ≡ ends_repeat c → parts_components c a ≡ false
    before_repeat e =
        sym (ap (λ (t : Bool). t && parts_components c a) (eq-eqb b (ends_repeat c) e)) ∙ or_none_left of_repeat (of_element || of_segment) none_idle

    before_element : b ≡ c.element → parts_element c a ≡ false
    before_element e =
        none_parts a
        (sym (ap (λ (t : Bool). t && parts_repeats c a) (eq-eqb b c.element e))
        ∙ or_none_left of_element of_segment (or_none_right of_repeat (of_element || of_segment) none_idle))

    before_terminator : b ≡ c.terminator → parts_segment c a ≡ false
    before_terminator e =
        let p : parts_elements c a ≡ false
        = sym (ap (λ (t : Bool). t && parts_elements c a) (eq-eqb b c.terminator e))
        ∙ or_none_right of_element of_segment (or_none_right of_repeat (of_element || of_segment) none_idle) in
        ap₂ ◌||◌ (none_parts a (or_none_left (parts_repeats c a) (eqb a c.element) p)) (or_none_right (parts_repeats c a) (eqb a c.element) p)

  -- ---- after a separator, and before one

  pub follows_separator : (b : ℕ) (h : Held) (rank : ℕ) → separable c rank ≡ true → b ≡ separator_of c (3 - rank) → Follows b (separated h rank)
  unfolding separated separable
  follows_separator b h zero q e = none_held b
  follows_separator b h (suc zero) q e = after_element b h e
  follows_separator b h (suc (suc zero)) q e = after_repeat b h q e
  follows_separator b h (suc (suc (suc zero))) q e = after_component b h e
  follows_separator b h (suc (suc (suc (suc rank)))) q e = absurd (omega (arith, separable_low c (suc (suc (suc (suc rank)))) q))

  -- after a byte that separates no part of a segment nothing is held back
  none_kept : (a : ℕ) {h : Held} → Follows a h → parts_segment c a ≡ false → Kept h 0
  none_kept a f p = let q = parts_segment_lem a p in (f.no_elements p, f.no_repeats q, f.no_components (parts_element_lem a q))

  -- where nothing is idle before a separator, it drops nothing
  pub kept : (a b : ℕ) {h : Held} → Follows a h → not (idle c a b) ≡ true → (rank : ℕ) → separable c rank ≡ true → b ≡ separator_of c (3 - rank)
      → Kept h rank
  unfolding separable ends_repeat
  kept a b f i zero q e = none_kept a f (before_terminator a b i e)
  kept a b f i (suc zero) q e = let p = before_element a b i e in (f.no_repeats p, f.no_components (parts_element_lem a p))
  kept a b f i (suc (suc zero)) q e =
      f.no_components (before_repeat a b i (e ∙ sym (if_true (has_repetition c) c.repetition c.terminator q)))
  kept a b f i (suc (suc (suc rank))) q e = tt

-- ---- what is let out, with any characters

-- one more in front of a text
more : (k x : ℕ) (text : List ℕ) → replicate (k + 1) x ++ text ≡ replicate k x ++ (x ∷ text)
more k x text =
    ap (λ (l : List ℕ). l ++ text) (sym (replicate-append-replicate k 1 x)) ∙ append_assoc (replicate k x) (x ∷ []) text

module _ (n : Characters) (h : Held) where
  none_out : Kept h 0 → [] ≡ let_out n h
  unfolding let_out
  none_out (z, y, x) =
      sym (ap₂ (λ (j k : ℕ). replicate j n.element ++ (replicate k n.repetition ++ replicate h.components n.component)) z y
      ∙ ap (λ (k : ℕ). replicate k n.component) x)

  module _ (text : List ℕ) where
    one_element : Kept h 1 → let_out n (separated h 1) ++ text ≡ let_out n h ++ (n.element ∷ text)
    unfolding separated
    one_element (y, z) =
        let_out_runs n (separated h 1) text
        ∙ more h.elements n.element text
        ∙ sym (let_out_runs n h (n.element ∷ text)
        ∙ ap₂ (λ (j k : ℕ). replicate h.elements n.element ++ (replicate j n.repetition ++ (replicate k n.component ++ (n.element ∷ text)))) y z)

    one_repeat : Kept h 2 → let_out n (separated h 2) ++ text ≡ let_out n h ++ (n.repetition ∷ text)
    unfolding separated
    one_repeat z =
        let_out_runs n (separated h 2) text
        ∙ ap (λ (l : List ℕ). replicate h.elements n.element ++ l) (more h.repeats n.repetition text)
        ∙ sym (let_out_runs n h (n.repetition ∷ text)
        ∙ ap (λ (k : ℕ). replicate h.elements n.element ++ (replicate h.repeats n.repetition ++ (replicate k n.component ++ (n.repetition ∷ text)))) z)

    one_component : let_out n (separated h 3) ++ text ≡ let_out n h ++ (n.component ∷ text)
    unfolding separated
    one_component =
        let_out_runs n (separated h 3) text
        ∙ ap (λ (l : List ℕ). replicate h.elements n.element ++ (replicate h.repeats n.repetition ++ l)) (more h.components n.component text)
        ∙ sym (let_out_runs n h (n.component ∷ text))

  -- a separator that drops nothing stands between what is held back before it and what follows
  pub separator_stands : (rank : ℕ) → rank ≤ 3 → Kept h rank → (place : ℕ) (ts : List Token) (text : List ℕ)
      → emitted n (separated h rank) ts ≡ let_out n (separated h rank) ++ text
      → emitted n h (separator rank place ∷ ts) ≡ let_out n h ++ (separator_of n (3 - rank) ∷ text)
  unfolding emitted spelled_next held_next separated let_out
  separator_stands zero low k place ts text r =
      ap (λ (l : List ℕ). n.terminator ∷ l) r ∙ ap (λ (l : List ℕ). l ++ (n.terminator ∷ text)) (none_out k)
  separator_stands (suc zero) low k place ts text r = r ∙ one_element text k
  separator_stands (suc (suc zero)) low k place ts text r = r ∙ one_repeat text k
  separator_stands (suc (suc (suc zero))) low k place ts text r = r ∙ one_component text
  separator_stands (suc (suc (suc (suc rank)))) low k place ts text r = absurd (omega arith)
