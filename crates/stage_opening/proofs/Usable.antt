-- When six bytes are usable, as the code asks it: the definition's tests, bracketed as the code brackets them. Assumes nothing.
use Rattle.std.specs.Prelude.{if◌then◌else◌}
use Prim.Native.Nat.{ℕ}
use mathlib.Core.Path.{◌≡◌, refl, sym, ap, ap₂, ◌∙◌}
use mathlib.Core.Bool.{Bool, true, false, not, ◌&&◌, ◌||◌, and_assoc, and-true, or_assoc, or-false}
use mathlib.Core.List.{[], ◌∷◌, ◌++◌}
use lib.Dec.{eqb}
use Rattle.lists.specs.Lists.{member, all_differ, all}
use Rattle.characters.specs.declared.Characters.{Characters}
use Rattle.characters.specs.Characters.{between, upper, lower, digit, separates, has_release, has_repetition, service_characters, usable}
use Rattle.stage_opening.specs.Optional.{optional}

not_or : (a b : Bool) → not (a || b) ≡ (not a && not b)
not_or true b = refl
not_or false b = refl

-- digits are asked for first, or last
digits_last : (number up low : Bool) → ((number || up) || low) ≡ ((up || low) || number)
digits_last true true low = refl
digits_last true false true = refl
digits_last true false false = refl
digits_last false true low = refl
digits_last false false true = refl
digits_last false false false = refl

pub separates_tests : (b : ℕ) {visible named : Bool} → visible ≡ between 33 126 b
    → named ≡ ((between 48 57 b || between 65 90 b) || between 97 122 b) → ((visible && not named) || eqb b 28 || eqb b 29 || eqb b 31) ≡ separates b
unfolding separates upper lower digit member
separates_tests b v n = simp (v, n ∙ digits_last (between 48 57 b) (between 65 90 b) (between 97 122 b), or_assoc, or-false)

pub differ_tests : (x a b c : ℕ) → not (eqb x a || eqb x b || eqb x c) ≡ not (member x (a ∷ b ∷ c ∷ []))
unfolding member
differ_tests x a b c = simp (or_assoc, or-false)

-- ---- the two that may be none

module _ (c : Characters) where
  pub optional_separate : {repetition release : Bool} → repetition ≡ separates c.repetition → release ≡ separates c.release
      → ((eqb c.repetition 32 || repetition) && (eqb c.release 32 || release)) ≡ all separates (optional c)
  unfolding has_repetition has_release all
  optional_separate p q =
      ap₂ (λ (x y : Bool). (eqb c.repetition 32 || x) && (eqb c.release 32 || y)) p q
      ∙ step (eqb c.repetition 32) (eqb c.release 32)
    where
      step : (t u : Bool)
          → ((t || separates c.repetition) && (u || separates c.release))
          ≡ all separates ((if not t then c.repetition ∷ [] else []) ++ (if not u then c.release ∷ [] else []))
      step true true = refl
      step true false = sym (and-true (separates c.release))
      step false true = refl
      step false false = ap (λ (b : Bool). separates c.repetition && b) (sym (and-true (separates c.release)))

  pub optional_differ : (eqb c.repetition 32 || eqb c.release 32 || not (eqb c.repetition c.release)) ≡ all_differ (optional c)
  unfolding has_repetition has_release all_differ member
  optional_differ = step (eqb c.repetition 32) (eqb c.release 32)
    where
      step : (t u : Bool)
          → (t || u || not (eqb c.repetition c.release))
          ≡ all_differ ((if not t then c.repetition ∷ [] else []) ++ (if not u then c.release ∷ [] else []))
      step true true = refl
      step true false = refl
      step false true = refl
      step false false = simp (or-false, and-true)

  pub optional_apart : (x : ℕ)
      → ((eqb c.repetition 32 || not (eqb x c.repetition)) && (eqb c.release 32 || not (eqb x c.release)))
      ≡ not (member x (optional c))
  unfolding has_repetition has_release member
  optional_apart x = step (eqb c.repetition 32) (eqb c.release 32)
    where
      step : (t u : Bool)
          → ((t || not (eqb x c.repetition)) && (u || not (eqb x c.release)))
          ≡ not (member x ((if not t then c.repetition ∷ [] else []) ++ (if not u then c.release ∷ [] else [])))
      step true true = refl
      step true false = simp or-false
      step false true = simp (or-false, and-true)
      step false false = simp (or-false, not_or)

-- ---- all of them

module _ (c : Characters) {first second third others : Bool} (p : first ≡ separates c.component) (q : second ≡ separates c.element)
    (r : third ≡ separates c.terminator) (o : others ≡ all separates (optional c)) where
  pub usable_tests : {marked mark component element terminator apart : Bool}
      → marked ≡ not (member c.mark (c.component ∷ c.element ∷ c.terminator ∷ []))
      → mark ≡ not (member c.mark (optional c)) → component ≡ not (member c.component (optional c))
      → element ≡ not (member c.element (optional c)) → terminator ≡ not (member c.terminator (optional c))
      → apart ≡ all_differ (optional c)
      → ((eqb c.mark 46 || eqb c.mark 44) && (first && second && third && others) && (marked && mark)
      && (not (eqb c.component c.element) && not (eqb c.component c.terminator) && component)
      && (not (eqb c.element c.terminator) && element) && (terminator && apart)) ≡ usable c
  unfolding usable service_characters member all all_differ
  usable_tests m a b d e f = simp (p, q, r, o, m, a, b, d, e, f, not_or, and_assoc, or-false)
