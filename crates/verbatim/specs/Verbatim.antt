-- What tells that bytes stand as their normal form spells them (paper 01, "Normal form"): a test of the service characters, and one of each two
-- bytes that stand side by side. The second misses some: a released separator is taken for one that separates. Assumes nothing.
use Rattle.std.specs.Prelude.{ℕ, ◌≡◌, Bool, true, not, ◌&&◌, ◌||◌, List, eqb, leb, if◌then◌else◌}
use Rattle.lists.specs.Lists.{same, all}
use Rattle.characters.specs.declared.Characters.{Characters}
use Rattle.characters.specs.Characters.{has_repetition, spelled_out}
use Rattle.values.specs.Tokens.{Token, byte, separator, fault, tokens_at}
use Rattle.values.specs.Values.{is_fault}
use Rattle.stages.specs.Contents.{normal_characters}

-- "the contents spelled with those characters": the six bytes are those of a normal form with this fifth byte
unfoldable pub is_normal : Characters → ℕ → Bool
is_normal c repetition = same (spelled_out c) (spelled_out (normal_characters c.mark repetition))

module _ (c : Characters) where
  -- The repetition separator. Where there is none a terminator takes its place: no separator follows one, but where refusal 6 is met.
  unfoldable pub ends_repeat : ℕ
  ends_repeat = if has_repetition c then c.repetition else c.terminator

  -- the byte separates components; components or repeats; components, repeats or elements
  abbrev pub parts_components : ℕ → Bool
  parts_components a = eqb a c.component

  abbrev pub parts_repeats : ℕ → Bool
  parts_repeats a = parts_components a || eqb a ends_repeat

  abbrev pub parts_elements : ℕ → Bool
  parts_elements a = parts_repeats a || eqb a c.element

  -- Something may be empty to its end between a byte and the next: a component, before what ends a repeat ("empty components at the end
  -- of every repeat"), that or a repeat, before an element separator ("empty repeats at an element's end"), or any of them or an element,
  -- before a terminator ("then elements as before").
  unfoldable pub idle : ℕ → ℕ → Bool
  idle a b =
      (eqb b ends_repeat && parts_components a) || ((eqb b c.element && parts_repeats a) || (eqb b c.terminator && parts_elements a))

  -- the byte is the repetition separator; that or a component separator; one of these or an element separator
  abbrev pub is_repetition : ℕ → Bool
  is_repetition a = has_repetition c && eqb a c.repetition

  abbrev pub parts_element : ℕ → Bool
  parts_element a = parts_components a || is_repetition a

  abbrev pub parts_segment : ℕ → Bool
  parts_segment a = parts_element a || eqb a c.element

-- no fault 4 lies in the tokens
unfoldable pub faultless : List Token → Bool
faultless ts = all (λ t. not (is_fault t)) ts

-- no byte of a value is below the space, as none is that is in a level
unfoldable pub is_visible : Token → Bool
is_visible (byte b from place) = leb 32 b
is_visible (separator rank place) = true
is_visible (fault place) = true

unfoldable pub visible : List Token → Bool
visible ts = all is_visible ts

-- no fault 4 lies in what is read from a place on, and no byte of a value below the space
abbrev pub Sound : Characters → List ℕ → ℕ → Type 0
Sound c s at = (faultless (tokens_at c s at) ≡ true) × (visible (tokens_at c s at) ≡ true)
