-- One turn of the loops that compare a value with another and with a text, for each answer of the next byte. Assumes nothing.
use Prim.Native.Nat.{ℕ}
use mathlib.Core.Path.{◌≡◌, sym, ap, ap₂, ◌∙◌}
use mathlib.Core.Bool.{Bool, false, ◌&&◌}
use mathlib.Core.List.{List, [], ◌∷◌}
use borrow.Author.Tests.{eq-eqb, ne_eqb}
use Rattle.lists.specs.Lists.{same}
use Rattle.characters.specs.declared.Characters.{Characters}
use Rattle.values.specs.Tokens.{tokens_at}
use Rattle.elements.specs.declared.NextByte.{NextByte}
use Rattle.elements.specs.declared.NextByte.TheVariants.{Byte, Ended}
use Rattle.elements.specs.Values.{value_in, NextAt}
use Rattle.trimmed_values.specs.Trimmed.{is_ended}

-- the first has ended: they are the same if the second has
pub same_ended : (c : Characters) (s : List ℕ) (b : ℕ) {xs : List ℕ} (r : NextByte) → xs ≡ [] → NextAt c s b r
    → is_ended r ≡ same xs (value_in (tokens_at c s b))
unfolding same
same_ended c s b (Byte y after) e n = sym (ap₂ same e n.0)
same_ended c s b (Ended place) e n = sym (ap₂ same e n.0)

module _ {xs ys : List ℕ} {x : ℕ} {rest : List ℕ} (e : xs ≡ x ∷ rest) where
  -- only the second has ended
  pub same_longer : ys ≡ [] → same xs ys ≡ false
  unfolding same
  same_longer d = ap₂ same e d

  module _ {y : ℕ} {more : List ℕ} (d : ys ≡ y ∷ more) where
    -- the bytes agree, and the rest decides; or they do not
    pub same_byte : x ≡ y → same xs ys ≡ same rest more
    unfolding same
    same_byte q = ap₂ same e d ∙ ap (λ (t : Bool). t && same rest more) (eq-eqb x y q)

    pub same_not : (x ≡ y → ⊥) → same xs ys ≡ false
    unfolding same
    same_not q = ap₂ same e d ∙ ap (λ (t : Bool). t && same rest more) (ne_eqb x y q)

-- only the first has ended
pub same_shorter : {xs ys : List ℕ} {y : ℕ} {more : List ℕ} → xs ≡ [] → ys ≡ y ∷ more → same xs ys ≡ false
unfolding same
same_shorter e d = ap₂ same e d

-- the text has ended: the value is the text if it has no byte more
pub text_ended : (c : Characters) (s : List ℕ) (b : ℕ) {xs : List ℕ} (r : NextByte) → xs ≡ [] → NextAt c s b r
    → is_ended r ≡ same (value_in (tokens_at c s b)) xs
unfolding same
text_ended c s b (Byte y after) e n = sym (ap₂ same n.0 e)
text_ended c s b (Ended place) e n = sym (ap₂ same n.0 e)
