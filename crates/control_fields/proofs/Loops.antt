-- One turn of the loop that reads a field, for each answer of the next byte. Assumes nothing.
use Prim.Native.Nat.{ℕ, ◌+◌, ◌≤◌}
use mathlib.Core.Path.{◌≡◌, refl, sym, ap, ◌∙◌, subst}
use mathlib.Core.Bool.{Bool}
use mathlib.Core.List.{List}
use native.Mathlib.Omega.{arith}
use Rattle.characters.specs.declared.Characters.{Characters}
use Rattle.values.specs.Tokens.{tokens_at}
use Rattle.control_elements.specs.Control.{decimal}
use Rattle.elements.specs.declared.NextByte.TheVariants.{Byte, Ended}
use Rattle.elements.specs.Values.{value_in, value_end, NextAt}
use Rattle.trimmed_values.specs.Trimmed.{is_alone}
use Rattle.trimmed_values.proofs.Contents.{alone_end}
use Rattle.control_fields.specs.declared.Field.{Field}
use Rattle.control_fields.specs.Fields.{field_of}
use Rattle.control_fields.specs.Reading.{ceiling, with_byte, with_bytes, no_bytes}
use Rattle.control_fields.proofs.Bytes.{field, field_same, with_bytes_lem, byte_spells}

module _ (c : Characters) (s : List ℕ) where
  abbrev value : ℕ → List ℕ
  value at = value_in (tokens_at c s at)

  -- the field of what was read from the first place goes on at the second; there is room for one byte more
  abbrev pub Reads : ℕ → ℕ → Field → Type 0
  Reads from at f =
      (with_bytes no_bytes (value from) ≡ with_bytes f (value at))
      × (value_end (tokens_at c s from) ≡ value_end (tokens_at c s at))
      × (from + f.size ≤ at)
      × (f.number ≤ ceiling f.size)

  module _ (from at : ℕ) (f : Field) (h : Reads from at f) where
    pub reads_byte : {b next : ℕ} {g : Field} → NextAt c s at (Byte b next) → b ≤ 255 → g ≡ with_byte f b → Reads from next g
    unfolding with_byte with_bytes
    reads_byte {b} {next} n l e =
        subst (Reads from next) (sym e)
        (h.0 ∙ ap (with_bytes f) n.0, h.1 ∙ n.1, further, byte_spells f b l h.3)
      where
        further : from + (with_byte f b).size ≤ next
        further = omega arith

    pub reads_end : (place : ℕ) {alone : Bool} → NextAt c s at (Ended place) → alone ≡ is_alone (tokens_at c s place)
        → field alone f.size f.digits f.number ≡ field_of (tokens_at c s from)
    unfolding with_bytes field_of decimal
    reads_end place {alone} n e =
        let whole = field_of (tokens_at c s from) in
        ap (λ (g : Field). field alone g.size g.digits g.number)
        (sym (h.0 ∙ ap (with_bytes f) n.0) ∙ with_bytes_lem no_bytes (value from))
        ∙ field_same alone (omega arith) refl refl
        ∙ ap (λ (b : Bool). field b whole.size whole.digits whole.number)
        (e ∙ ap is_alone (n.1.0 ∙ sym h.1) ∙ alone_end (tokens_at c s from))
