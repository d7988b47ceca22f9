-- What the bytes of a value make of a field, one by one, is what the field says of the value; and what they can spell at most.
-- Assumes nothing.
use Rattle.std.specs.Prelude.{if◌then◌else◌}
use Prim.Native.Nat.{ℕ, zero, suc, ◌+◌, ◌*◌, ◌-◌, ◌≤◌, ◌<◌}
use mathlib.Core.Path.{◌≡◌, refl, sym, ap, ap₂, ◌∙◌, subst}
use mathlib.Core.Bool.{Bool, true, false, ◌&&◌, and_assoc, and-true}
use mathlib.Core.List.{List, [], ◌∷◌}
use native.Mathlib.Omega.{arith}
use native.Mathlib.Numerals.{add-one}
use lib.ListN.{length, take}
use lib.Seq.{take-nil}
use lib.Dec.{ltb}
use borrow.Author.Tests.{ltb-true, ltb-false}
use Rattle.lists.specs.Lists.{all}
use Rattle.characters.specs.Characters.{digit}
use Rattle.control_elements.specs.Control.{decimal_from}
use Rattle.control_fields.specs.declared.Field.{Field}
use Rattle.control_fields.specs.Reading.{ceiling, with_digit, with_byte, with_bytes}

-- ---- what is read so far

-- the number goes on with the digits that are left of the first six
number_more : (size number b : ℕ) (bs : List ℕ)
    → decimal_from (if ltb size 6 then number * 10 + (b - 48) else number) (take (6 - (size + 1)) bs)
    ≡ decimal_from number (take (6 - size) (b ∷ bs))
unfolding decimal_from
number_more size number b bs = step (ltb size 6) refl
  where
    step : (t : Bool) → ltb size 6 ≡ t
        → decimal_from (if t then number * 10 + (b - 48) else number) (take (6 - (size + 1)) bs)
        ≡ decimal_from number (take (6 - size) (b ∷ bs))
    step true e =
        let h = ltb-true size 6 e in
        let q : suc (6 - (size + 1)) ≡ 6 - size = omega arith in
        ap (λ (n : ℕ). decimal_from number (take n (b ∷ bs))) q
    step false e =
        let h = ltb-false size 6 e in
        let p : 6 - (size + 1) ≡ zero = omega arith in
        let q : zero ≡ 6 - size = omega arith in
        ap (λ (n : ℕ). decimal_from number (take n bs)) p ∙ ap (λ (n : ℕ). decimal_from number (take n (b ∷ bs))) q

module _ (alone : Bool) where
  abbrev pub field : ℕ → Bool → ℕ → Field
  field size digits number = record { size = size; digits = digits; number = number; alone = alone }

  pub field_same : {n m : ℕ} {a b : Bool} {p q : ℕ} → n ≡ m → a ≡ b → p ≡ q → field n a p ≡ field m b q
  field_same {n} {m} {a} {b} {p} {q} e d g =
      ap₂ (λ (x : ℕ) (y : Bool). field x y p) e d ∙ ap (λ (z : ℕ). field m b z) g

-- bytes put to a field, all at once
pub with_bytes_lem : (f : Field) (bs : List ℕ)
    → with_bytes f bs
    ≡ record {
      size = f.size + length bs;
      digits = f.digits && all digit bs;
      number = decimal_from f.number (take (6 - f.size) bs);
      alone = f.alone;
    }
unfolding with_bytes with_byte with_digit all decimal_from
with_bytes_lem f [] =
    field_same f.alone (omega arith) (sym (and-true f.digits)) (ap (decimal_from f.number) (sym (take-nil (6 - f.size))))
with_bytes_lem f (b ∷ bs) =
    with_bytes_lem (with_byte f b) bs
    ∙ field_same f.alone (omega arith) (and_assoc f.digits (digit b) (all digit bs)) (number_more f.size f.number b bs)

-- ---- what can be spelled at most

-- five bytes leave room for a sixth
pub five_spell : (f : Field) → f.number ≤ ceiling f.size → f.size < 6 → f.number ≤ 2299977
unfolding ceiling
five_spell f h l = omega (arith, h, most f.size l)
  where
    most : (n : ℕ) → n < 6 → ceiling n ≤ 2299977
    most zero k = omega arith
    most (suc zero) k = omega arith
    most (suc (suc zero)) k = omega arith
    most (suc (suc (suc zero))) k = omega arith
    most (suc (suc (suc (suc zero)))) k = omega arith
    most (suc (suc (suc (suc (suc zero))))) k = omega arith
    most (suc (suc (suc (suc (suc (suc n)))))) k = absurd (omega arith)

-- one byte more keeps below what can be spelled
pub byte_spells : (f : Field) (b : ℕ) → b ≤ 255 → f.number ≤ ceiling f.size → (with_byte f b).number ≤ ceiling (with_byte f b).size
unfolding with_byte with_digit ceiling
byte_spells f b h l = subst (λ (n : ℕ). with_digit f b ≤ ceiling n) (sym (add-one f.size)) (step (ltb f.size 6))
  where
    step : (t : Bool) → (if t then f.number * 10 + (b - 48) else f.number) ≤ ceiling (suc f.size)
    step true = omega arith
    step false = omega arith
