-- A control element of the trimmed contents is judged by the field of the element as it is spelled. Assumes nothing.
use Rattle.std.specs.Prelude.{if◌then◌else◌}
use Prim.Native.Nat.{ℕ, ◌≤◌}
use mathlib.Core.Path.{◌≡◌, refl, sym, ap, ◌∙◌}
use mathlib.Core.Bool.{Bool, true, false, ◌&&◌, and_comm}
use mathlib.Core.List.{List, [], ◌∷◌}
use mathlib.Core.Option.{Option, none, some}
use native.Mathlib.Omega.{arith}
use lib.ListN.{length}
use lib.Seq.{take_all}
use lib.Dec.{leb}
use borrow.Author.Tests.{leb-true}
use Rattle.lists.specs.Lists.{all, through, maybe}
use Rattle.lists.proofs.Texts.{and_left, and_right}
use Rattle.characters.specs.declared.Characters.{Characters}
use Rattle.characters.specs.Characters.{between, digit}
use Rattle.values.specs.Tokens.{Token, ends, tokens_at}
use Rattle.control_elements.specs.Control.{control_element, is_reference, is_count, decimal}
use Rattle.scanner.specs.Scan.{segment_at}
use Rattle.elements.specs.Elements.{element_from, ElementAt}
use Rattle.elements.specs.Values.{value_in}
use Rattle.trimmed_values.specs.Trimmed.{is_alone}
use Rattle.trimmed_values.proofs.Contents.{element_read}
use Rattle.control_fields.specs.Fields.{field_of, spells_reference, spells_count}

-- ---- references and counts

at_least : (low high n : ℕ) → between low high n ≡ true → low ≤ n
unfolding between
at_least low high n h = leb-true low n (and_left (leb low n) (leb n high) h)

at_most : (low high n : ℕ) → between low high n ≡ true → n ≤ high
unfolding between
at_most low high n h = leb-true n high (and_right (leb low n) (leb n high) h)

-- the value, unless it is empty
present : Option (List ℕ) → Option (List ℕ)
present none = none
present (some []) = none
present (some (b ∷ bs)) = some (b ∷ bs)

present_is : (element : Option (List ℕ)) (value : List ℕ) → 1 ≤ length value → present element ≡ present (some value)
    → element ≡ some value
unfolding present
present_is element [] h e = absurd (omega arith)
present_is none (b ∷ bs) h e = e
present_is (some []) (b ∷ bs) h e = cc
present_is (some (x ∷ xs)) (b ∷ bs) h e = e

module _ (ts : List Token) (k : ℕ) where
  -- the control element of that number in the segment that the tokens begin, and where it is spelled
  abbrev element : Option (List ℕ)
  element = control_element (through (ends 0) ts) k

  abbrev spelled : List Token
  spelled = element_from k ts

  -- it is a reference, or a count, exactly where the field says so
  pub reference_is : is_reference element ≡ spells_reference (field_of spelled)
  unfolding is_reference spells_reference field_of maybe between
  reference_is = element_read is_reference refl ts k ∙ judged (is_alone spelled) (value_in spelled)
    where
      judged : (b : Bool) (value : List ℕ) → is_reference (if b then some value else none) ≡ (b && between 1 14 (length value))
      judged true value = refl
      judged false value = refl

  pub count_is : is_count element ≡ spells_count (field_of spelled)
  unfolding is_count spells_count field_of maybe between
  count_is = element_read is_count refl ts k ∙ judged (is_alone spelled) (value_in spelled)
    where
      judged : (b : Bool) (value : List ℕ)
          → is_count (if b then some value else none) ≡ (b && all digit value && between 1 6 (length value))
      judged true value = and_comm (between 1 6 (length value)) (all digit value)
      judged false value = refl

  -- a value that is not empty stands in the trimmed contents as it is spelled
  value_is : (field_of spelled).alone ≡ true → 1 ≤ (field_of spelled).size → element ≡ some (value_in spelled)
  unfolding present field_of
  value_is a h =
      present_is element (value_in spelled) h
      (element_read present refl ts k ∙ ap (λ (b : Bool). present (if b then some (value_in spelled) else none)) a)

  -- a reference, or a count, is the value that is spelled there
  pub reference_value : is_reference element ≡ true → element ≡ some (value_in spelled)
  unfolding spells_reference
  reference_value h =
      let f = field_of spelled in
      let e = sym reference_is ∙ h in
      value_is (and_left f.alone (between 1 14 f.size) e) (at_least 1 14 f.size (and_right f.alone (between 1 14 f.size) e))

  -- what a count shows of the field
  counted : is_count element ≡ true → ((field_of spelled).alone ≡ true) × (between 1 6 (field_of spelled).size ≡ true)
  unfolding spells_count
  counted h =
      let f = field_of spelled in
      let e = sym count_is ∙ h in (
        and_left f.alone f.digits (and_left (f.alone && f.digits) (between 1 6 f.size) e),
        and_right (f.alone && f.digits) (between 1 6 f.size) e,
      )

  pub count_value : is_count element ≡ true → element ≡ some (value_in spelled)
  count_value h = value_is (counted h).0 (at_least 1 6 (field_of spelled).size (counted h).1)

  -- the number that it spells is the field's
  pub count_number : is_count element ≡ true → maybe 0 decimal element ≡ (field_of spelled).number
  unfolding maybe field_of
  count_number h =
      ap (maybe 0 decimal) (count_value h)
      ∙ ap decimal (sym (take_all 6 (value_in spelled) (at_most 1 6 (field_of spelled).size (counted h).1)))

-- ---- the same at a place

module _ (c : Characters) (s : List ℕ) (from k : ℕ) {r : ℕ} (e : ElementAt c s from k r) where
  -- what `is_reference` answers of `field_at` at the place that `element_at` gives
  pub reference_at : is_reference (control_element (segment_at c s from) k) ≡ spells_reference (field_of (tokens_at c s r))
  unfolding segment_at
  reference_at = reference_is (tokens_at c s from) k ∙ ap (λ (ts : List Token). spells_reference (field_of ts)) (sym e.0)

  -- the value that `same_value` reads there
  pub reference_value_at : is_reference (control_element (segment_at c s from) k) ≡ true
      → control_element (segment_at c s from) k ≡ some (value_in (tokens_at c s r))
  unfolding segment_at
  reference_value_at h = reference_value (tokens_at c s from) k h ∙ ap (λ (ts : List Token). some (value_in ts)) (sym e.0)
