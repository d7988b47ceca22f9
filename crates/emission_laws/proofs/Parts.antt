-- A part of any depth, trimmed and spelled, token by token. Assumes nothing.
use Prim.Native.Nat.{ℕ, zero, suc, ◌-◌, ◌≤◌}
use mathlib.Core.Path.{◌≡◌, refl, sym, ap, ap₂, ◌∙◌}
use mathlib.Core.Bool.{true, false, and-false}
use mathlib.Core.List.{List, [], ◌∷◌, ◌++◌, map, append-nil, append_assoc, map-map}
use lib.Dec.{leb}
use Rattle.lists.specs.Lists.{is_empty, gather, through, cut, trim_end, each_led_by, joined, beyond}
use Rattle.lists.proofs.Texts.{if_true, if_false}
use Rattle.lists.proofs.Pieces.{beyond_miss}
use Rattle.nesting.specs.Nesting.{Nest, shaped, mapped, nested, spelled, is_idle, idle, trim}
use Rattle.nesting_laws.proofs.Shape.{trim_step, shaped_some, shaped_first}
use Rattle.nesting_laws.proofs.Ranks.{depth_exact}
use Rattle.nesting_laws.proofs.Reading.{nested_shaped}
use Rattle.nesting_laws.proofs.Again.{trim_shaped}
use Rattle.characters.specs.declared.Characters.{Characters}
use Rattle.values.specs.Tokens.{Token, byte, separator, fault, ends, ends_part, Segment}
use Rattle.values.specs.Values.{Value, byte_of, bytes_of, value_of, values_of, repeats_of, elements_of}
use Rattle.values.specs.Trimming.{trim_repeat, trim_element, trim_segment, is_blank, trimmed, contents_of}
use Rattle.values.specs.Spelling.{separator_of, spell_byte, spell_value, spell_repeat, spell_element, spell_segment}
use Rattle.emission_laws.proofs.Cases.{by_spelling}
use Rattle.emission_laws.proofs.Runs.{held}
use Rattle.emission_laws.proofs.Level.{whole, whole_step}

-- ---- what a token ends

-- a byte of a value and a stray release character end nothing
pub byte_within : (n b from place : ℕ) → ends_part n (byte b from place) ≡ false
unfolding ends
byte_within n b from place = and-false (leb n 3)

pub fault_within : (n place : ℕ) → ends_part n (fault place) ≡ false
unfolding ends
fault_within n place = and-false (leb n 3)

-- the separator that ends a part ends the parts in it, and no deeper ones
pub separator_ends : (n end place : ℕ) → end ≤ 3 → ends_part n (separator (3 - end) place) ≡ leb n end
unfolding ends
separator_ends n end place k = depth_exact 3 ends end k (separator (3 - end) place) (λ rank. refl) n

-- a first token that ends a part is all of it, and one that does not goes on
pub through_hit : {A : Type 0} (t : A → _) (x : A) (xs : List A) → t x ≡ true → through t (x ∷ xs) ≡ x ∷ []
unfolding through
through_hit t x xs h = ap (λ (l : List _). x ∷ l) (if_true (t x) [] (through t xs) h)

pub through_miss : {A : Type 0} (t : A → _) (x : A) (xs : List A) → t x ≡ false → through t (x ∷ xs) ≡ x ∷ through t xs
unfolding through
through_miss t x xs h = ap (λ (l : List _). x ∷ l) (if_false (t x) [] (through t xs) h)

-- a part that was read, trimmed
abbrev left : (n : ℕ) → List Token → Nest Value n
left n ts = trim Value is_blank n (nested ends_part value_of n ts)

-- of something it has what it should
left_shaped : (n : ℕ) (t : Token) (ts : List Token) → shaped Value n (left n (t ∷ ts)) ≡ true
unfolding is_empty
left_shaped n t ts = trim_shaped Value is_blank n (nested ends_part value_of n (t ∷ ts)) (nested_shaped ends_part value_of n (t ∷ ts) refl)

module _ (c : Characters) where
  -- a part, spelled without its places
  abbrev spelt : (n : ℕ) → Nest Value n → List ℕ
  spelt n x = spelled (separator_of c) (spell_value c) n (mapped (λ v. v.bytes) n x)

  -- the part of a depth that a piece is, trimmed and spelled
  unfoldable pub text_of : (n : ℕ) → List Token → List ℕ
  text_of n piece = spelt n (left n piece)

  -- the contents of a segment, spelled
  pub contents_spelled : (segment : Segment) → spell_segment c (contents_of segment) ≡ text_of 3 segment ++ c.terminator ∷ []
  unfolding spell_segment spell_element spell_repeat contents_of trimmed trim_segment trim_element trim_repeat elements_of repeats_of values_of text_of
  contents_spelled segment = refl

  -- nothing is spelled by nothing
  pub text_none : (n : ℕ) → text_of n [] ≡ []
  unfolding text_of value_of bytes_of gather spell_value cut trim_end joined
  text_none zero = refl
  text_none (suc n) = ap (spelt (suc n)) (trim_step Value is_blank n [])

  -- ---- only a single empty value is spelled by nothing

  blank_value : (bs : List ℕ) → is_empty bs ≡ is_empty (spell_value c bs)
  unfolding is_empty spell_value gather
  blank_value [] = refl
  blank_value (b ∷ bs) = by_spelling (λ s. false ≡ is_empty (s ++ spell_value c bs)) c b refl refl

  blank_part : (n : ℕ) (x : Nest Value n) → shaped Value n x ≡ true → idle Value is_blank n x ≡ is_empty (spelt n x)
  unfolding is_idle joined each_led_by is_empty
  blank_part zero v s = blank_value v.bytes
  blank_part (suc n) [] s = absurd (shaped_some Value n s)
  blank_part (suc n) (x ∷ []) s = blank_part n x (shaped_first Value n x [] s) ∙ ap is_empty (sym (append-nil (spelt n x)))
  blank_part (suc n) (x ∷ y ∷ ys) s = step (spelt n x)
    where
      step : (s : List ℕ)
          → false
          ≡ is_empty (s ++ each_led_by (separator_of c n) (map (spelled (separator_of c) (spell_value c) n) (map (mapped (λ v. v.bytes) n) (y ∷ ys))))
      step [] = refl
      step (z ∷ zs) = refl

  -- ---- a part is its first part and, held back after it, the rest of it

  as_whole : (n : ℕ) (piece : List Token)
      → text_of (suc n) piece ≡ whole (ends_part n) (left n) (idle Value is_blank n) (spelt n) (separator_of c n) piece
  unfolding text_of whole
  as_whole n piece =
      let pieces : List (List Token) = cut (ends_part n) piece in
      let kept : List (Nest Value n) = trim_end (idle Value is_blank n) (map (trim Value is_blank n) (map (nested ends_part value_of n) pieces)) in
      ap (spelt (suc n)) (trim_step Value is_blank n (map (nested ends_part value_of n) pieces))
      ∙ ap (joined (separator_of c n)) (map-map (spelled (separator_of c) (spell_value c) n) (mapped (λ v. v.bytes) n) kept)
      ∙ ap (λ (l : List (Nest Value n)). joined (separator_of c n) (map (spelt n) (trim_end (idle Value is_blank n) l)))
      (map-map (trim Value is_blank n) (nested ends_part value_of n) pieces)

  pub text_step : (n : ℕ) (piece : List Token)
      → text_of (suc n) piece
      ≡ text_of n (through (ends_part n) piece) ++ held 1 (separator_of c n) (text_of (suc n) (beyond (ends_part n) piece))
  unfolding text_of
  text_step n piece =
      as_whole n piece
      ∙ whole_step (idle Value is_blank n) (spelt n) (separator_of c n) (ends_part n) (left n) (text_none n)
      (λ t ts. blank_part n (left n (t ∷ ts)) (left_shaped n t ts)) piece
      ∙ ap (λ (l : List ℕ). text_of n (through (ends_part n) piece) ++ held 1 (separator_of c n) l) (sym (as_whole n (beyond (ends_part n) piece)))

  -- the same where the first token does not end the first part
  text_miss : (n : ℕ) (t : Token) (piece : List Token) → ends_part n t ≡ false
      → text_of (suc n) (t ∷ piece)
      ≡ text_of n (t ∷ through (ends_part n) piece) ++ held 1 (separator_of c n) (text_of (suc n) (beyond (ends_part n) piece))
  text_miss n t piece h =
      text_step n (t ∷ piece)
      ∙ ap₂ (λ (first rest : List Token). text_of n first ++ held 1 (separator_of c n) (text_of (suc n) rest))
      (through_miss (ends_part n) t piece h)
      (beyond_miss (ends_part n) refl h)

  -- a byte of a value
  pub text_byte : (n b from place : ℕ) (piece : List Token) → text_of n (byte b from place ∷ piece) ≡ spell_byte c b ++ text_of n piece
  unfolding text_of value_of bytes_of byte_of gather spell_value
  text_byte zero b from place piece = refl
  text_byte (suc n) b from place piece =
      let others : List ℕ = held 1 (separator_of c n) (text_of (suc n) (beyond (ends_part n) piece)) in
      text_miss n (byte b from place) piece (byte_within n b from place)
      ∙ ap (λ (l : List ℕ). l ++ others) (text_byte n b from place (through (ends_part n) piece))
      ∙ append_assoc (spell_byte c b) (text_of n (through (ends_part n) piece)) others
      ∙ ap (λ (l : List ℕ). spell_byte c b ++ l) (sym (text_step n piece))

  pub text_fault : (n place : ℕ) (piece : List Token) → text_of n (fault place ∷ piece) ≡ text_of n piece
  unfolding text_of value_of bytes_of byte_of gather spell_value
  text_fault zero place piece = refl
  text_fault (suc n) place piece =
      text_miss n (fault place) piece (fault_within n place)
      ∙ ap (λ (l : List ℕ). l ++ held 1 (separator_of c n) (text_of (suc n) (beyond (ends_part n) piece))) (text_fault n place (through (ends_part n) piece))
      ∙ sym (text_step n piece)

  -- a separator spells nothing of a value
  pub text_separator : (rank place : ℕ) → text_of 0 (separator rank place ∷ []) ≡ []
  unfolding text_of value_of bytes_of byte_of gather spell_value
  text_separator rank place = refl
