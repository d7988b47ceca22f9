-- Laws of stores that follow one another, and of the spelling of a byte. Assumes nothing.
use Rattle.std.specs.Prelude.{if◌then◌else◌}
use Prim.Native.Nat.{ℕ, suc, ◌+◌, ◌≤◌, ◌<◌}
use mathlib.Core.Path.{◌≡◌, refl, sym, ap, ap₂, ◌∙◌}
use mathlib.Core.Bool.{Bool, true, false}
use mathlib.Core.List.{List, [], ◌∷◌, ◌++◌, append_assoc}
use native.Mathlib.Nat.{add-zero, add-suc, suc-add}
use native.Mathlib.Numerals.{add-one}
use native.Mathlib.Omega.{arith}
use lib.ListN.{length, set, get_or, take, drop, length-append, drop_of_length-le}
use lib.Seq.{sets, sets-eq, drop-cons, drop-drop, set-set, length-sets}
use borrow.Rule.Slice.PartMut.{put_mid}
use mir.Val.{bool_byte}
use Rattle.characters.specs.declared.Characters.{Characters}
use Rattle.characters.specs.Characters.{is_service}
use Rattle.values.specs.Spelling.{spell_byte, spell_value}
use Rattle.lists.specs.Lists.{gather}
use Rattle.lists.proofs.Numbers.{drop_next}

module _ {A : Type 0} where
  -- two texts stored one after the other are one text stored
  pub sets_append : (l : List A) (i : ℕ) (xs ys : List A) → sets l i (xs ++ ys) ≡ sets (sets l i xs) (i + length xs) ys
  sets_append l i [] ys = ap (λ (k : ℕ). sets l k ys) (sym (add-zero i))
  sets_append l i (x ∷ xs) ys =
      sets_append (set l i x) (suc i) xs ys
      ∙ ap (λ (k : ℕ). sets (sets (set l i x) (suc i) xs) k ys) (suc-add i (length xs) ∙ sym (add-suc i (length xs)))

  -- the first of a text is stored, and the rest after it
  pub sets_first : (l : List A) (i : ℕ) (x : A) (xs : List A) → sets l i (x ∷ xs) ≡ sets (set l i x) (i + 1) xs
  sets_first l i x xs = ap (λ (k : ℕ). sets (set l i x) k xs) (sym (add-one i))

  -- what stands in another text from a place on is stored byte by byte
  pub rest_first : (l s : List A) (to at : ℕ) (d : A) → at < length s
      → sets l to (drop at s) ≡ sets (set l to (get_or s at d)) (to + 1) (drop (at + 1) s)
  rest_first l s to at d h =
      ap (sets l to) (drop-cons s at d h ∙ ap (λ (k : ℕ). get_or s at d ∷ drop k s) (sym (add-one at)))
      ∙ sets_first l to (get_or s at d) (drop (at + 1) s)

  -- a part of a text that holds another text now is that text stored there
  pub part_stored : (l ys : List A) (at k : ℕ) → length ys ≡ k → at + k ≤ length l → put_mid at k l ys ≡ sets l at ys
  part_stored l ys at k e h =
      ap (λ (n : ℕ). take at l ++ (ys ++ drop n (drop at l))) (sym e)
      ∙ ap (λ (r : List A). take at l ++ (ys ++ r)) (drop-drop (length ys) at l)
      ∙ sym (sets-eq ys l at (omega arith) ∙ append_assoc (take at l) ys (drop (at + length ys) l))

-- ---- a byte of a value

pub bit_most : (t : Bool) → bool_byte t ≤ 1
bit_most true = omega arith
bit_most false = omega arith

-- a service character is spelled with its release character in front
module _ (c : Characters) (b : ℕ) {service : Bool} (e : service ≡ is_service c b) where
  pub spelled_length : 1 + bool_byte service ≡ length (spell_byte c b)
  unfolding spell_byte
  spelled_length = step service ∙ ap (λ (t : Bool). length (if t then c.release ∷ b ∷ [] else b ∷ [])) e
    where
      step : (t : Bool) → 1 + bool_byte t ≡ length (if t then c.release ∷ b ∷ [] else b ∷ [])
      step true = refl
      step false = refl

  -- the byte is stored after the release character, or in its place
  pub byte_stored : (buffer : List ℕ) (at : ℕ) → set (set buffer at c.release) (at + bool_byte service) b ≡ sets buffer at (spell_byte c b)
  unfolding spell_byte
  byte_stored buffer at = step service ∙ ap (λ (t : Bool). sets buffer at (if t then c.release ∷ b ∷ [] else b ∷ [])) e
    where
      step : (t : Bool) → set (set buffer at c.release) (at + bool_byte t) b ≡ sets buffer at (if t then c.release ∷ b ∷ [] else b ∷ [])
      step true = ap (λ (k : ℕ). set (set buffer at c.release) k b) (add-one at)
      step false = ap (λ (k : ℕ). set (set buffer at c.release) k b) (add-zero at) ∙ set-set buffer at c.release b

-- ---- a value

module _ (c : Characters) (value : List ℕ) (i : ℕ) where
  -- what is left of it has its next byte in front, and is nothing at its end
  pub value_next : i < length value → spell_value c (drop i value) ≡ spell_byte c (get_or value i 0) ++ spell_value c (drop (i + 1) value)
  unfolding spell_value gather
  value_next h = ap (spell_value c) (drop_next value i h)

  pub value_done : length value ≤ i → spell_value c (drop i value) ≡ []
  unfolding spell_value gather
  value_done h = ap (spell_value c) (drop_of_length-le value h)

pub byte_most : (c : Characters) (b : ℕ) → length (spell_byte c b) ≤ 2
unfolding spell_byte
byte_most c b = step (is_service c b)
  where
    step : (t : Bool) → length (if t then c.release ∷ b ∷ [] else b ∷ []) ≤ 2
    step true = omega arith
    step false = omega arith

-- ---- one text stored after the other

-- a store changes no length
pub stored_length : (l₀ : List ℕ) {l₁ : List ℕ} (at : ℕ) (text : List ℕ) → l₁ ≡ sets l₀ at text → length l₁ ≡ length l₀
stored_length l₀ at text e = ap length e ∙ length-sets l₀ at text

-- a text stored after another one
pub stored_after : (l₀ : List ℕ) {l₁ l₂ : List ℕ} (at : ℕ) {next : ℕ} (front text : List ℕ) → l₁ ≡ sets l₀ at front → next ≡ at + length front
    → l₂ ≡ sets l₁ next text → l₂ ≡ sets l₀ at (front ++ text)
stored_after l₀ at front text p n q =
    q ∙ ap₂ (λ (l : List ℕ) (i : ℕ). sets l i text) p n ∙ sym (sets_append l₀ at front text)

-- the store of a whole text goes on after its front, which is stored
pub record Goes (l₀ l₁ : List ℕ) (from to : ℕ) (whole rest : List ℕ) : Type 0 where
  pub stored : sets l₀ from whole ≡ sets l₁ to rest
  pub fits : to + length rest ≤ length l₁
  pub as_long : length l₁ ≡ length l₀

module _ {l₀ l₁ : List ℕ} {from to : ℕ} {whole rest : List ℕ} (g : Goes l₀ l₁ from to whole rest) where
  -- a front of what is left fits
  pub front_fits : (front left : List ℕ) → rest ≡ front ++ left → to + length front ≤ length l₁
  front_fits front left w = omega (arith, g.fits, ap length w, length-append front left)

  -- it is stored: the rest of it is left
  pub goes_step : {l₂ : List ℕ} {next : ℕ} (front left : List ℕ) → rest ≡ front ++ left → l₂ ≡ sets l₁ to front → next ≡ to + length front
      → Goes l₀ l₂ from next whole left
  goes_step front left w e t =
      let same = stored_length l₁ to front e in
      record {
        stored = g.stored ∙ ap (sets l₁ to) w ∙ sym (stored_after l₁ to front left e t refl);
        fits = omega (arith, g.fits, ap length w, length-append front left);
        as_long = same ∙ g.as_long;
      }

  -- nothing is left: all is stored
  pub goes_done : rest ≡ [] → l₁ ≡ sets l₀ from whole
  goes_done e = sym (g.stored ∙ ap (sets l₁ to) e)
