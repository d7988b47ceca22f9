-- Bytes that stand at a place of a text or do not, and the numbers of a line. Assumes nothing.
use Prim.Native.Nat.{ℕ, ◌+◌, ◌≤◌, ◌<◌}
use mathlib.Core.Path.{◌≡◌, refl, sym, ap, ap₂, ◌∙◌}
use mathlib.Core.Bool.{Bool, true, false, ◌&&◌, and-true, and-false}
use mathlib.Core.List.{List, [], ◌∷◌, ◌++◌, append_assoc}
use native.Mathlib.Omega.{arith}
use lib.Dec.{eqb}
use lib.ListN.{length, get_or, drop, drop_of_length-le, length-append, length-drop}
use lib.Seq.{sets}
use borrow.Author.Tests.{eq-eqb, ne_eqb}
use Rattle.std.specs.Prelude.{Option, Some, None}
use Rattle.lists.specs.Lists.{begins}
use Rattle.lists.proofs.Numbers.{drop_next}
use Rattle.values.specs.Spelling.{Bytes}
use Rattle.stage_opening.proofs.Beginnings.{begins_length, begins_at, stands_byte}
use Rattle.storing.proofs.Stores.{stored_after}
use Rattle.columns.specs.Lines.{tab, line_feed, in_decimal, line, value_line}
use Rattle.column_laws.specs.declared.Position.{Position}
use Rattle.column_laws.specs.Positions.{line_at}
use Rattle.column_laws.proofs.Decimals.{few_digits}
use Rattle.column_lines.specs.Numbers.{cell, numbers_at, Ends}

-- ---- how long the numbers are

pub cell_length : (n : ℕ) → length (cell n) ≡ length (in_decimal n) + 1
unfolding cell
cell_length n = length-append (in_decimal n) (tab ∷ [])

pub numbers_length : (p : Position)
    → length (numbers_at p) ≡ length (in_decimal p.segment) + length (in_decimal p.element) + length (in_decimal p.repeat) + length (in_decimal p.component) + 4
unfolding numbers_at
numbers_length p =
    simp (length-append, cell_length) (omega arith)

pub numbers_some : (p : Position) → 1 ≤ length (numbers_at p)
numbers_some p = omega (arith, numbers_length p)

-- a position of four numbers of 64 bits
pub numbers_most : (p : Position) → p.segment < 18446744073709551616 → p.element < 18446744073709551616
    → p.repeat < 18446744073709551616 → p.component < 18446744073709551616 → length (numbers_at p) ≤ 84
numbers_most p s e r c =
    omega (arith, numbers_length p, few_digits p.segment s, few_digits p.element e, few_digits p.repeat r, few_digits p.component c)

-- a line is its numbers, its value and a line feed
pub line_numbers : (p : Position) (value : Bytes) → line_at p value ≡ numbers_at p ++ (value ++ line_feed ∷ [])
unfolding value_line line numbers_at cell
line_numbers p value = sym (simp append_assoc)

-- ---- bytes in front of a text

pub begins_short : (ps xs : Bytes) → length xs < length ps → begins ps xs ≡ false
begins_short ps xs h = step (begins ps xs) refl
  where
    step : (t : Bool) → begins ps xs ≡ t → t ≡ false
    step true e = absurd (omega (arith, begins_length ps xs e))
    step false e = refl

-- byte by byte: one differs, or the others are left, or none is left
module _ (ps xs : Bytes) (i : ℕ) where
  module _ (h : i < length ps) (k : i < length xs) where
    begins_one : begins (drop i ps) (drop i xs) ≡ (eqb (get_or ps i 0) (get_or xs i 0) && begins (drop (i + 1) ps) (drop (i + 1) xs))
    unfolding begins
    begins_one = ap₂ begins (drop_next ps i h) (drop_next xs i k)

    pub begins_differs : (get_or xs i 0 ≡ get_or ps i 0 → ⊥) → begins (drop i ps) (drop i xs) ≡ false
    begins_differs d =
        begins_one
        ∙ ap (λ (t : Bool). t && begins (drop (i + 1) ps) (drop (i + 1) xs)) (ne_eqb (get_or ps i 0) (get_or xs i 0) (λ e. d (sym e)))

    pub begins_next : get_or xs i 0 ≡ get_or ps i 0 → begins (drop i ps) (drop i xs) ≡ begins (drop (i + 1) ps) (drop (i + 1) xs)
    begins_next d =
        begins_one
        ∙ ap (λ (t : Bool). t && begins (drop (i + 1) ps) (drop (i + 1) xs)) (eq-eqb (get_or ps i 0) (get_or xs i 0) (sym d))

  pub begins_done : length ps ≤ i → begins (drop i ps) (drop i xs) ≡ true
  unfolding begins
  begins_done h = ap (λ (l : Bytes). begins l (drop i xs)) (drop_of_length-le ps h)

-- ---- bytes at a place

module _ (bytes : Bytes) (s : List ℕ) (place : ℕ) where
  -- where they stand they are in the text
  pub ends_within : {end : ℕ} → Ends bytes s place (Some end) → place ≤ length s → end ≤ length s
  ends_within h l = omega (arith, h.1, begins_length bytes (drop place s) h.0, length-drop place s)

-- ---- one after the other

module _ (first rest : Bytes) (s : List ℕ) (place : ℕ) where
  pub first_off : begins first (drop place s) ≡ false → begins (first ++ rest) (drop place s) ≡ false
  first_off h =
      begins_at s place first rest ∙ ap (λ (t : Bool). t && begins rest (drop (place + length first) s)) h

  then_rest : {next : ℕ} {t : Bool} → begins first (drop place s) ≡ true → next ≡ place + length first
      → begins rest (drop next s) ≡ t → begins (first ++ rest) (drop place s) ≡ t
  then_rest h e r =
      begins_at s place first rest
      ∙ ap₂ (λ (u : Bool) (n : ℕ). u && begins rest (drop n s)) h (sym e)
      ∙ r

  pub ends_then : {next : ℕ} → Ends first s place (Some next) → (o : Option ℕ) → Ends rest s next o → Ends (first ++ rest) s place o
  ends_then h None r = then_rest h.0 h.1 r
  ends_then h (Some end) r = (then_rest h.0 h.1 r.0, omega (arith, h.1, r.1, length-append first rest))

-- a number and its tab, of which the tab would stand at `end`
module _ (n : ℕ) (s : List ℕ) (place : ℕ) {end : ℕ} (e : end ≡ place + length (in_decimal n)) (h : end < length s) where
  cell_stands : begins (cell n) (drop place s) ≡ (begins (in_decimal n) (drop place s) && eqb tab (get_or s end 0))
  unfolding cell
  cell_stands =
      begins_at s place (in_decimal n) (tab ∷ [])
      ∙ ap (λ (k : ℕ). begins (in_decimal n) (drop place s) && begins (tab ∷ []) (drop k s)) (sym e)
      ∙ ap (λ (t : Bool). begins (in_decimal n) (drop place s) && t) (stands_byte s end tab h)

  pub no_tab : (get_or s end 0 ≡ tab → ⊥) → begins (cell n) (drop place s) ≡ false
  no_tab d =
      cell_stands
      ∙ ap (λ (t : Bool). begins (in_decimal n) (drop place s) && t) (ne_eqb tab (get_or s end 0) (λ q. d (sym q)))
      ∙ and-false (begins (in_decimal n) (drop place s))

  pub with_tab : {t : Bool} → get_or s end 0 ≡ tab → begins (in_decimal n) (drop place s) ≡ t → begins (cell n) (drop place s) ≡ t
  with_tab d q =
      cell_stands
      ∙ ap (λ (t : Bool). begins (in_decimal n) (drop place s) && t) (eq-eqb tab (get_or s end 0) (sym d))
      ∙ and-true (begins (in_decimal n) (drop place s))
      ∙ q

-- ---- the four numbers

pub numbers_cells : (p : Position)
    → length (numbers_at p) ≡ length (cell p.segment) + length (cell p.element) + length (cell p.repeat) + length (cell p.component)
unfolding numbers_at
numbers_cells p = simp length-append (omega arith)

-- one after the other they are stored, and one is past them
pub numbers_put : (p : Position) (b₀ : List ℕ) (place : ℕ) {b₁ b₂ b₃ b₄ : List ℕ} {element repeat component value : ℕ}
    → b₁ ≡ sets b₀ place (cell p.segment) → element ≡ place + length (cell p.segment)
    → b₂ ≡ sets b₁ element (cell p.element) → repeat ≡ element + length (cell p.element)
    → b₃ ≡ sets b₂ repeat (cell p.repeat) → component ≡ repeat + length (cell p.repeat)
    → b₄ ≡ sets b₃ component (cell p.component) → value ≡ component + length (cell p.component)
    → (b₄ ≡ sets b₀ place (numbers_at p)) × (value ≡ place + length (numbers_at p))
unfolding numbers_at
numbers_put p b₀ place {b₁} {b₂} {b₃} {b₄} {element} {repeat} {component} {value} u a v b w c x d =
    let repeats : Bytes = cell p.repeat ++ cell p.component in
    let elements : Bytes = cell p.element ++ repeats in (
      stored_after b₀ place (cell p.segment) elements u a
          (stored_after b₁ element (cell p.element) repeats v b (stored_after b₂ repeat (cell p.repeat) (cell p.component) w c x)),
      omega (arith, numbers_cells p, a, b, c, d),
    )
