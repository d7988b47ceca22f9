-- Positions in lists of segments: what a map does to what stands at one, and which piece of the tokens stands there. Assumes nothing.
use Prim.Native.Nat.{ℕ, ◌-◌}
use mathlib.Core.Path.{◌≡◌, refl, sym, ap, subst, ◌∙◌}
use mathlib.Core.Bool.{true}
use mathlib.Core.List.{List, map}
use mathlib.Core.Option
use mathlib.Core.Option.{Option, none, some, none-ne-some}
use lib.Dec.{leb}
use native.Mathlib.Omega.{arith}
use Rattle.lists.specs.Lists.{at, cut, maybe}
use Rattle.lists.proofs.Texts.{and_right}
use Rattle.nesting_laws.proofs.Positions.{Place, At, at_map, at_mapped, at_trim, PieceAt, at_nested}
use Rattle.values.specs.Tokens.{Token, ends, ends_part, segments}
use Rattle.values.specs.Values.{Value, value_of, values_of, repeats_of, elements_of}
use Rattle.values.specs.Trimming.{trim_repeat, trim_element, trim_segment, is_blank, trimmed, value_at}
use Rattle.values.proofs.Ends.{ends_more}
use Rattle.round_trip_laws.specs.Trips.{standing_at}

-- what is found after a map is what the map makes of what is found before it
found_map : {A B C D : Type 0} (f : A → B) (g : B → Option D) (k : A → Option C) (h : C → D) → ((x : A) → g (f x) ≡ Option.map h (k x))
    → (xs : List A) (n : ℕ) → maybe none g (at (map f xs) n) ≡ Option.map h (maybe none k (at xs n))
unfolding maybe
found_map {A} f g k h e xs n = ap (maybe none g) (at_map f xs n) ∙ step (at xs n)
  where
    step : (o : Option A) → maybe none g (Option.map f o) ≡ Option.map h (maybe none k o)
    step none = refl
    step (some x) = e x

module _ {A B : Type 0} (f : A → B) (lists : List (List (List (List A)))) (segment element repeat component : ℕ) where
  pub standing_map : standing_at (map (map (map (map f))) lists) segment element repeat component
      ≡ Option.map f (standing_at lists segment element repeat component)
  unfolding standing_at value_at
  standing_map =
      found_map (map (map (map f))) (λ g. value_at g element repeat component) (λ g. value_at g element repeat component) f
      (λ g. found_map (map (map f)) (λ e. maybe none (λ r. at r component) (at e repeat)) (λ e. maybe none (λ r. at r component) (at e repeat)) f
      (λ e. found_map (map f) (λ r. at r component) (λ r. at r component) f (λ r. at_map f r component) e repeat) g element)
      lists
      segment

-- what ends a part ends a value
pub ends_value_lem : (n : ℕ) (t : Token) → ends_part n t ≡ true → ends_part 0 t ≡ true
ends_value_lem n t h = ends_more (3 - n) 3 (omega arith) t (and_right (leb n 3) (ends (3 - n) t) h)

-- the position by depth
abbrev pub spot_at : (segment element repeat component : ℕ) → Place 4
spot_at segment element repeat component = (segment, (element, (repeat, (component, tt))))

module _ (segment element repeat component : ℕ) where
  -- the position in a segment
  abbrev inside : Place 3
  inside = (element, (repeat, (component, tt)))

  standing_at_lem : {A : Type 0} (lists : List (List (List (List A)))) (v : A) → standing_at lists segment element repeat component ≡ some v
      → At A 4 (spot_at segment element repeat component) lists v
  unfolding standing_at value_at maybe
  standing_at_lem {A} lists v k =
      let g = found (λ g. value_at g element repeat component) (at lists segment) k in
      let e = found (λ e. maybe none (λ r. at r component) (at e repeat)) (at g.0 element) g.2 in
      let r = found (λ r. at r component) (at e.0 repeat) e.2 in
      (g.0, g.1, (e.0, e.1, (r.0, r.1, (v, r.2, refl))))
    where
      found : {B : Type 0} (f : B → Option A) (o : Option B) → maybe none f o ≡ some v → (x : B) × (o ≡ some x) × (f x ≡ some v)
      found f none h = absurd (none-ne-some v h)
      found f (some x) h = (x, refl, h)

  -- what stands at a position of the trimmed segments was read from the piece at that position of the tokens
  pub standing_piece : (ts : List Token) (v : Value) → standing_at (map trimmed (segments ts)) segment element repeat component ≡ some v
      → (piece : List Token) × PieceAt ends_part 4 (spot_at segment element repeat component) ts piece × (value_of piece ≡ v)
  unfolding segments trimmed trim_segment trim_element trim_repeat elements_of repeats_of values_of
  standing_piece ts v k =
      let h = standing_at_lem (map trimmed (segments ts)) v k in
      let m = at_mapped trimmed (cut (ends 0) ts) segment h.0 h.1 in
      let left : At Value 3 inside (trimmed m.0) v =
      subst (λ (g : List (List (List Value))). At Value 3 inside g v) (sym m.2) h.2 in
      let q = at_nested ends_part value_of 3 inside m.0 v (at_trim Value is_blank 3 inside (elements_of m.0) v left) in
      (q.0, (m.0, m.1, q.1), q.2)
