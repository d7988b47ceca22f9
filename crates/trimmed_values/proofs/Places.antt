-- The place of a value by element, repeat and component, and that the code's tests say whether trimming leaves it. Assumes nothing.
use Rattle.std.specs.Prelude.{if◌then◌else◌, Option as Perhaps, Some, None}
use Prim.Native.Nat.{ℕ, zero, suc, ◌+◌, ◌-◌, ◌≤◌, ◌<◌}
use mathlib.Core.Path.{◌≡◌, refl, sym, ap, ap₂, subst, ◌∙◌}
use mathlib.Core.Bool.{Bool, true, false, not, ◌&&◌, false≢true}
use mathlib.Core.List.{List, [], ◌∷◌, cons≢nil}
use mathlib.Core.Option.{none, some}
use native.Mathlib.Omega.{arith}
use native.Mathlib.Decide.{dec_le}
use native.Mathlib.Nat.{lt_of_not-le}
use lib.ListN.{length}
use lib.Dec.{ltb}
use borrow.Author.Tests.{lt-ltb, le-ltb, not-true, not-false}
use Rattle.lists.specs.Lists.{is_empty, through, gather}
use Rattle.characters.specs.declared.Characters.{Characters}
use Rattle.values.specs.Tokens.{Token, ends, place_of, start, tokens_at}
use Rattle.values.specs.Values.{bytes_of, end_place, value_of}
use Rattle.values.specs.Trimming.{trimmed, value_at}
use Rattle.values.proofs.Steps.{at_end}
use Rattle.scanner.specs.Scan.{segment_at}
use Rattle.scanner.proofs.Segments.{stands}
use Rattle.elements.specs.Elements.{ElementAt, RepeatAt, ComponentAt, element_from, repeat_from, component_from, holds_byte}
use Rattle.elements.specs.Values.{value_end, EndsAt}
use Rattle.values.specs.declared.Span.{Span}
use Rattle.trimmed_values.specs.Trimmed.{stays_in, repeat_in, value_from, repeat_stays, value_stays, placed, Inside}
use Rattle.trimmed_values.proofs.Ends.{Whole, from_whole, value_ended}
use Rattle.trimmed_values.proofs.Trimmed.{trimmed_value}

-- ---- what stays

nothing_stays : (rank number : ℕ) → stays_in rank number [] ≡ false
unfolding stays_in holds_byte through bytes_of gather is_empty
nothing_stays rank zero = refl
nothing_stays rank (suc n) = refl

module _ (c : Characters) (s : List ℕ) (from rank number : ℕ) where
  -- the first stays where it begins in the input
  pub stays_first : number ≡ 0 → ltb from (length s) ≡ stays_in rank number (tokens_at c s from)
  unfolding stays_in is_empty
  stays_first e =
      elim (dec_le (length s) from) [
        | yes h ↦ le-ltb from (length s) h ∙ sym (ap not (ap is_empty (at_end c s from h)))
        | no h ↦ inside (lt_of_not-le h)
      ]
      ∙ ap (λ (n : ℕ). stays_in rank n (tokens_at c s from)) (sym e)
    where
      inside : from < length s → ltb from (length s) ≡ not (is_empty (tokens_at c s from))
      inside h = let (t, ts, d, p) = stands c s from h in lt-ltb from (length s) h ∙ sym (ap not (ap is_empty d))

  -- any other stays where a byte stands from it on
  pub stays_later : (number ≡ 0 → ⊥) → holds_byte rank (tokens_at c s from) ≡ stays_in rank number (tokens_at c s from)
  unfolding stays_in
  stays_later n = step number n
    where
      step : (k : ℕ) → (k ≡ 0 → ⊥) → holds_byte rank (tokens_at c s from) ≡ stays_in rank k (tokens_at c s from)
      step zero h = absurd (h refl)
      step (suc k) h = refl

  -- what stays begins in the input
  stays_inside : stays_in rank number (tokens_at c s from) ≡ true → from < length s
  stays_inside e =
      elim (dec_le (length s) from) [
        | yes h ↦ absurd (false≢true (sym (nothing_stays rank number) ∙ ap (stays_in rank number) (sym (at_end c s from h)) ∙ e))
        | no h ↦ lt_of_not-le h
      ]

-- ---- the value

module _ (c : Characters) (s : List ℕ) where
  -- the first token from a place on stands there
  token_place : (at : ℕ) (t : Token) (ts : List Token) → tokens_at c s at ≡ t ∷ ts → place_of t ≡ at
  unfolding start
  token_place at t ts e =
      elim (dec_le (length s) at) [
        | yes h ↦ absurd (cons≢nil (sym e ∙ at_end c s at h))
        | no h ↦ inside (lt_of_not-le h)
      ]
    where
      inside : at < length s → place_of t ≡ at
      inside h = let (u, us, d, p) = stands c s at h in ap start (sym e ∙ d) ∙ p

  module _ (at end : ℕ) (whole : Whole (tokens_at c s at)) (h : at < length s) (l : EndsAt c s at end) where
    -- a value begins where its first token stands, and ends where what ends it stands
    value_place : Some (record { offset = at; length = end - at }) ≡ placed (some (value_of (through (ends 3) (tokens_at c s at))))
    unfolding placed value_of start through
    value_place =
        let (t, ts, e, p) = stands c s at h in
        let (u, us, d, q) = value_ended t ts (subst Whole e whole) in
        let begun : start (through (ends 3) (tokens_at c s at)) ≡ at = ap (λ (m : List Token). start (through (ends 3) m)) e ∙ p in
        let ended : end_place (through (ends 3) (tokens_at c s at)) ≡ end =
        ap (λ (m : List Token). end_place (through (ends 3) m)) e ∙ q ∙ token_place end u us (l.0 ∙ ap value_end e ∙ d)
        in
        ap₂ (λ (o z : ℕ). Some (record { offset = o; length = z - o })) (sym begun) (sym ended)

    value_inside : at + (end - at) ≤ length s
    value_inside = omega (arith, l.1, l.2 (omega arith))

-- ---- the answer, by what stays

module _ (c : Characters) (s : List ℕ) (start element repeat component : ℕ) {from : ℕ} (e : ElementAt c s start element from) where
  abbrev answer : Perhaps Span
  answer = placed (value_at (trimmed (segment_at c s start)) element repeat component)

  abbrev here : List Token
  here = tokens_at c s start

  -- by whether trimming leaves the value
  answered : {b : Bool} → value_stays element repeat component here ≡ b
      → answer ≡ placed (if b then some (value_of (through (ends 3) (value_from element repeat component here))) else none)
  unfolding segment_at
  answered h =
      ap placed
      (trimmed_value here element repeat component
      ∙ ap (λ (t : Bool). if t then some (value_of (through (ends 3) (value_from element repeat component here))) else none) h)

  -- the element does not stay
  pub element_gone : {r : Bool} → r ≡ stays_in 0 element (tokens_at c s from) → not r ≡ true → None ≡ answer
  unfolding placed
  element_gone {r} x n =
      sym
      (answered
      (ap (λ (t : Bool). t && stays_in 1 repeat (repeat_in element repeat here) && stays_in 2 component (value_from element repeat component here))
      (ap (stays_in 0 element) (sym e.0) ∙ sym x ∙ not-true r n)))

  module _ (begins : ℕ) (d : RepeatAt c s from repeat begins) {q : Bool} (x : q ≡ stays_in 0 element (tokens_at c s from)) (y : not q ≡ false)
      {r : Bool} (z : r ≡ stays_in 1 repeat (tokens_at c s begins)) where
    -- the repeat begins at that place
    repeat_place : tokens_at c s begins ≡ repeat_in element repeat here
    repeat_place = d.0 ∙ ap (repeat_from repeat) e.0

    -- the element stays
    repeat_inner : repeat_stays element repeat here ≡ r
    repeat_inner =
        ap₂ ◌&&◌ (ap (stays_in 0 element) (sym e.0) ∙ sym x ∙ not-false q y) (ap (stays_in 1 repeat) (sym repeat_place) ∙ sym z)

    -- the repeat does not
    pub repeat_gone : not r ≡ true → None ≡ answer
    unfolding placed
    repeat_gone n =
        sym
        (answered
        (ap (λ (t : Bool). t && stays_in 2 component (value_from element repeat component here)) (repeat_inner ∙ not-true r n)))

    module _ (at : ℕ) (f : ComponentAt c s begins component at) (n : not r ≡ false) {v : Bool}
        (g : v ≡ stays_in 2 component (tokens_at c s at)) where
      -- the value begins at that place
      value_begins : tokens_at c s at ≡ value_from element repeat component here
      value_begins = f.0 ∙ ap (component_from component) repeat_place

      -- the repeat stays too
      value_inner : value_stays element repeat component here ≡ v
      value_inner = ap₂ ◌&&◌ (repeat_inner ∙ not-false r n) (ap (stays_in 2 component) (sym value_begins) ∙ sym g)

      -- the component does not
      pub component_gone : not v ≡ true → None ≡ answer
      unfolding placed
      component_gone m = sym (answered (value_inner ∙ not-true v m))

      -- it does too
      pub value_found : (end : ℕ) → Whole here → not v ≡ false → EndsAt c s at end
          → (Some (record { offset = at; length = end - at }) ≡ answer) × Inside s (Some (record { offset = at; length = end - at }))
      value_found end w m l =
          let h = stays_inside c s at 2 component (sym g ∙ not-false v m) in
          let whole = subst Whole (sym value_begins)
          (from_whole (ends 2) (ends 3) component (repeat_in element repeat here)
          (from_whole (ends 1) (ends 2) repeat (element_from element here) (from_whole (ends 0) (ends 1) element here w))) in (
            value_place c s at end whole h l
                ∙ ap (λ (ts : List Token). placed (some (value_of (through (ends 3) ts)))) value_begins
                ∙ sym (answered (value_inner ∙ not-false v m)),
            value_inside c s at end whole h l,
          )
