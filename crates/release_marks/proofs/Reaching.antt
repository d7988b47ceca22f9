-- What is reached, byte by byte, where it is known of each byte whether it is released; and of many bytes at once. Assumes nothing.
use Prim.Native.Nat.{ℕ, zero, suc, ◌+◌, ◌-◌, ◌≤◌, ◌<◌}
use mathlib.Core.Path.{◌≡◌, refl, sym, ap, ap₂, subst, ◌∙◌}
use mathlib.Core.Bool.{Bool, true, false, not, ◌&&◌, ◌||◌, false≢true}
use mathlib.Core.List.{List}
use native.Mathlib.Omega.{arith}
use native.Mathlib.Decide.{dec_le}
use native.Mathlib.Nat.{lt_of_not-le}
use lib.Dec.{eqb}
use lib.ListN.{get_or}
use mir.Val.{bool_byte}
use borrow.Author.Tests.{not-false}
use Rattle.characters.specs.declared.Characters.{Characters}
use Rattle.characters.specs.declared.Role.TheVariants.{Release}
use Rattle.characters.specs.Characters.{role, is_service}
use Rattle.storing.proofs.Stores.{bit_most}
use Rattle.release_marks.specs.Marks.{marked, marked_at, misread, closed_at, Reached, closed, opened}

-- ---- a byte that is not misread

module _ (c : Characters) (a : ℕ) where
  -- after a released byte none is released, and it is a service character
  released_served : (next : Bool) → misread c true next a ≡ false → (next ≡ false) × (is_service c a ≡ true)
  unfolding misread
  released_served true f = absurd (false≢true (sym f))
  released_served false f = (refl, not-false (is_service c a) f)

  -- after another byte one is released exactly if that byte is the release character
  opens_next : (next : Bool) → misread c false next a ≡ false → eqb a c.release ≡ next
  unfolding misread
  opens_next next f = step (eqb a c.release) next f
    where
      step : (t u : Bool) → (((u && not t) || (t && not u)) || false) ≡ false → t ≡ u
      step true true h = refl
      step true false h = absurd (false≢true (sym h))
      step false true h = absurd (false≢true (sym h))
      step false false h = refl

-- a byte that is taken for released is another than one that is not
pub marked_later : (c : Characters) (s : List ℕ) (base count : ℕ) → marked_at c s base ≡ false → bool_byte (marked_at c s (base + count)) ≤ count
marked_later c s base count none =
    elim (dec_le 1 count) [
      | yes k ↦ omega (arith, bit_most (marked_at c s (base + count)))
      | no k ↦
          let there : base + count ≡ base = omega (arith, lt_of_not-le k) in
          let bit : bool_byte (marked_at c s (base + count)) ≡ 0 = ap (λ (x : ℕ). bool_byte (marked_at c s x)) there ∙ ap bool_byte none in
          omega arith
    ]

module _ (Holds : ℕ → Type 0) (c : Characters) (s : List ℕ) where
  -- one byte more, of which it is known whether it is released: it is passed alone, or with the release character before it
  pub reached_next : (now next : Bool) (p : ℕ) → misread c now next (get_or s p 0) ≡ false
      → (eqb (get_or s p 0) c.release ≡ true → role c (get_or s p 0) ≡ Release)
      → (now ≡ false → eqb (get_or s p 0) c.release ≡ false → Holds p → Holds (p + 1))
      → ((at : ℕ) → p ≡ at + 1 → role c (get_or s at 0) ≡ Release → is_service c (get_or s p 0) ≡ true → Holds at → Holds (p + 1))
      → Reached Holds c s now p → Reached Holds c s next (p + 1)
  reached_next true next p f opens alone together (opened {at} h e r) =
      let (none, served) = released_served c (get_or s p 0) next f in
      subst (λ (t : Bool). Reached Holds c s t (p + 1)) (sym none) (closed (together at e r served h))
  reached_next false true p f opens alone together (closed h) = opened h refl (opens (opens_next c (get_or s p 0) true f))
  reached_next false false p f opens alone together (closed h) = closed (alone refl (opens_next c (get_or s p 0) false f) h)

  -- ---- many bytes

  -- the byte four places on is reached
  abbrev pub There : ℕ → Type 0
  There at = Reached Holds c s (marked_at c s at) (at + 1 + 1 + 1 + 1)

  -- so is the one after so many, where each reaches the next one
  pub reached_all : (base count : ℕ) → marked_at c s base ≡ false → Holds (base + 1 + 1 + 1 + 1)
      → ((k : ℕ) → k < count → There (base + k) → There (base + k + 1)) → There (base + count)
  reached_all base zero none h next =
      let there : base ≡ base + 0 = omega arith in
      subst There there (subst (λ (t : Bool). Reached Holds c s t (base + 1 + 1 + 1 + 1)) (sym none) (closed h))
  reached_all base (suc count) none h next =
      let there : base + count + 1 ≡ base + suc count = omega arith in
      subst There there (next count (omega arith) (reached_all base count none h (λ k l. next k (omega arith))))

-- what holds from one place to those passed holds up to where `closed` says: a byte that is not released, or the release character before it
pub closed_holds : (Holds : ℕ → ℕ → Type 0) (c : Characters) (s : List ℕ) (base count : ℕ) {from r : ℕ} → base + 4 ≡ from → marked_at c s base ≡ false
    → r ≡ closed_at c s base count → Reached (Holds (base + 4)) c s (marked_at c s (base + count)) (base + count + 1 + 1 + 1 + 1)
    → Holds from (from + r)
closed_holds Holds c s base count {from} {r} e none q reached =
    subst (λ (f : ℕ). Holds f (f + r)) e (step (marked_at c s (base + count)) (marked_later c s base count none) q reached)
  where
    step : (here : Bool) → bool_byte here ≤ count → r ≡ count - bool_byte here → Reached (Holds (base + 4)) c s here (base + count + 1 + 1 + 1 + 1)
        → Holds (base + 4) (base + 4 + r)
    step true l k (opened {at} h d o) = let there : at ≡ base + 4 + r = omega arith in subst (Holds (base + 4)) there h
    step false l k (closed h) = let there : base + count + 1 + 1 + 1 + 1 ≡ base + 4 + r = omega arith in subst (Holds (base + 4)) there h

-- each of five bytes at a place of its own
pub asked_there : (c : Characters) (s : List ℕ) (asked : Bool → Bool → ℕ → Bool) (w : ℕ) {x y z a : ℕ} {found this next : Bool} → x ≡ w + 1
    → y ≡ w + 1 + 1 → z ≡ w + 1 + 1 + 1 → a ≡ w + 1 + 1 + 1 + 1 → found ≡ asked this next (get_or s a 0)
    → this ≡ marked c (get_or s z 0) (get_or s y 0) (get_or s x 0) (get_or s w 0) → next ≡ marked c (get_or s a 0) (get_or s z 0) (get_or s y 0) (get_or s x 0)
    → found ≡ asked (marked_at c s w) (marked_at c s (w + 1)) (get_or s (w + 1 + 1 + 1 + 1) 0)
asked_there c s asked w {x} {y} {z} {a} ex ey ez ea f t u =
    f ∙ ap₂ (λ (t u : Bool). asked t u (get_or s a 0)) t u
    ∙ ap₂ (λ (x y : ℕ). at_places x y z a) ex ey
    ∙ ap₂ (at_places (w + 1) (w + 1 + 1)) ez ea
  where
    at_places : (x y z a : ℕ) → Bool
    at_places x y z a =
        asked (marked c (get_or s z 0) (get_or s y 0) (get_or s x 0) (get_or s w 0)) (marked c (get_or s a 0) (get_or s z 0) (get_or s y 0) (get_or s x 0))
        (get_or s a 0)
