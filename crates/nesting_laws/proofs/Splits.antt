-- Where a piece of a cut list begins: the pieces before it stand in front of it, and it is what follows up to the first that ends it;
-- also for pieces of pieces. Assumes nothing.
use Rattle.std.specs.Prelude.{if◌then◌else◌}
use Prim.Native.Nat.{ℕ, zero, suc}
use mathlib.Core.Path.{◌≡◌, refl, sym, ap, ap₂, ◌∙◌}
use mathlib.Core.Bool.{Bool, true, false, not, true≢false}
use mathlib.Core.List.{List, [], ◌∷◌, ◌++◌, nil≢cons, head-eq_of_cons-eq, tail-eq_of_cons-eq}
use mathlib.Core.Option.{some, none-ne-some, some-injective}
use Rattle.lists.specs.Lists.{is_empty, all, through, at, onto, cut}
use Rattle.lists.proofs.Texts.{and_both}
use Rattle.lists.proofs.Pieces.{None, cut_first}

module _ {A : Type 0} where
  -- n pieces, each with what ends it
  pub data Pieces (t : A → Bool) : ℕ → List A → Type 0 where
    nothing : Pieces t zero []
    ended : {x : A} {n : ℕ} {xs : List A} → t x ≡ true → Pieces t n xs → Pieces t (suc n) (x ∷ xs)
    within : {x : A} {n : ℕ} {xs : List A} → t x ≡ false → Pieces t (suc n) xs → Pieces t (suc n) (x ∷ xs)

  -- the piece of a number: that many pieces stand before it, and it begins the rest
  pub record Found (t : A → Bool) (xs : List A) (n : ℕ) (piece : List A) : Type 0 where
    pub before : List A
    pub rest : List A
    pub parts : xs ≡ before ++ rest
    pub pieces : Pieces t n before
    pub there : is_empty rest ≡ false
    pub begins : through t rest ≡ piece

  pub cut_found : (t : A → Bool) (xs : List A) (n : ℕ) (piece : List A) → at (cut t xs) n ≡ some piece → Found t xs n piece
  unfolding cut onto at is_empty
  cut_found t [] n piece e = absurd (none-ne-some piece e)
  cut_found t (x ∷ xs) zero piece e =
      record {
        before = [];
        rest = x ∷ xs;
        parts = refl;
        pieces = nothing;
        there = refl;
        begins = some-injective (through t (x ∷ xs)) piece (sym (ap (λ (l : List (List A)). at l zero) (cut_first t x xs)) ∙ e);
      }
  cut_found t (x ∷ xs) (suc n) piece e = step (t x) refl e (cut_found t xs n piece) (cut_found t xs (suc n) piece)
    where
      -- one more in front of the first piece leaves the later pieces where they are
      later : (pieces : List (List A)) → at (onto false x pieces) (suc n) ≡ at pieces (suc n)
      later [] = refl
      later (piece ∷ pieces) = refl

      more : (m : ℕ) → (f : Found t xs m piece) → Pieces t (suc n) (x ∷ f.before) → Found t (x ∷ xs) (suc n) piece
      more m f p =
          record {
            before = x ∷ f.before;
            rest = f.rest;
            parts = ap (λ (l : List A). x ∷ l) f.parts;
            pieces = p;
            there = f.there;
            begins = f.begins;
          }

      step : (b : Bool) → t x ≡ b → at (onto b x (cut t xs)) (suc n) ≡ some piece
          → (at (cut t xs) n ≡ some piece → Found t xs n piece)
          → (at (cut t xs) (suc n) ≡ some piece → Found t xs (suc n) piece)
          → Found t (x ∷ xs) (suc n) piece
      step true h k one two = let f = one k in more n f (ended h f.pieces)
      step false h k one two = let f = two (sym (later (cut t xs)) ∙ k) in more (suc n) f (within h f.pieces)

  -- ---- the same in the list that a piece was cut from

  -- what follows a part of the first piece begins the rest of the list, as it begins the rest of the piece
  pub record After (t : A → Bool) (xs before tail : List A) : Type 0 where
    pub rest : List A
    pub parts : xs ≡ before ++ rest
    pub without : None t before
    pub begins : through t rest ≡ tail

  pub through_after : (t : A → Bool) (xs before tail : List A) → through t xs ≡ before ++ tail → is_empty tail ≡ false
      → After t xs before tail
  unfolding through all is_empty
  through_after t xs [] tail e h = record { rest = xs; parts = refl; without = refl; begins = e }
  through_after t [] (y ∷ ys) tail e h = absurd (nil≢cons e)
  through_after t (x ∷ xs) (y ∷ ys) tail e h = step (t x) refl (tail-eq_of_cons-eq e) (λ k. through_after t xs ys tail k h)
    where
      full : (zs : List A) → [] ≡ zs ++ tail → ⊥
      full [] k = true≢false (ap is_empty k ∙ h)
      full (z ∷ zs) k = nil≢cons k

      step : (b : Bool) → t x ≡ b → (if b then [] else through t xs) ≡ ys ++ tail → (through t xs ≡ ys ++ tail → After t xs ys tail)
          → After t (x ∷ xs) (y ∷ ys) tail
      step true f k more = absurd (full ys k)
      step false f k more =
          let m = more k in
          let same : x ≡ y = head-eq_of_cons-eq e in
          record {
            rest = m.rest;
            parts = ap₂ ◌∷◌ same m.parts;
            without = and_both (not (t y)) (all (λ z. not (t z)) ys) (ap not (ap t (sym same) ∙ f)) m.without;
            begins = m.begins;
          }

  pub through_there : (t : A → Bool) (xs : List A) → is_empty (through t xs) ≡ is_empty xs
  unfolding through is_empty
  through_there t [] = refl
  through_there t (x ∷ xs) = refl
