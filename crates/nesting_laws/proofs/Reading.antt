-- What is read of tokens, at any depth: what one token more in front adds to it. Assumes nothing.
use Prim.Native.Nat.{ℕ, zero, suc}
use mathlib.Core.Path.{◌≡◌, refl, ap, fun_ext, ◌∙◌}
use mathlib.Core.Bool.{Bool, true, false, not, ◌&&◌, and-true, and_assoc, false≢true}
use mathlib.Core.List.{List, [], ◌∷◌, map, map-map}
use Rattle.lists.specs.Lists.{is_empty, all, onto, cut}
use Rattle.lists.proofs.Texts.{and_right, all_mapped, all_map}
use Rattle.nesting.specs.Nesting.{Nest, shaped, every, mapped, nested}
use Rattle.nesting_laws.proofs.Shape.{all_shaped}

-- what is read may be mapped before or after it is nested
pub nested_mapped : {T A B : Type 0} (ends : ℕ → T → Bool) (read : List T → A) (f : A → B) (n : ℕ) (ts : List T)
    → mapped f n (nested ends read n ts) ≡ nested ends (λ piece. f (read piece)) n ts
nested_mapped ends read f zero ts = refl
nested_mapped ends read f (suc n) ts =
    map-map (mapped f n) (nested ends read n) (cut (ends n) ts)
    ∙ ap (λ (g : List _ → Nest _ n). map g (cut (ends n) ts)) (fun_ext (nested_mapped ends read f n))

-- a test of all is a test of all pieces
all_cut : {T : Type 0} (t p : T → Bool) (xs : List T) → all (all p) (cut t xs) ≡ all p xs
unfolding cut onto all
all_cut t p [] = refl
all_cut {T} t p (x ∷ xs) = step (t x) (cut t xs) ∙ ap (λ (b : Bool). p x && b) (all_cut t p xs)
  where
    step : (b : Bool) (pieces : List (List T)) → all (all p) (onto b x pieces) ≡ (p x && all (all p) pieces)
    step true pieces = ap (λ (b : Bool). b && all (all p) pieces) (and-true (p x))
    step false [] = and-true (p x && true)
    step false (piece ∷ pieces) = and_assoc (p x) (all p piece) (all (all p) pieces)

-- f done to the first, or to `none` put in front: where what is added ends its part, or where there is no part
abbrev pub pushed : {B : Type 0} → B → Bool → (B → B) → List B → List B
pushed none true f xs = f none ∷ xs
pushed none false f [] = f none ∷ []
pushed none false f (x ∷ xs) = f x ∷ xs

-- the pieces as g makes them, where one more in front of a piece is f done to what g makes of it
pub cut_pushed : {A B : Type 0} (t : A → Bool) (none : B) (f : B → B) (x : A) (xs : List A) (g : List A → B) → g [] ≡ none
    → ((piece : List A) → g (x ∷ piece) ≡ f (g piece)) → map g (cut t (x ∷ xs)) ≡ pushed none (t x) f (map g (cut t xs))
unfolding cut onto
cut_pushed t none f x xs g e h = step (t x) (cut t xs)
  where
    alone : g (x ∷ []) ≡ f none
    alone = h [] ∙ ap f e

    step : (b : Bool) (pieces : List (List _)) → map g (onto b x pieces) ≡ pushed none b f (map g pieces)
    step true pieces = ap (λ (y : _). y ∷ map g pieces) alone
    step false [] = ap (λ (y : _). y ∷ []) alone
    step false (piece ∷ pieces) = ap (λ (y : _). y ∷ map g pieces) (h piece)

-- a part of which nothing was read yet
abbrev pub bare : {A : Type 0} → A → (n : ℕ) → Nest A n
bare start zero = start
bare start (suc n) = []

module _ {T A : Type 0} (ends : ℕ → T → Bool) (start : A) (add : T → A → A) where
  -- what a token adds to the part that goes on after it
  abbrev pub push : (n : ℕ) → T → Nest A n → Nest A n
  push zero t v = add t v
  push (suc n) t xs = pushed (bare start n) (ends n t) (push n t) xs

  pub nested_next : (read : List T → A) → read [] ≡ start → ((t : T) (ts : List T) → read (t ∷ ts) ≡ add t (read ts))
      → (n : ℕ) (t : T) (ts : List T) → nested ends read n (t ∷ ts) ≡ push n t (nested ends read n ts)
  unfolding cut
  nested_next read e h zero t ts = h t ts
  nested_next read e h (suc n) t ts =
      cut_pushed (ends n) (bare start n) (push n t) t ts (nested ends read n) (nothing n) (nested_next read e h n t)
    where
      nothing : (n : ℕ) → nested ends read n [] ≡ bare start n
      nothing zero = e
      nothing (suc n) = refl

-- ---- the shape

-- the pieces of a list are there, where it is, and none is empty
cut_full : {T : Type 0} (t : T → Bool) (x : T) (xs : List T) → (is_empty (cut t (x ∷ xs)) ≡ false) × (all (λ piece. not (is_empty piece)) (cut t (x ∷ xs)) ≡ true)
unfolding cut onto is_empty all
cut_full t x [] = step (t x)
  where
    step : (b : Bool) → (is_empty (onto b x []) ≡ false) × (all (λ piece. not (is_empty piece)) (onto b x []) ≡ true)
    step true = (refl, refl)
    step false = (refl, refl)
cut_full {T} t x (y ∷ ys) = step (t x) (cut t (y ∷ ys)) (cut_full t y ys).1
  where
    step : (b : Bool) (pieces : List (List T)) → all (λ piece. not (is_empty piece)) pieces ≡ true
        → (is_empty (onto b x pieces) ≡ false) × (all (λ piece. not (is_empty piece)) (onto b x pieces) ≡ true)
    step true pieces h = (refl, h)
    step false [] h = (refl, refl)
    step false (piece ∷ pieces) h = (refl, and_right (not (is_empty piece)) (all (λ p. not (is_empty p)) pieces) h)

module _ {T A : Type 0} (ends : ℕ → T → Bool) (read : List T → A) where
  -- so what is read of something has what it should
  pub nested_shaped : (n : ℕ) (ts : List T) → not (is_empty ts) ≡ true → shaped A n (nested ends read n ts) ≡ true
  unfolding is_empty
  nested_shaped zero ts h = refl
  nested_shaped (suc n) [] h = absurd (false≢true h)
  nested_shaped (suc n) (t ∷ ts) h =
      let full = cut_full (ends n) t ts in
      let pieces : List (List T) = cut (ends n) (t ∷ ts) in
      all_shaped A n (map (nested ends read n) pieces) (map_empty pieces ∙ full.0)
      (all_map (nested ends read n) (λ piece. not (is_empty piece)) (shaped A n) (nested_shaped n) pieces full.1)
    where
      map_empty : (pieces : List (List T)) → is_empty (map (nested ends read n) pieces) ≡ is_empty pieces
      map_empty [] = refl
      map_empty (piece ∷ pieces) = refl

  -- a test of every value is a test of all tokens
  module _ (q : A → Bool) (p : T → Bool) (one : (ts : List T) → q (read ts) ≡ all p ts) where
    pub every_nested : (n : ℕ) (ts : List T) → every q n (nested ends read n ts) ≡ all p ts
    every_nested zero ts = one ts
    every_nested (suc n) ts =
        all_mapped (nested ends read n) (every q n) (cut (ends n) ts)
        ∙ ap (λ (f : List T → Bool). all f (cut (ends n) ts)) (fun_ext (every_nested n))
        ∙ all_cut (ends n) p ts
