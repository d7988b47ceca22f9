-- Trimming in words, as relations between what stood there and what is left. Assumes nothing.
use Rattle.std.specs.Prelude.{ℕ, zero, suc, ◌≡◌, Bool, true, not, List, [], ◌∷◌, ◌++◌}
use Rattle.lists.specs.Lists.{all, last_or}
use Rattle.nesting.specs.Nesting.{Nest, idle}

module _ {A : Type 0} (t : A → Bool) where
  -- it does not end in one that passes the test
  unfoldable pub ends_firmly : List A → Bool
  ends_firmly [] = true
  ends_firmly (x ∷ xs) = not (t (last_or x xs))

  -- an end has gone, each of it passed the test, and what is left has no such end
  pub record Shortened (whole left : List A) : Type 0 where
    pub gone : List A
    pub parts : whole ≡ left ++ gone
    pub idle : all t gone ≡ true
    pub firm : ends_firmly left ≡ true

  -- the same after the first, which stays
  pub data Trimmed : List A → List A → Type 0 where
    nothing : Trimmed [] []
    past_first : (x : A) {whole left : List A} → Shortened whole left → Trimmed (x ∷ whole) (x ∷ left)

-- the lists are equally long, and each is related to the one at its place
pub data Each {A B : Type 0} (R : A → B → Type 0) : List A → List B → Type 0 where
  nothing : Each R [] []
  next : {x : A} {y : B} {xs : List A} {ys : List B} → R x y → Each R xs ys → Each R (x ∷ xs) (y ∷ ys)

-- Each part is trimmed, and then those at the end that are a single empty value go, down to one. A value stays.
module _ (A : Type 0) (is_blank : A → Bool) where
  abbrev pub TrimmedNest : (n : ℕ) → Nest A n → Nest A n → Type 0
  TrimmedNest zero whole left = whole ≡ left
  TrimmedNest (suc n) whole left =
      (parts : List (Nest A n)) × Each (TrimmedNest n) whole parts × Trimmed (idle A is_blank n) parts left
