-- Laws of lists that are cut into pieces. Assumes nothing.
use Rattle.std.specs.Prelude.{if◌then◌else◌}
use Prim.Native.Nat.{ℕ, suc}
use mathlib.Core.Path.{◌≡◌, refl, sym, ap, ◌∙◌}
use mathlib.Core.Bool.{Bool, true, false, not, ◌&&◌, false≢true}
use mathlib.Core.List.{List, [], ◌∷◌, ◌++◌, append-nil, append_assoc}
use lib.ListN.{drop}
use Rattle.lists.specs.Lists.{all, through, beyond, onto, cut, gather}
use Rattle.lists.proofs.Texts.{and_right, if_true, if_false}
use Rattle.lists.proofs.Numbers.{drop_nothing}

-- one more in front of the first piece leaves those after it
pub drop_onto : {A : Type 0} (x : A) (pieces : List (List A)) (n : ℕ) → drop (suc n) (onto false x pieces) ≡ drop (suc n) pieces
unfolding onto
drop_onto x [] n = drop_nothing n
drop_onto x (piece ∷ pieces) n = refl

module _ {A : Type 0} (t : A → Bool) where
  -- the first passes the test: the rest follows it
  pub beyond_hit : {x : A} {xs rest : List A} → xs ≡ x ∷ rest → t x ≡ true → beyond t xs ≡ rest
  unfolding beyond
  beyond_hit {x} {xs} {rest} e h = ap (beyond t) e ∙ if_true (t x) rest (beyond t rest) h

  -- it does not: the search goes on in the rest
  pub beyond_miss : {x : A} {xs rest : List A} → xs ≡ x ∷ rest → t x ≡ false → beyond t xs ≡ beyond t rest
  unfolding beyond
  beyond_miss {x} {xs} {rest} e h = ap (beyond t) e ∙ if_false (t x) rest (beyond t rest) h

  -- a list is its first piece and what follows it
  pub through_beyond : (xs : List A) → through t xs ++ beyond t xs ≡ xs
  unfolding through beyond
  through_beyond [] = refl
  through_beyond (x ∷ xs) = step (t x) (through_beyond xs)
    where
      step : (b : Bool) → through t xs ++ beyond t xs ≡ xs
          → x ∷ ((if b then [] else through t xs) ++ (if b then xs else beyond t xs)) ≡ x ∷ xs
      step true ih = refl
      step false ih = ap (λ (l : List A). x ∷ l) ih

  -- the pieces of a list are its first piece and the pieces of what follows it
  pub cut_first : (x : A) (xs : List A) → cut t (x ∷ xs) ≡ through t (x ∷ xs) ∷ cut t (beyond t (x ∷ xs))
  unfolding cut onto through beyond
  cut_first x [] = step (t x)
    where
      step : (b : Bool) → onto b x [] ≡ (x ∷ (if b then [] else [])) ∷ cut t (if b then [] else [])
      step true = refl
      step false = refl
  cut_first x (y ∷ ys) = step (t x) (cut_first y ys)
    where
      step : (b : Bool) → cut t (y ∷ ys) ≡ through t (y ∷ ys) ∷ cut t (beyond t (y ∷ ys))
          → onto b x (cut t (y ∷ ys)) ≡ (x ∷ (if b then [] else through t (y ∷ ys))) ∷ cut t (if b then y ∷ ys else beyond t (y ∷ ys))
      step true ih = refl
      step false ih = ap (onto false x) ih

  -- none of them passes the test
  abbrev pub None : List A → Type 0
  None xs = all (λ x. not (t x)) xs ≡ true

  head_fails : (b : Bool) (rest : Bool) → (not b && rest) ≡ true → b ≡ false
  head_fails true rest h = absurd (false≢true h)
  head_fails false rest h = refl

  -- in front of what ends a piece, nothing is cut
  pub cut_append : (xs : List A) (e : A) (ys : List A) → None xs → t e ≡ true
      → cut t (xs ++ e ∷ ys) ≡ (xs ++ e ∷ []) ∷ cut t ys
  unfolding cut onto all
  cut_append [] e ys h k = ap (λ (b : Bool). onto b e (cut t ys)) k
  cut_append (x ∷ xs) e ys h k =
      ap (λ (b : Bool). onto b x (cut t (xs ++ e ∷ ys))) (head_fails (t x) (all (λ z. not (t z)) xs) h)
      ∙ ap (onto false x) (cut_append xs e ys (and_right (not (t x)) (all (λ z. not (t z)) xs) h) k)

  -- a list that nothing cuts is one piece
  pub cut_none : (x : A) (xs : List A) → None (x ∷ xs) → cut t (x ∷ xs) ≡ (x ∷ xs) ∷ []
  unfolding cut onto all
  cut_none x [] h = ap (λ (b : Bool). onto b x []) (head_fails (t x) true h)
  cut_none x (y ∷ ys) h =
      ap (λ (b : Bool). onto b x (cut t (y ∷ ys))) (head_fails (t x) (all (λ z. not (t z)) (y ∷ ys)) h)
      ∙ ap (onto false x) (cut_none y ys (and_right (not (t x)) (all (λ z. not (t z)) (y ∷ ys)) h))

-- what ends a larger piece ends a smaller one too: the first smaller piece is the same in the larger one
module _ {A : Type 0} (t u : A → Bool) (h : (x : A) → t x ≡ true → u x ≡ true) where
  pub through_through : (xs : List A) → through u (through t xs) ≡ through u xs
  unfolding through
  through_through [] = refl
  through_through (x ∷ xs) = step (t x) refl (through_through xs)
    where
      step : (b : Bool) → t x ≡ b → through u (through t xs) ≡ through u xs
          → x ∷ (if u x then [] else through u (if b then [] else through t xs)) ≡ x ∷ (if u x then [] else through u xs)
      step true e ih =
          ap (λ (l : List A). x ∷ l)
          (if_true (u x) [] (through u []) (h x e) ∙ sym (if_true (u x) [] (through u xs) (h x e)))
      step false e ih = ap (λ (l : List A). x ∷ (if u x then [] else l)) ih

-- what is gathered of a list may be gathered of its pieces
pub gather_cut : {A B : Type 0} (t : A → Bool) (f : A → List B) (xs : List A) → gather f xs ≡ gather (gather f) (cut t xs)
unfolding gather cut onto
gather_cut t f [] = refl
gather_cut {A} {B} t f (x ∷ xs) = ap (λ (l : List B). f x ++ l) (gather_cut t f xs) ∙ step (t x) (cut t xs)
  where
    step : (b : Bool) (pieces : List (List A)) → f x ++ gather (gather f) pieces ≡ gather (gather f) (onto b x pieces)
    step true pieces = ap (λ (l : List B). l ++ gather (gather f) pieces) (sym (append-nil (f x)))
    step false [] = sym (append-nil (f x ++ []))
    step false (piece ∷ pieces) = sym (append_assoc (f x) (gather f piece) (gather (gather f) pieces))
