-- Lists, as the other crates speak of them. Nothing here knows of EDIFACT. Assumes nothing.
use Rattle.std.specs.Prelude.{ℕ, zero, suc, Bool, true, false, not, ◌&&◌, ◌||◌, List, [], ◌∷◌, ◌++◌, eqb, if◌then◌else◌}
use Prim.Native.Char.{code}
use Prim.Native.String.{String, [] as ε, ◌∷◌ as ◌◂◌}
use Rattle.std.proofs.Math.Option.{Option, none, some}

-- ---- texts

-- the bytes of a text, which is written in ASCII
abbrev pub text : String → List ℕ
text ε = []
text (c ◂ s) = code c ∷ text s

-- the two lists are the same
unfoldable pub same : List ℕ → List ℕ → Bool
same [] [] = true
same [] (y ∷ ys) = false
same (x ∷ xs) [] = false
same (x ∷ xs) (y ∷ ys) = eqb x y && same xs ys

-- xs begins with the list that is named first
unfoldable pub begins : List ℕ → List ℕ → Bool
begins [] xs = true
begins (p ∷ ps) [] = false
begins (p ∷ ps) (x ∷ xs) = eqb p x && begins ps xs

-- x is one of them
unfoldable pub member : ℕ → List ℕ → Bool
member x [] = false
member x (y ∷ ys) = eqb x y || member x ys

-- no two of them are the same
unfoldable pub all_differ : List ℕ → Bool
all_differ [] = true
all_differ (x ∷ xs) = not (member x xs) && all_differ xs

module _ {A : Type 0} where
  -- there is nothing in it
  unfoldable pub is_empty : List A → Bool
  is_empty [] = true
  is_empty (x ∷ xs) = false

  -- every one of them passes the test
  unfoldable pub all : (A → Bool) → List A → Bool
  all t [] = true
  all t (x ∷ xs) = t x && all t xs

  -- one of them passes the test
  unfoldable pub any : (A → Bool) → List A → Bool
  any t [] = false
  any t (x ∷ xs) = t x || any t xs

  -- those that pass the test
  unfoldable pub those : (A → Bool) → List A → List A
  those t [] = []
  those t (x ∷ xs) = if t x then x ∷ those t xs else those t xs

  -- those up to the first that passes the test, which is one of them; all where none passes
  unfoldable pub through : (A → Bool) → List A → List A
  through t [] = []
  through t (x ∷ xs) = x ∷ (if t x then [] else through t xs)

  -- what follows the first that passes the test
  unfoldable pub beyond : (A → Bool) → List A → List A
  beyond t [] = []
  beyond t (x ∷ xs) = if t x then xs else beyond t xs

  -- the first that passes the test
  unfoldable pub first : (A → Bool) → List A → Option A
  first t [] = none
  first t (x ∷ xs) = if t x then some x else first t xs

  -- the one at a number, from 0
  unfoldable pub at : List A → ℕ → Option A
  at [] n = none
  at (x ∷ xs) zero = some x
  at (x ∷ xs) (suc n) = at xs n

  -- the last, or the one given where there is none
  unfoldable pub last_or : A → List A → A
  last_or x [] = x
  last_or x (y ∷ ys) = last_or y ys

  -- there is one in it
  unfoldable pub is_single : List A → Bool
  is_single [] = false
  is_single (x ∷ xs) = is_empty xs

  -- the one that is there, where there is no other
  unfoldable pub single : List A → Option A
  single [] = none
  single (x ∷ []) = some x
  single (x ∷ y ∷ ys) = none

  -- ---- a list cut into pieces

  -- x put in front: of the first piece, or as a piece of its own where there is none or where x ends its piece
  unfoldable pub onto : Bool → A → List (List A) → List (List A)
  onto true x pieces = (x ∷ []) ∷ pieces
  onto false x [] = (x ∷ []) ∷ []
  onto false x (piece ∷ pieces) = (x ∷ piece) ∷ pieces

  -- the list cut after each that passes the test: a piece holds what ends it, and only the last piece may lack that
  unfoldable pub cut : (A → Bool) → List A → List (List A)
  cut t [] = []
  cut t (x ∷ xs) = onto (t x) x (cut t xs)

  -- ---- a list without its idle end

  -- x put in front of what is left of the rest, unless x is idle and nothing is left
  unfoldable pub unless_idle : Bool → A → List A → List A
  unless_idle true x [] = []
  unless_idle true x (y ∷ ys) = x ∷ y ∷ ys
  unless_idle false x ys = x ∷ ys

  -- the list without those at its end that pass the test
  unfoldable pub drop_end : (A → Bool) → List A → List A
  drop_end t [] = []
  drop_end t (x ∷ xs) = unless_idle (t x) x (drop_end t xs)

  -- the same, but the first always stays
  unfoldable pub trim_end : (A → Bool) → List A → List A
  trim_end t [] = []
  trim_end t (x ∷ xs) = x ∷ drop_end t xs

  -- ---- pieces joined

  -- the pieces, with x in front of each
  unfoldable pub each_led_by : A → List (List A) → List A
  each_led_by x [] = []
  each_led_by x (piece ∷ pieces) = x ∷ (piece ++ each_led_by x pieces)

  -- the pieces, with x between any two
  unfoldable pub joined : A → List (List A) → List A
  joined x [] = []
  joined x (piece ∷ pieces) = piece ++ each_led_by x pieces

-- what f gives for each, one after another
unfoldable pub gather : {A B : Type 0} → (A → List B) → List A → List B
gather f [] = []
gather f (x ∷ xs) = f x ++ gather f xs

-- what f gives for the value, or the one given where there is no value
unfoldable pub maybe : {A B : Type 0} → B → (A → B) → Option A → B
maybe d f none = d
maybe d f (some a) = f a
