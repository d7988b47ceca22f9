-- Where tokens do not end inside a segment, every value in them is ended; and what is found among them lies before their end.
-- Assumes nothing.
use Rattle.std.specs.Prelude.{if◌then◌else◌}
use Prim.Native.Nat.{ℕ, zero, suc}
use mathlib.Core.Path.{◌≡◌, refl}
use mathlib.Core.Bool.{Bool, true, false}
use mathlib.Core.List.{List, [], ◌∷◌}
use lib.Dec.{lit≤}
use borrow.Author.Tests.{not-false}
use Rattle.lists.specs.Lists.{is_empty, last_or, through}
use Rattle.values.specs.Tokens.{Token, ends, place_of}
use Rattle.values.specs.Values.{end_place, ended_by, ends_inside}
use Rattle.values.proofs.Ends.{ends_more}
use Rattle.elements.specs.Elements.{piece_from}
use Rattle.elements.specs.Values.{value_end}

-- the tokens do not end inside a segment
abbrev pub Whole : List Token → Type 0
Whole ts = ends_inside ts ≡ false

nothing_whole : Whole []
unfolding ends_inside is_empty
nothing_whole = refl

-- nor do those after the first
rest_whole : (t : Token) (ts : List Token) → Whole (t ∷ ts) → Whole ts
unfolding ends_inside ended_by last_or is_empty
rest_whole t [] h = refl
rest_whole t (u ∷ us) h = h

-- nor those from a piece on
pub from_whole : (t u : Token → Bool) (k : ℕ) (ts : List Token) → Whole ts → Whole (piece_from t u k ts)
unfolding piece_from
from_whole t u zero ts h = h
from_whole t u (suc k) [] h = h
from_whole t u (suc k) (x ∷ xs) h =
    step (t x) (u x) (from_whole t u k xs (rest_whole x xs h)) (from_whole t u (suc k) xs (rest_whole x xs h))
  where
    step : (a b : Bool) → Whole (piece_from t u k xs) → Whole (piece_from t u (suc k) xs)
        → Whole (if a then [] else (if b then piece_from t u k xs else piece_from t u (suc k) xs))
    step true b one more = nothing_whole
    step false true one more = one
    step false false one more = more

-- the only token of such tokens ends a value
last_ends : (t : Token) → Whole (t ∷ []) → ends 3 t ≡ true
unfolding ends_inside ended_by last_or is_empty
last_ends t h = ends_more 0 3 (lit≤ tt) t (not-false (ends 0 t) h)

-- the value that such tokens begin with is ended, and there it ends
pub value_ended : (t : Token) (ts : List Token) → Whole (t ∷ ts)
    → (u : Token) × (us : List Token) × (value_end (t ∷ ts) ≡ u ∷ us) × (end_place (through (ends 3) (t ∷ ts)) ≡ place_of u)
unfolding value_end through end_place last_or
value_ended t [] h = (t, [], simp (last_ends t h), simp (last_ends t h))
value_ended t (u ∷ us) h = step (ends 3 t) (value_ended u us (rest_whole t (u ∷ us) h))
  where
    step : (b : Bool)
        → (v : Token) × (vs : List Token) × (value_end (u ∷ us) ≡ v ∷ vs) × (end_place (through (ends 3) (u ∷ us)) ≡ place_of v)
        → (v : Token) × (vs : List Token) × ((if b then t ∷ u ∷ us else value_end (u ∷ us)) ≡ v ∷ vs)
        × (end_place (t ∷ (if b then [] else through (ends 3) (u ∷ us))) ≡ place_of v)
    step true ih = (t, u ∷ us, refl, refl)
    step false ih = ih
