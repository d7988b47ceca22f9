-- What ends a piece of the tokens, over the rank of the separator. Assumes nothing.
use Rattle.std.specs.Prelude.{if◌then◌else◌}
use Prim.Native.Nat.{ℕ, ◌≤◌}
use mathlib.Core.Path.{◌≡◌, refl, sym, ap, ◌∙◌}
use mathlib.Core.Bool.{true, false}
use mathlib.Core.List.{List, [], ◌∷◌}
use native.Mathlib.Omega.{arith}
use borrow.Author.Tests.{le-leb, leb-true}
use Rattle.lists.specs.Lists.{through, last_or, cut, beyond}
use Rattle.lists.proofs.Pieces.{cut_first, through_through}
use Rattle.values.specs.Tokens.{Token, byte, separator, fault, ends}
use Rattle.values.specs.Values.{ended_by}

-- a separator that ends one thing ends each smaller thing
pub ends_more : (low high : ℕ) → low ≤ high → (t : Token) → ends low t ≡ true → ends high t ≡ true
unfolding ends
ends_more low high h (byte b from place) e = e
ends_more low high h (separator rank place) e = le-leb rank high (omega (arith, leb-true rank low e))
ends_more low high h (fault place) e = e

-- so the first smaller piece is the same in the larger one
pub through_ends : (low high : ℕ) → low ≤ high → (ts : List Token) → through (ends high) (through (ends low) ts) ≡ through (ends high) ts
through_ends low high h = through_through (ends low) (ends high) (ends_more low high h)

-- and the smaller pieces of the larger one are that and those after it
pub pieces_first : (low high : ℕ) → low ≤ high → (t : Token) (ts : List Token) → let larger = through (ends low) (t ∷ ts) in
    cut (ends high) larger ≡ through (ends high) (t ∷ ts) ∷ cut (ends high) (beyond (ends high) larger)
unfolding through
pieces_first low high h t ts =
    let rest = cut (ends high) (beyond (ends high) (through (ends low) (t ∷ ts))) in
    cut_first (ends high) t (if ends low t then [] else through (ends low) ts)
    ∙ ap (λ (first : List Token). first ∷ rest) (through_ends low high h (t ∷ ts))

-- where a token does not end it, the tokens after it decide whether it is ended
pub ended_after : (rank : ℕ) (t : Token) (ts : List Token) → ends rank t ≡ false → ended_by rank (t ∷ ts) ≡ ended_by rank ts
unfolding ended_by last_or
ended_after rank t [] h = h
ended_after rank t (u ∷ us) h = refl

-- where it does not end the last of them, those after it do
pub ended_next : (rank : ℕ) (t : Token) (ts : List Token) → ends rank t ≡ false → ended_by rank (t ∷ ts) ≡ true → ended_by rank ts ≡ true
ended_next rank t ts e h = sym (ended_after rank t ts e) ∙ h
