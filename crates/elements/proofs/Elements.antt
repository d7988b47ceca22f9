-- What is found from left to right is the larger piece's piece of that number; and one step of the search, for each token that
-- may stand there, and of the search for a byte. Assumes nothing.
use Rattle.std.specs.Prelude.{if◌then◌else◌}
use Prim.Native.Nat.{ℕ, zero, suc, ◌-◌, ◌≤◌, ◌<◌}
use mathlib.Core.Path.{◌≡◌, refl, sym, ap, ◌∙◌}
use mathlib.Core.Bool.{Bool, true, false, not, false≢true}
use mathlib.Core.List.{List, [], ◌∷◌}
use mathlib.Core.Option.{some}
use native.Mathlib.Omega.{arith}
use native.Mathlib.Numerals.{sub-one}
use lib.Dec.{leb}
use lib.ListN.{drop}
use Rattle.lists.specs.Lists.{is_empty, through, at, onto, cut, gather}
use Rattle.lists.proofs.Texts.{if_true, if_false}
use Rattle.lists.proofs.Numbers.{drop_nothing, at_drop}
use Rattle.lists.proofs.Pieces.{drop_onto, cut_first, through_through}
use Rattle.values.specs.Tokens.{Token, byte, separator, fault, ends}
use Rattle.values.specs.Values.{byte_of, bytes_of}
use Rattle.values.proofs.Ends.{ends_more}
use Rattle.values.proofs.Steps.{ends_yes, ends_no}
use Rattle.elements.specs.Elements.{outer, piece_from, segment_from, first_piece, holds_byte}

-- ---- what ends the larger piece

-- a separator of a lower kind, and nothing else
pub outer_yes : (kind place : ℕ) {k : ℕ} → k < kind → outer kind (separator k place) ≡ true
outer_yes zero place h = absurd (omega arith)
outer_yes (suc kind) place h = ends_yes kind place (omega arith)

pub outer_no : (kind place : ℕ) {k : ℕ} → kind ≤ k → outer kind (separator k place) ≡ false
outer_no zero place h = refl
outer_no (suc kind) place h = ends_no kind place (omega arith)

-- it ends the smaller piece too
outer_ends : (kind : ℕ) (t : Token) → outer kind t ≡ true → ends kind t ≡ true
outer_ends zero t h = absurd (false≢true h)
outer_ends (suc kind) t h = ends_more kind (suc kind) (omega arith) t h

-- ---- pieces by number

module _ {A : Type 0} (t u : A → Bool) where
  -- the smaller pieces of a larger one, from a number on
  pub pieces_from : (k : ℕ) (xs : List A) → cut u (through t (piece_from t u k xs)) ≡ drop k (cut u (through t xs))
  unfolding piece_from cut through onto
  pieces_from zero xs = refl
  pieces_from (suc k) [] = refl
  pieces_from (suc k) (x ∷ xs) = step (t x) (u x) (pieces_from k xs) (pieces_from (suc k) xs)
    where
      step : (a b : Bool) → cut u (through t (piece_from t u k xs)) ≡ drop k (cut u (through t xs))
          → cut u (through t (piece_from t u (suc k) xs)) ≡ drop (suc k) (cut u (through t xs))
          → cut u (through t (if a then [] else (if b then piece_from t u k xs else piece_from t u (suc k) xs)))
          ≡ drop (suc k) (onto b x (cut u (if a then [] else through t xs)))
      step true true one more = sym (drop_nothing k)
      step true false one more = sym (drop_nothing k)
      step false true one more = one
      step false false one more = more ∙ sym (drop_onto x (cut u (through t xs)) k)

module _ (kind : ℕ) where
  -- the first smaller piece of a larger one is the one that its tokens begin with
  piece_first : (ts : List Token) → at (cut (ends kind) (through (outer kind) ts)) zero ≡ first_piece kind ts
  unfolding first_piece at cut through
  piece_first [] = refl
  piece_first (t ∷ ts) =
      ap (λ (pieces : List (List Token)). at pieces zero)
      (cut_first (ends kind) t (if outer kind t then [] else through (outer kind) ts))
      ∙ ap some (through_through (outer kind) (ends kind) (outer_ends kind) (t ∷ ts))

  -- what was found is the larger piece's piece of that number
  pub piece_number : (k : ℕ) (ts : List Token)
      → at (cut (ends kind) (through (outer kind) ts)) k ≡ first_piece kind (piece_from (outer kind) (ends kind) k ts)
  piece_number k ts =
      at_drop (cut (ends kind) (through (outer kind) ts)) k
      ∙ ap (λ (pieces : List (List Token)). at pieces zero) (sym (pieces_from (outer kind) (ends kind) k ts))
      ∙ piece_first (piece_from (outer kind) (ends kind) k ts)

-- nothing ends what segments are pieces of
through_all : (ts : List Token) → through (outer 0) ts ≡ ts
unfolding through
through_all [] = refl
through_all (t ∷ ts) = ap (λ (l : List Token). t ∷ l) (through_all ts)

pub segment_number : (k : ℕ) (ts : List Token) → at (cut (ends 0) ts) k ≡ first_piece 0 (segment_from k ts)
segment_number k ts = ap (λ (us : List Token). at (cut (ends 0) us) k) (sym (through_all ts)) ∙ piece_number 0 k ts

-- ---- one step of the search

module _ {A : Type 0} (t u : A → Bool) where
  -- where none is left to pass, the piece is found
  pub from_here : (left : ℕ) (xs : List A) → left ≤ 0 → piece_from t u left xs ≡ xs
  unfolding piece_from
  from_here zero xs h = refl
  from_here (suc k) xs h = absurd (omega arith)

  -- the larger piece ends: there is no such smaller one
  pub from_over : (left : ℕ) {x : A} {xs rest : List A} → 0 < left → xs ≡ x ∷ rest → t x ≡ true → piece_from t u left xs ≡ []
  unfolding piece_from
  from_over zero h e k = absurd (omega arith)
  from_over (suc n) {x} h e k = ap (piece_from t u (suc n)) e ∙ if_true (t x) [] _ k

  pub from_end : (left : ℕ) {xs : List A} → 0 < left → xs ≡ [] → piece_from t u left xs ≡ []
  unfolding piece_from
  from_end zero h e = absurd (omega arith)
  from_end (suc n) h e = ap (piece_from t u (suc n)) e

  module _ (left : ℕ) {x : A} {xs rest : List A} (h : 0 < left) (e : xs ≡ x ∷ rest) (inside : t x ≡ false) where
    -- a smaller piece ends: one less is left
    pub from_next : u x ≡ true → piece_from t u left xs ≡ piece_from t u (left - 1) rest
    unfolding piece_from
    from_next k = step left h
      where
        step : (n : ℕ) → 0 < n → piece_from t u n xs ≡ piece_from t u (n - 1) rest
        step zero p = absurd (omega arith)
        step (suc n) p =
            ap (piece_from t u (suc n)) e
            ∙ if_false (t x) [] _ inside
            ∙ if_true (u x) _ _ k
            ∙ ap (λ (m : ℕ). piece_from t u m rest) (sym (sub-one (suc n)))

    -- it goes on
    pub from_miss : u x ≡ false → piece_from t u left xs ≡ piece_from t u left rest
    unfolding piece_from
    from_miss k = step left h
      where
        step : (n : ℕ) → 0 < n → piece_from t u n xs ≡ piece_from t u n rest
        step zero p = absurd (omega arith)
        step (suc n) p = ap (piece_from t u (suc n)) e ∙ if_false (t x) [] _ inside ∙ if_false (u x) _ _ k

-- a token that ends nothing is passed over
pub from_plain : (kind left : ℕ) {t : Token} {ts rest : List Token} → 0 < left → ts ≡ t ∷ rest → ((k : ℕ) → ends k t ≡ false)
    → piece_from (outer kind) (ends kind) left ts ≡ piece_from (outer kind) (ends kind) left rest
from_plain zero left h e n = from_miss (outer 0) (ends 0) left h e refl (n 0)
from_plain (suc kind) left h e n = from_miss (ends kind) (ends (suc kind)) left h e (n kind) (n (suc kind))

-- ---- one step of the search for a byte

module _ (rank : ℕ) {ts rest : List Token} where
  pub holds_byte_lem : {b from place : ℕ} → ts ≡ byte b from place ∷ rest → holds_byte rank ts ≡ true
  unfolding holds_byte through ends bytes_of gather byte_of is_empty
  holds_byte_lem e = ap (holds_byte rank) e

  pub holds_over : {kind place : ℕ} → ts ≡ separator kind place ∷ rest → leb kind rank ≡ true → holds_byte rank ts ≡ false
  unfolding holds_byte through ends bytes_of gather byte_of is_empty
  holds_over {kind} {place} e h =
      ap (holds_byte rank) e
      ∙ ap (λ (b : Bool). not (is_empty (bytes_of (separator kind place ∷ (if b then [] else through (ends rank) rest))))) h

  pub holds_separator : {kind place : ℕ} → ts ≡ separator kind place ∷ rest → leb kind rank ≡ false
      → holds_byte rank ts ≡ holds_byte rank rest
  unfolding holds_byte through ends bytes_of gather byte_of
  holds_separator {kind} {place} e h =
      ap (holds_byte rank) e
      ∙ ap (λ (b : Bool). not (is_empty (bytes_of (separator kind place ∷ (if b then [] else through (ends rank) rest))))) h

  pub holds_stray : {place : ℕ} → ts ≡ fault place ∷ rest → holds_byte rank ts ≡ holds_byte rank rest
  unfolding holds_byte through ends bytes_of gather byte_of
  holds_stray e = ap (holds_byte rank) e

pub holds_end : (rank : ℕ) {ts : List Token} → ts ≡ [] → holds_byte rank ts ≡ false
unfolding holds_byte through bytes_of gather is_empty
holds_end rank e = ap (holds_byte rank) e
