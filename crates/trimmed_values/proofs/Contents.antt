-- What is asked of a value of the contents, or of an element that is one repeat or one value, is asked where it is spelled: of any
-- question to which an empty value is as good as none, as all of the paper's are. Assumes nothing.
use Rattle.std.specs.Prelude.{if◌then◌else◌}
use Prim.Native.Nat.{ℕ, zero, suc, ◌≤◌}
use mathlib.Core.Path.{◌≡◌, refl, sym, ap, ap₂, ◌∙◌}
use mathlib.Core.Bool.{Bool, true, false, not, ◌&&◌, ◌||◌, false≢true}
use mathlib.Core.List.{List, [], ◌∷◌}
use mathlib.Core.Option.{Option, none, some}
use native.Mathlib.Omega.{arith}
use lib.Dec.{leb, lit≤}
use lib.ListN.{drop}
use borrow.Author.Tests.{not-false}
use Rattle.lists.specs.Lists.{is_empty, all, through, at, single, cut, gather, maybe, beyond}
use Rattle.lists.proofs.Texts.{if_true, and_left, and_right, gather_append}
use Rattle.lists.proofs.Pieces.{through_beyond}
use Rattle.values.specs.Tokens.{Token, byte, separator, fault, ends}
use Rattle.values.specs.Values.{byte_of, bytes_of}
use Rattle.values.specs.Trimming.{contents_of, value_at}
use Rattle.values.proofs.Ends.{ends_more, through_ends, pieces_first}
use Rattle.control_elements.specs.Control.{only_value, control_element}
use Rattle.elements.specs.Elements.{piece_from, element_from, repeat_from, component_from, holds_byte}
use Rattle.elements.specs.Values.{value_in, value_end}
use Rattle.elements.proofs.Elements.{pieces_from}
use Rattle.trimmed_values.specs.Trimmed.{stays_in, repeat_in, value_from, repeat_stays, value_stays, is_unrepeated, is_alone}
use Rattle.trimmed_values.proofs.Trimmed.{in_turn_lem, empty_append, is_bare, bare_pieces, contents_repeat, contents_gone, contents_value}

-- ---- what does not stay has no byte

-- no byte stands in the first piece of what holds none
bare_first : (low high : ℕ) → low ≤ high → (ts : List Token) → is_bare (through (ends low) ts) ≡ true → is_bare (through (ends high) ts) ≡ true
unfolding bytes_of
bare_first low high h ts e =
    let larger = through (ends low) ts in
    let first = bytes_of (through (ends high) larger) in
    ap is_bare (sym (through_ends low high h ts))
    ∙ and_left (is_empty first) (is_empty (bytes_of (beyond (ends high) larger)))
    (sym (empty_append first (bytes_of (beyond (ends high) larger)))
    ∙ ap is_empty (sym (gather_append byte_of (through (ends high) larger) (beyond (ends high) larger)))
    ∙ ap is_bare (through_beyond (ends high) larger)
    ∙ e)

-- nor from any of its pieces on
all_drop : {A : Type 0} (t : A → Bool) (k : ℕ) (xs : List A) → all t xs ≡ true → all t (drop k xs) ≡ true
unfolding all
all_drop t zero xs h = h
all_drop t (suc k) [] h = h
all_drop t (suc k) (x ∷ xs) h = all_drop t k xs (and_right (t x) (all t xs) h)

bare_from : (t u : Token → Bool) (k : ℕ) (ts : List Token) → is_bare (through t ts) ≡ true → is_bare (through t (piece_from t u k ts)) ≡ true
bare_from t u k ts e =
    sym (bare_pieces u (through t (piece_from t u k ts)))
    ∙ ap (all is_bare) (pieces_from t u k ts)
    ∙ all_drop is_bare k (cut u (through t ts)) (bare_pieces u (through t ts) ∙ e)

-- a piece that does not stay
gone_bare : (rank number high : ℕ) → rank ≤ high → (ts : List Token) → stays_in rank number ts ≡ false → is_bare (through (ends high) ts) ≡ true
unfolding stays_in holds_byte through is_empty bytes_of gather
gone_bare rank zero high h [] e = refl
gone_bare rank zero high h (t ∷ ts) e = absurd (false≢true (sym e))
gone_bare rank (suc n) high h ts e = bare_first rank high h ts (not-false (is_bare (through (ends rank) ts)) e)

nothing_in : (value : List ℕ) → is_empty value ≡ true → value ≡ []
unfolding is_empty
nothing_in [] e = refl
nothing_in (b ∷ bs) e = absurd (false≢true e)

-- a repeat that does not stay has no byte
gone_repeat : (ts : List Token) (e r : ℕ) → repeat_stays e r ts ≡ false → is_bare (through (ends 2) (repeat_in e r ts)) ≡ true
gone_repeat ts e r h = step (stays_in 0 e (element_from e ts)) refl h
  where
    step : (b : Bool) → stays_in 0 e (element_from e ts) ≡ b → (b && stays_in 1 r (repeat_in e r ts)) ≡ false
        → is_bare (through (ends 2) (repeat_in e r ts)) ≡ true
    step true d g = gone_bare 1 r 2 (lit≤ tt) (repeat_in e r ts) g
    step false d g =
        bare_first 1 2 (lit≤ tt) (repeat_in e r ts)
        (bare_from (ends 1) (ends 2) r (element_from e ts) (gone_bare 0 e 1 (lit≤ tt) (element_from e ts) d))

-- a value that does not stay is empty
gone_empty : (ts : List Token) (e r k : ℕ) → value_stays e r k ts ≡ false → value_in (value_from e r k ts) ≡ []
unfolding value_in
gone_empty ts e r k h = nothing_in (value_in (value_from e r k ts)) (step (repeat_stays e r ts) refl h)
  where
    step : (b : Bool) → repeat_stays e r ts ≡ b → (b && stays_in 2 k (value_from e r k ts)) ≡ false
        → is_bare (through (ends 3) (value_from e r k ts)) ≡ true
    step true d g = gone_bare 2 k 3 (lit≤ tt) (value_from e r k ts) g
    step false d g =
        bare_first 2 3 (lit≤ tt) (value_from e r k ts) (bare_from (ends 2) (ends 3) k (repeat_in e r ts) (gone_repeat ts e r d))

-- ---- one repeat, and one value

-- no byte stands in a larger piece where none stands in its first smaller piece and none from the second on
bare_split : (rank : ℕ) (ts : List Token) → let second = piece_from (ends rank) (ends (suc rank)) 1 ts in
    is_bare (through (ends rank) ts) ≡ (is_bare (through (ends (suc rank)) ts) && is_bare (through (ends rank) second))
unfolding piece_from through is_empty bytes_of gather all
bare_split rank [] = refl
bare_split rank (t ∷ ts) =
    let high = ends (suc rank) in
    let larger = through (ends rank) (t ∷ ts) in
    let second = piece_from (ends rank) high 1 (t ∷ ts) in
    let pieces = pieces_first rank (suc rank) (omega arith) t ts in
    sym (bare_pieces high larger)
    ∙ ap (all is_bare) pieces
    ∙ ap (λ (b : Bool). is_bare (through high (t ∷ ts)) && b)
    (ap (λ (l : List (List Token)). all is_bare (drop 1 l)) (sym pieces)
    ∙ ap (all is_bare) (sym (pieces_from (ends rank) high 1 (t ∷ ts)))
    ∙ bare_pieces high (through (ends rank) second))

-- a byte stands behind the first value of an element: behind it in its repeat, or in another repeat
behind_first : (ts : List Token) → holds_byte 1 (value_end ts) ≡ (holds_byte 2 (component_from 1 ts) || holds_byte 1 (repeat_from 1 ts))
unfolding holds_byte value_end piece_from through ends is_empty bytes_of gather byte_of
behind_first [] = refl
behind_first (byte b from place ∷ ts) = behind_first ts
behind_first (fault place ∷ ts) = behind_first ts
behind_first (separator rank place ∷ ts) = step (leb rank 1) (leb rank 2) (leb rank 3) refl refl refl (behind_first ts)
  where
    t : Token
    t = separator rank place

    not_both_lem : (x y : Bool) → not (x && y) ≡ (not x || not y)
    not_both_lem true y = refl
    not_both_lem false y = refl

    step : (a b d : Bool) → ends 1 t ≡ a → ends 2 t ≡ b → ends 3 t ≡ d
        → holds_byte 1 (value_end ts) ≡ (holds_byte 2 (component_from 1 ts) || holds_byte 1 (repeat_from 1 ts))
        → holds_byte 1 (if d then t ∷ ts else value_end ts)
        ≡ (holds_byte 2 (if b then [] else (if d then ts else component_from 1 ts))
        || holds_byte 1 (if a then [] else (if b then ts else repeat_from 1 ts)))
    step true true true p q z ih = ap (λ (x : Bool). not (is_bare (t ∷ (if x then [] else through (ends 1) ts)))) p
    step false true true p q z ih = ap (λ (x : Bool). not (is_bare (t ∷ (if x then [] else through (ends 1) ts)))) p
    step false false true p q z ih =
        ap (λ (x : Bool). not (is_bare (t ∷ (if x then [] else through (ends 1) ts)))) p
        ∙ ap not (bare_split 1 ts)
        ∙ not_both_lem (is_bare (through (ends 2) ts)) (is_bare (through (ends 1) (repeat_from 1 ts)))
    step false false false p q z ih = ih
    step true false d p q z ih = absurd (false≢true (sym q ∙ ends_more 1 2 (lit≤ tt) t p))
    step a true false p q z ih = absurd (false≢true (sym z ∙ ends_more 2 3 (lit≤ tt) t q))

-- so the value is alone where there is one repeat, and in it one component
alone_is : (ts : List Token) → is_alone ts ≡ (is_unrepeated ts && not (holds_byte 2 (component_from 1 ts)))
unfolding is_alone is_unrepeated
alone_is ts =
    ap not (behind_first ts) ∙ neither (holds_byte 2 (component_from 1 ts)) (holds_byte 1 (repeat_from 1 ts))
  where
    neither : (x y : Bool) → not (x || y) ≡ (not y && not x)
    neither true true = refl
    neither true false = refl
    neither false true = refl
    neither false false = refl

-- a value ends where it ends, also where it is read from there on: it is as well alone
end_again : (ts : List Token) → value_end (value_end ts) ≡ value_end ts
unfolding value_end
end_again [] = refl
end_again (t ∷ ts) = step (ends 3 t) refl (end_again ts)
  where
    step : (b : Bool) → ends 3 t ≡ b → value_end (value_end ts) ≡ value_end ts
        → value_end (if b then t ∷ ts else value_end ts) ≡ (if b then t ∷ ts else value_end ts)
    step true e ih = if_true (ends 3 t) (t ∷ ts) (value_end ts) e
    step false e ih = ih

pub alone_end : (ts : List Token) → is_alone (value_end ts) ≡ is_alone ts
unfolding is_alone
alone_end ts = ap (λ (us : List Token). not (holds_byte 1 us)) (end_again ts)

-- there is one where there is a first and no second
single_in : {A : Type 0} (o : Option (List A))
    → maybe none single o ≡ maybe (maybe none (λ xs. at xs 0) o) (λ x. none) (maybe none (λ xs. at xs 1) o)
unfolding single at maybe
single_in none = refl
single_in (some []) = refl
single_in (some (x ∷ [])) = refl
single_in (some (x ∷ y ∷ ys)) = refl

module _ (ts : List Token) (e : ℕ) where
  -- the first repeat of an element of the contents
  abbrev pub first_repeat : Option (List (List ℕ))
  first_repeat = maybe none (λ repeats. at repeats 0) (at (contents_of (through (ends 0) ts)) e)

  -- an element of the contents that is one repeat
  pub repeat_read : maybe none single (at (contents_of (through (ends 0) ts)) e)
      ≡ (if is_unrepeated (element_from e ts) then first_repeat else none)
  unfolding is_unrepeated stays_in maybe
  repeat_read =
      single_in (at (contents_of (through (ends 0) ts)) e)
      ∙ ap (maybe first_repeat (λ x. none)) (contents_repeat ts e 1)
      ∙ step (stays_in 0 e (element_from e ts)) (holds_byte 1 (repeat_from 1 (element_from e ts))) _ refl
    where
      step : (a b : Bool) (repeat : List (List ℕ)) → stays_in 0 e (element_from e ts) ≡ a
          → maybe first_repeat (λ x. none) (if a && b then some repeat else none) ≡ (if not b then first_repeat else none)
      step true true repeat h = refl
      step true false repeat h = refl
      step false true repeat h = contents_gone ts e 0 h
      step false false repeat h = refl

module _ {B : Type 0} (ask : Option (List ℕ) → B) (blind : ask (some []) ≡ ask none) (ts : List Token) (e : ℕ) where
  -- a value of the contents
  pub value_read : (r k : ℕ) → ask (value_at (contents_of (through (ends 0) ts)) e r k) ≡ ask (some (value_in (value_from e r k ts)))
  value_read r k = ap ask (contents_value ts e r k) ∙ step (value_stays e r k ts) refl
    where
      step : (b : Bool) → value_stays e r k ts ≡ b
          → ask (if b then some (value_in (value_from e r k ts)) else none) ≡ ask (some (value_in (value_from e r k ts)))
      step true h = refl
      step false h = sym (ap (λ (value : List ℕ). ask (some value)) (gone_empty ts e r k h) ∙ blind)

  -- the first repeat of an element, if it is one value
  first_read : ask (maybe none single (first_repeat ts e))
      ≡ ask (if not (holds_byte 2 (component_from 1 (element_from e ts))) then some (value_in (element_from e ts)) else none)
  unfolding stays_in maybe piece_from value_at
  first_read =
      ap ask
      (single_in (first_repeat ts e)
      ∙ ap₂ (λ (o p : Option (List ℕ)). maybe o (λ v. none) p) (sym (in_turn_lem (λ values. at values 0) 0 (at contents e)))
      (sym (in_turn_lem (λ values. at values 1) 0 (at contents e)) ∙ contents_value ts e 0 1))
      ∙ step (repeat_stays e 0 ts) (holds_byte 2 (component_from 1 (element_from e ts))) _ refl
    where
      contents : List (List (List (List ℕ)))
      contents = contents_of (through (ends 0) ts)

      first : Option (List ℕ)
      first = value_at contents e 0 0

      step : (a b : Bool) (value : List ℕ) → repeat_stays e 0 ts ≡ a
          → ask (maybe first (λ v. none) (if a && b then some value else none))
          ≡ ask (if not b then some (value_in (element_from e ts)) else none)
      step true true value h = refl
      step true false value h = value_read 0 0
      step false true value h =
          ap ask
          (contents_value ts e 0 0
          ∙ ap (λ (b : Bool). if b && stays_in 2 0 (element_from e ts) then some (value_in (element_from e ts)) else none) h)
      step false false value h = value_read 0 0

  -- an element of the contents that is one value
  pub element_read : ask (control_element (through (ends 0) ts) e)
      ≡ ask (if is_alone (element_from e ts) then some (value_in (element_from e ts)) else none)
  unfolding control_element only_value maybe
  element_read =
      ap ask (only (at (contents_of (through (ends 0) ts)) e) ∙ ap (maybe none single) (repeat_read ts e))
      ∙ step (is_unrepeated (element_from e ts))
      ∙ ap (λ (b : Bool). ask (if b then some (value_in (element_from e ts)) else none)) (sym (alone_is (element_from e ts)))
    where
      only : (o : Option (List (List (List ℕ)))) → maybe none only_value o ≡ maybe none single (maybe none single o)
      only none = refl
      only (some repeats) = refl

      step : (b : Bool) → ask (maybe none single (if b then first_repeat ts e else none))
          ≡ ask
          (if b && not (holds_byte 2 (component_from 1 (element_from e ts))) then some (value_in (element_from e ts)) else none)
      step true = first_read
      step false = refl
