-- The law of values by number: what the trimmed contents have at an element, a repeat and a component is the value that the tokens
-- spell there, if trimming leaves it. It holds of any tokens, ended or not. Assumes nothing.
use Rattle.std.specs.Prelude.{if◌then◌else◌}
use Prim.Native.Nat.{ℕ, zero, suc}
use mathlib.Core.Path.{◌≡◌, refl, sym, ap, ap₂, ◌∙◌}
use mathlib.Core.Bool.{Bool, true, false, not, ◌&&◌, and-true, and-false}
use mathlib.Core.List.{List, [], ◌∷◌, ◌++◌, map, map-map}
use mathlib.Core.Option.{Option, none, some}
use lib.ListN.{drop}
use Rattle.lists.specs.Lists.{is_empty, all, through, at, onto, cut, unless_idle, drop_end, trim_end, gather, maybe, beyond}
use Rattle.lists.proofs.Texts.{if_true, if_false, all_mapped}
use Rattle.lists.proofs.Pieces.{cut_first, gather_cut}
use Rattle.lists.proofs.Ends.{trim_end_map}
use Rattle.lists.proofs.Numbers.{at_map}
use Rattle.values.specs.Tokens.{Token, ends}
use Rattle.values.specs.Values.{Value, byte_of, bytes_of, value_of, values_of, repeats_of, elements_of}
use Rattle.values.specs.Trimming.{trim_repeat, trim_element, is_idle, trim_segment, is_blank, trimmed, value_at, contents_of}
use Rattle.elements.specs.Elements.{piece_from, element_from, first_piece, holds_byte}
use Rattle.elements.specs.Values.{value_in}
use Rattle.elements.proofs.Elements.{pieces_from, piece_number}
use Rattle.trimmed_values.specs.Trimmed.{stays_in, repeat_in, value_from, repeat_stays, value_stays}

-- ---- an idle end, by number

-- trimming never takes the first
unfoldable after_first : ℕ → Bool → Bool
after_first zero b = false
after_first (suc n) b = b

no_choice : {A : Type 0} (b : Bool) → ◌≡◌ {A = Option A} (if b then none else none) none
no_choice true = refl
no_choice false = refl

module _ {A : Type 0} (t : A → Bool) where
  -- nothing is left where all are idle
  drop_end_empty : (xs : List A) → is_empty (drop_end t xs) ≡ all t xs
  unfolding drop_end unless_idle all is_empty
  drop_end_empty [] = refl
  drop_end_empty (x ∷ xs) = step (t x) (drop_end t xs) (drop_end_empty xs)
    where
      step : (b : Bool) (ys : List A) → is_empty ys ≡ all t xs → is_empty (unless_idle b x ys) ≡ (b && all t xs)
      step true [] ih = ih
      step true (y ∷ ys) ih = ih
      step false ys ih = refl

  -- what is left at a number: what was there, unless all from there on are idle
  drop_end_at : (xs : List A) (n : ℕ) → at (drop_end t xs) n ≡ (if all t (drop n xs) then none else at xs n)
  unfolding at drop_end unless_idle all is_empty
  drop_end_at [] n = sym (no_choice (all t (drop n [])))
  drop_end_at (x ∷ xs) zero = step (t x) (drop_end t xs) (drop_end_empty xs)
    where
      step : (b : Bool) (ys : List A) → is_empty ys ≡ all t xs
          → at (unless_idle b x ys) zero ≡ (if b && all t xs then none else some x)
      step true [] e = sym (if_true (all t xs) none (some x) (sym e))
      step true (y ∷ ys) e = sym (if_false (all t xs) none (some x) (sym e))
      step false ys e = refl
  drop_end_at (x ∷ xs) (suc n) = step (t x) (drop_end t xs) ∙ drop_end_at xs n
    where
      step : (b : Bool) (ys : List A) → at (unless_idle b x ys) (suc n) ≡ at ys n
      step true [] = refl
      step true (y ∷ ys) = refl
      step false ys = refl

  trim_end_at : (xs : List A) (n : ℕ) → at (trim_end t xs) n ≡ (if after_first n (all t (drop n xs)) then none else at xs n)
  unfolding at trim_end after_first
  trim_end_at [] n = sym (no_choice (after_first n (all t (drop n []))))
  trim_end_at (x ∷ xs) zero = refl
  trim_end_at (x ∷ xs) (suc n) = drop_end_at xs n

-- the one at a number of what a map gives
map_at : {A B : Type 0} (f : A → B) (xs : List A) (n : ℕ) → at (map f xs) n ≡ maybe none (λ x. some (f x)) (at xs n)
unfolding at maybe
map_at f [] n = refl
map_at f (x ∷ xs) zero = refl
map_at f (x ∷ xs) (suc n) = map_at f xs n

-- maps that are alike to each give the same
map_alike : {A B : Type 0} (f g : A → B) → ((x : A) → f x ≡ g x) → (xs : List A) → map f xs ≡ map g xs
map_alike f g h [] = refl
map_alike f g h (x ∷ xs) = ap₂ ◌∷◌ (h x) (map_alike f g h xs)

-- a question to what is there at a number, if there is something in which to look for it
pub in_turn_lem : {A B : Type 0} (f : A → Option B) (n : ℕ) (o : Option (List A))
    → maybe none (λ xs. maybe none f (at xs n)) o ≡ maybe none f (maybe none (λ xs. at xs n) o)
unfolding maybe
in_turn_lem f n none = refl
in_turn_lem f n (some xs) = refl

-- the repeat and the value that a map gives
repeat_map : {A B : Type 0} (f : A → B) (segment : List (List (List A))) (e r : ℕ)
    → maybe none (λ repeats. at repeats r) (at (map (map (map f)) segment) e)
    ≡ maybe none (λ values. some (map f values)) (maybe none (λ repeats. at repeats r) (at segment e))
unfolding maybe
repeat_map {A} f segment e r = at_map none (λ repeats. at repeats r) (map (map f)) segment e ∙ step (at segment e)
  where
    step : (o : Option (List (List A)))
        → maybe none (λ repeats. at (map (map f) repeats) r) o
        ≡ maybe none (λ values. some (map f values)) (maybe none (λ repeats. at repeats r) o)
    step none = refl
    step (some repeats) = map_at (map f) repeats r

value_map : {A B : Type 0} (f : A → B) (segment : List (List (List A))) (e r k : ℕ)
    → value_at (map (map (map f)) segment) e r k ≡ maybe none (λ x. some (f x)) (value_at segment e r k)
unfolding value_at maybe
value_map {A} f segment e r k =
    in_turn_lem (λ values. at values k) r (at (map (map (map f)) segment) e)
    ∙ ap (maybe none (λ values. at values k)) (repeat_map f segment e r)
    ∙ step (maybe none (λ repeats. at repeats r) (at segment e))
    ∙ ap (maybe none (λ x. some (f x))) (sym (in_turn_lem (λ values. at values k) r (at segment e)))
  where
    step : (o : Option (List A))
        → maybe none (λ values. at values k) (maybe none (λ values. some (map f values)) o)
        ≡ maybe none (λ x. some (f x)) (maybe none (λ values. at values k) o)
    step none = refl
    step (some values) = map_at f values k

-- ---- pieces

-- tests that are alike to all but the empty list are alike to every piece
alike_pieces : {A : Type 0} (p q : List A → Bool) (t : A → Bool) → ((x : A) (xs : List A) → p (x ∷ xs) ≡ q (x ∷ xs)) → (xs : List A)
    → map p (cut t xs) ≡ map q (cut t xs)
unfolding cut onto
alike_pieces p q t h [] = refl
alike_pieces {A} p q t h (x ∷ xs) = step (t x) (cut t xs) (alike_pieces p q t h xs)
  where
    step : (b : Bool) (pieces : List (List A)) → map p pieces ≡ map q pieces → map p (onto b x pieces) ≡ map q (onto b x pieces)
    step true pieces ih = ap₂ ◌∷◌ (h x []) ih
    step false [] ih = ap₂ ◌∷◌ (h x []) ih
    step false (piece ∷ pieces) ih = ap₂ ◌∷◌ (h x piece) (ap (drop 1) ih)

-- nothing is in two lists together where nothing is in either
pub empty_append : {A : Type 0} (xs ys : List A) → is_empty (xs ++ ys) ≡ (is_empty xs && is_empty ys)
unfolding is_empty
empty_append [] ys = refl
empty_append (x ∷ xs) ys = refl

-- nothing is gathered where each gives nothing
empty_gather : {A B : Type 0} (f : A → List B) (xs : List A) → all (λ x. is_empty (f x)) xs ≡ is_empty (gather f xs)
unfolding all gather is_empty
empty_gather f [] = refl
empty_gather f (x ∷ xs) =
    ap (λ (b : Bool). is_empty (f x) && b) (empty_gather f xs) ∙ sym (empty_append (f x) (gather f xs))

-- no byte of a value stands in a piece
abbrev pub is_bare : List Token → Bool
is_bare piece = is_empty (bytes_of piece)

-- and none in any piece of it
pub bare_pieces : (t : Token → Bool) (ts : List Token) → all is_bare (cut t ts) ≡ is_bare ts
unfolding bytes_of
bare_pieces t ts = empty_gather (gather byte_of) (cut t ts) ∙ ap is_empty (sym (gather_cut t byte_of ts))

-- a list is trimmed to a single idle one where all in it are idle
idle_trimmed : {A : Type 0} (t : A → Bool) (x : A) (xs : List A) → is_idle t (trim_end t (x ∷ xs)) ≡ all t (x ∷ xs)
unfolding trim_end all is_idle is_empty
idle_trimmed {A} t x xs = step (drop_end t xs) ∙ ap (λ (b : Bool). t x && b) (drop_end_empty t xs)
  where
    step : (ys : List A) → is_idle t (x ∷ ys) ≡ (t x && is_empty ys)
    step [] = sym (and-true (t x))
    step (y ∷ ys) = sym (and-false (t x))

-- a question to an optional value that is there only if it stays
if_stays : {A B : Type 0} (f : A → Option B) (b : Bool) (x : A) → maybe none f (if b then some x else none) ≡ (if b then f x else none)
unfolding maybe
if_stays f true x = refl
if_stays f false x = refl

-- two tests in turn are one
if_both : {A : Type 0} (a b : Bool) (x : A) → (if a then (if b then some x else none) else none) ≡ (if a && b then some x else none)
if_both true b x = refl
if_both false b x = refl

-- ---- one level: pieces that a separator of the next higher rank ends, in what one of this rank ends

-- what is read of the smaller pieces of a larger one, trimmed
abbrev left : {B : Type 0} → ℕ → (List Token → B) → (B → Bool) → List Token → List B
left rank read blank piece = trim_end blank (map read (cut (ends (suc rank)) piece))

-- the piece that tokens begin with, by whether trimming leaves it
first_kept : (rank n : ℕ) (ts : List Token)
    → (if after_first n (is_bare (through (ends rank) ts)) then none else first_piece (suc rank) ts)
    ≡ (if stays_in rank n ts then some (through (ends (suc rank)) ts) else none)
unfolding after_first first_piece stays_in holds_byte through bytes_of gather is_empty
first_kept rank zero [] = refl
first_kept rank zero (t ∷ ts) = refl
first_kept rank (suc n) [] = refl
first_kept rank (suc n) (t ∷ ts) = step (some (through (ends (suc rank)) (t ∷ ts))) (is_bare (through (ends rank) (t ∷ ts)))
  where
    step : (o : Option (List Token)) (b : Bool) → (if b then none else o) ≡ (if not b then o else none)
    step o true = refl
    step o false = refl

-- what is read of a piece is idle where no byte stands in the piece
module _ {B : Type 0} (rank : ℕ) (read : List Token → B) (blank : B → Bool)
    (alike : (t : Token) (ts : List Token) → blank (read (t ∷ ts)) ≡ is_bare (t ∷ ts)) where
  abbrev idle : List Token → Bool
  idle piece = blank (read piece)

  -- all pieces are idle where no byte stands in any
  all_idle : (ts : List Token) → all idle (cut (ends (suc rank)) ts) ≡ is_bare ts
  all_idle ts =
      let pieces = cut (ends (suc rank)) ts in
      sym (all_mapped idle (λ b. b) pieces)
      ∙ ap (all (λ b. b)) (alike_pieces idle is_bare (ends (suc rank)) alike ts)
      ∙ all_mapped is_bare (λ b. b) pieces
      ∙ bare_pieces (ends (suc rank)) ts

  -- so is what is left of a larger piece
  left_idle : (t : Token) (ts : List Token) → is_idle blank (left rank read blank (t ∷ ts)) ≡ is_bare (t ∷ ts)
  left_idle t ts =
      let rest = cut (ends (suc rank)) (beyond (ends (suc rank)) (t ∷ ts)) in
      let first = through (ends (suc rank)) (t ∷ ts) in
      ap (λ (pieces : List (List Token)). is_idle blank (trim_end blank (map read pieces))) (cut_first (ends (suc rank)) t ts)
      ∙ idle_trimmed blank (read first) (map read rest)
      ∙ all_mapped read blank (first ∷ rest)
      ∙ ap (all idle) (sym (cut_first (ends (suc rank)) t ts))
      ∙ all_idle (t ∷ ts)

  module _ (n : ℕ) (ts : List Token) where
    abbrev from : List Token
    from = piece_from (ends rank) (ends (suc rank)) n ts

    -- what is left at a number is what is read of the piece that begins there, if it stays
    left_at : at (left rank read blank (through (ends rank) ts)) n
        ≡ (if stays_in rank n from then some (read (through (ends (suc rank)) from)) else none)
    left_at =
        let pieces = cut (ends (suc rank)) (through (ends rank) ts) in
        ap (λ (l : List B). at l n) (trim_end_map read blank pieces)
        ∙ map_at read (trim_end idle pieces) n
        ∙ ap (maybe none (λ piece. some (read piece)))
        (trim_end_at idle pieces n
        ∙ ap₂ (λ (b : Bool) (o : Option (List Token)). if after_first n b then none else o)
        (ap (all idle) (sym (pieces_from (ends rank) (ends (suc rank)) n ts)) ∙ all_idle (through (ends rank) from))
        (piece_number (suc rank) n ts)
        ∙ first_kept rank n from)
        ∙ if_stays (λ piece. some (read piece)) (stays_in rank n from) (through (ends (suc rank)) from)

    -- the same where the larger piece is there only if it stays
    left_in : (a : Bool) {o : Option (List B)} → o ≡ (if a then some (left rank read blank (through (ends rank) ts)) else none)
        → maybe none (λ l. at l n) o ≡ (if a && stays_in rank n from then some (read (through (ends (suc rank)) from)) else none)
    left_in a e =
        ap (maybe none (λ l. at l n)) e
        ∙ if_stays (λ l. at l n) a (left rank read blank (through (ends rank) ts))
        ∙ ap (λ (o : Option B). if a then o else none) left_at
        ∙ if_both a (stays_in rank n from) (read (through (ends (suc rank)) from))

-- ---- the three levels

-- the values of a repeat, the repeats of an element and the elements of a segment that were read, trimmed
abbrev values_left : List Token → List Value
values_left piece = left 2 value_of is_blank piece

abbrev repeats_left : List Token → List (List Value)
repeats_left piece = left 1 values_left (is_idle is_blank) piece

abbrev elements_left : List Token → List (List (List Value))
elements_left piece = left 0 repeats_left (is_idle (is_idle is_blank)) piece

-- each is idle where no byte stands in the piece
blank_value : (t : Token) (ts : List Token) → is_blank (value_of (t ∷ ts)) ≡ is_bare (t ∷ ts)
unfolding value_of
blank_value t ts = refl

idle_repeat : (t : Token) (ts : List Token) → is_idle is_blank (values_left (t ∷ ts)) ≡ is_bare (t ∷ ts)
idle_repeat = left_idle 2 value_of is_blank blank_value

idle_element : (t : Token) (ts : List Token) → is_idle (is_idle is_blank) (repeats_left (t ∷ ts)) ≡ is_bare (t ∷ ts)
idle_element = left_idle 1 values_left (is_idle is_blank) idle_repeat

-- the trimmed segment
trimmed_left : (g : List Token) → trimmed g ≡ elements_left g
unfolding trimmed trim_segment trim_element trim_repeat elements_of repeats_of values_of
trimmed_left g =
    ap (trim_end (is_idle (is_idle is_blank)))
    (map-map (trim_element is_blank) repeats_of (cut (ends 1) g)
    ∙ map_alike (λ (piece : List Token). trim_element is_blank (repeats_of piece)) repeats_left
    (λ piece. ap (trim_end (is_idle is_blank)) (map-map (trim_repeat is_blank) values_of (cut (ends 2) piece)))
    (cut (ends 1) g))

module _ (ts : List Token) (e r : ℕ) where
  -- the repeat by element and number, in the trimmed segment that tokens begin with
  repeat_left : maybe none (λ repeats. at repeats r) (at (trimmed (through (ends 0) ts)) e)
      ≡ (if repeat_stays e r ts then some (values_left (through (ends 2) (repeat_in e r ts))) else none)
  repeat_left =
      left_in 1 values_left (is_idle is_blank) idle_repeat r (element_from e ts) (stays_in 0 e (element_from e ts))
      (ap (λ (l : List (List (List Value))). at l e) (trimmed_left (through (ends 0) ts))
      ∙ left_at 0 repeats_left (is_idle (is_idle is_blank)) idle_element e ts)

  -- the law: the value by element, repeat and component
  pub trimmed_value : (k : ℕ)
      → value_at (trimmed (through (ends 0) ts)) e r k
      ≡ (if value_stays e r k ts then some (value_of (through (ends 3) (value_from e r k ts))) else none)
  unfolding value_at
  trimmed_value k =
      in_turn_lem (λ values. at values k) r (at (trimmed (through (ends 0) ts)) e)
      ∙ left_in 2 value_of is_blank blank_value k (repeat_in e r ts) (repeat_stays e r ts) repeat_left

  -- the same for their bytes, in the contents
  pub contents_repeat : maybe none (λ repeats. at repeats r) (at (contents_of (through (ends 0) ts)) e)
      ≡ (if repeat_stays e r ts then some (map (λ v. v.bytes) (values_left (through (ends 2) (repeat_in e r ts)))) else none)
  unfolding contents_of
  contents_repeat =
      repeat_map (λ v. v.bytes) (trimmed (through (ends 0) ts)) e r
      ∙ ap (maybe none (λ values. some (map (λ v. v.bytes) values))) repeat_left
      ∙ if_stays (λ values. some (map (λ v. v.bytes) values)) (repeat_stays e r ts) (values_left (through (ends 2) (repeat_in e r ts)))

  pub contents_gone : stays_in 0 e (element_from e ts) ≡ false
      → maybe none (λ repeats. at repeats r) (at (contents_of (through (ends 0) ts)) e) ≡ none
  contents_gone h =
      let values = map (λ v. v.bytes) (values_left (through (ends 2) (repeat_in e r ts))) in
      contents_repeat ∙ ap (λ (b : Bool). if b && stays_in 1 r (repeat_in e r ts) then some values else none) h

  pub contents_value : (k : ℕ)
      → value_at (contents_of (through (ends 0) ts)) e r k ≡ (if value_stays e r k ts then some (value_in (value_from e r k ts)) else none)
  unfolding contents_of value_of value_in
  contents_value k =
      value_map (λ v. v.bytes) (trimmed (through (ends 0) ts)) e r k
      ∙ ap (maybe none (λ v. some v.bytes)) (trimmed_value k)
      ∙ if_stays (λ v. some v.bytes) (value_stays e r k ts) (value_of (through (ends 3) (value_from e r k ts)))
