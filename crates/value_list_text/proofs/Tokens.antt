-- A value list as tokens: the bytes of each value, and the separator that ends it. They hold the segments that the list says.
-- Assumes nothing.
use Rattle.std.specs.Prelude.{if◌then◌else◌}
use Prim.Native.Nat.{ℕ}
use mathlib.Core.Path.{◌≡◌, refl, sym, ap, fun_ext, ◌∙◌}
use mathlib.Core.Bool.{Bool, true, false, not, ◌&&◌}
use mathlib.Core.List.{List, [], ◌∷◌, ◌++◌, map, append-nil, map-map}
use lib.Dec.{leb, eqb}
use lib.Seq.{append_snoc}
use borrow.Author.Tests.{not-true}
use Rattle.lists.specs.Lists.{is_empty, all, last_or, onto, cut, gather}
use Rattle.lists.proofs.Texts.{and_left, and_right}
use Rattle.lists.proofs.Pieces.{None}
use Rattle.values.specs.Tokens.{Token, separator, ends, segments}
use Rattle.values.specs.Values.{byte_of, bytes_of, value_of, values_of, repeats_of, elements_of, ended_by, ends_inside}
use Rattle.values.specs.Trimming.{trim_segment, contents_of}
use Rattle.values.specs.Spelling.{Bytes}
use Rattle.emission_laws.proofs.Cases.{known}
use Rattle.operations.specs.ValueList.{Item, rank_of, closed, closes, repeats_listed, elements_listed, segments_listed, trim_list}
use Rattle.spelling_laws.specs.Bodies.{words_of}
use Rattle.trimming_laws.specs.Kinds.{first_kind}
use Rattle.held_separators.specs.Putting.{value_tokens}
use Rattle.normal_form_laws.proofs.Trimmed.{contents_words}
use Rattle.value_list_text.specs.Composing.{list_tokens}

-- ---- a list cut, where each of its parts may end a piece

module _ {B : Type 0} where
  -- a part in front of pieces: as a piece of its own where it ends one, or where there is none
  unfoldable onto_all : Bool → List B → List (List B) → List (List B)
  onto_all true part pieces = part ∷ pieces
  onto_all false part [] = part ∷ []
  onto_all false part (piece ∷ pieces) = (part ++ piece) ∷ pieces

  -- only the last of a part may end a piece
  cut_part : (t : B → Bool) (part : List B) (last : B) (rest : List B) → None t part
      → cut t (part ++ last ∷ rest) ≡ onto_all (t last) (part ++ last ∷ []) (cut t rest)
  unfolding cut onto onto_all all
  cut_part t [] last rest h = step (t last) (cut t rest)
    where
      step : (b : Bool) (pieces : List (List B)) → onto b last pieces ≡ onto_all b (last ∷ []) pieces
      step true pieces = refl
      step false [] = refl
      step false (piece ∷ pieces) = refl
  cut_part t (x ∷ part) last rest h =
      ap (λ (b : Bool). onto b x (cut t (part ++ last ∷ rest))) (not-true (t x) (and_left (not (t x)) (all (λ y. not (t y)) part) h))
      ∙ ap (onto false x) (cut_part t part last rest (and_right (not (t x)) (all (λ y. not (t y)) part) h))
      ∙ step (t last) (part ++ last ∷ []) (cut t rest)
    where
      step : (b : Bool) (front : List B) (pieces : List (List B)) → onto false x (onto_all b front pieces) ≡ onto_all b (x ∷ front) pieces
      step true front pieces = refl
      step false front [] = refl
      step false front (piece ∷ pieces) = refl

-- what is gathered is cut where the list that it is gathered from is
module _ {A B : Type 0} (front : A → List B) (last : A → B) where
  abbrev part : A → List B
  part x = front x ++ last x ∷ []

  cut_gather : (t : B → Bool) (s : A → Bool) → ((x : A) → None t (front x)) → ((x : A) → t (last x) ≡ s x)
      → (xs : List A) → cut t (gather part xs) ≡ map (gather part) (cut s xs)
  unfolding cut gather onto onto_all
  cut_gather t s quiet same [] = refl
  cut_gather t s quiet same (x ∷ xs) =
      ap (cut t) (append_snoc (front x) (last x) (gather part xs))
      ∙ cut_part t (front x) (last x) (gather part xs) (quiet x)
      ∙ ap (λ (b : Bool). onto_all b (part x) (cut t (gather part xs))) (same x)
      ∙ ap (onto_all (s x) (part x)) (cut_gather t s quiet same xs)
      ∙ step (s x) (cut s xs)
    where
      step : (b : Bool) (pieces : List (List A)) → onto_all b (part x) (map (gather part) pieces) ≡ map (gather part) (onto b x pieces)
      step true pieces = ap (λ (l : List B). l ∷ map (gather part) pieces) (sym (append-nil (part x)))
      step false [] = ap (λ (l : List B). l ∷ []) (sym (append-nil (part x)))
      step false (piece ∷ pieces) = refl

-- where each ends a piece, each is a piece
cut_each : {A : Type 0} (xs : List A) → cut (λ x. true) xs ≡ map (λ x. x ∷ []) xs
unfolding cut onto
cut_each [] = refl
cut_each (x ∷ xs) = ap (λ (l : List (List _)). (x ∷ []) ∷ l) (cut_each xs)

-- ---- the tokens of a value list

abbrev ending : Item → Token
ending l = separator (rank_of l.kind) 0

-- the tokens of values, each given with the kind of what ends it
abbrev ended_tokens : List Item → List Token
ended_tokens items = gather (part (λ l. value_tokens l.value) ending) items

-- the tokens of a value list
unfoldable pub item_tokens : List Item → List Token
item_tokens items = ended_tokens (closed items)

-- they follow the separator in front of the first record
pub list_tokens_lem : (items : List Item) → list_tokens items ≡ separator (rank_of (first_kind items)) 0 ∷ item_tokens items
unfolding list_tokens item_tokens closed gather first_kind rank_of
list_tokens_lem [] = refl
list_tokens_lem (l ∷ []) = ap (λ (ts : List Token). separator (rank_of l.kind) 0 ∷ ts) (sym (append_snoc (value_tokens l.value) (separator 0 0) []))
list_tokens_lem (l ∷ m ∷ ms) =
    ap (λ (ts : List Token). separator (rank_of l.kind) 0 ∷ ts)
    (ap (λ (ts : List Token). value_tokens l.value ++ ts) (list_tokens_lem (m ∷ ms))
    ∙ sym (append_snoc (value_tokens l.value) (separator (rank_of m.kind) 0) (ended_tokens (closed (m ∷ ms)))))

-- ---- what they hold

-- no byte of a value ends anything
quiet : (kind : ℕ) (bs : Bytes) → None (ends kind) (value_tokens bs)
unfolding all ends
quiet kind [] = refl
quiet kind (b ∷ bs) = quiet kind bs

-- what ends a value ends what the kind says
end_of_lem : (rank : ℕ) (l : Item) → ends rank (ending l) ≡ closes rank l
unfolding ends closes
end_of_lem rank l = refl

end_known : (kind : ℕ) → leb (rank_of kind) 3 ≡ true
unfolding rank_of
end_known kind = step (leb kind 0) (leb kind 1) (eqb kind 3)
  where
    step : (a b d : Bool) → leb (if a then 0 else (if b then 1 else (if d then 2 else 3))) 3 ≡ true
    step true b d = refl
    step false true d = refl
    step false false true = refl
    step false false false = refl

end_of_value : (l : Item) → ends 3 (ending l) ≡ true
unfolding ends
end_of_value l = end_known l.kind

-- the bytes of a value, read back
value_read : (l : Item) → bytes_of (ended_tokens (l ∷ [])) ≡ l.value
unfolding gather bytes_of byte_of
value_read l = back l.value
  where
    back : (bs : Bytes) → gather byte_of ((value_tokens bs ++ ending l ∷ []) ++ []) ≡ bs
    back [] = refl
    back (b ∷ bs) = ap (λ (v : Bytes). b ∷ v) (back bs)

-- parts that are read alike, one by one, are read alike where the tokens are cut
pieces_read : {A : Type 0} (rank : ℕ) (f : List Token → A) (g : List Item → A) → ((piece : List Item) → f (ended_tokens piece) ≡ g piece)
    → (items : List Item) → map f (cut (ends rank) (ended_tokens items)) ≡ map g (cut (closes rank) items)
pieces_read {A} rank f g same items =
    ap (map f) (cut_gather (λ l. value_tokens l.value) ending (ends rank) (closes rank) (λ l. quiet rank l.value) (end_of_lem rank) items)
    ∙ map-map f ended_tokens (cut (closes rank) items)
    ∙ ap (λ (h : List Item → A). map h (cut (closes rank) items)) (fun_ext same)

-- each value of a repeat
repeat_read : (repeat : List Item) → map (λ v. v.bytes) (values_of (ended_tokens repeat)) ≡ map (λ l. l.value) repeat
unfolding values_of value_of
repeat_read repeat =
    map-map (λ v. v.bytes) value_of (cut (ends 3) (ended_tokens repeat))
    ∙ ap (map bytes_of)
    (cut_gather (λ l. value_tokens l.value) ending (ends 3) (λ l. true) (λ l. quiet 3 l.value) end_of_value repeat
    ∙ ap (map ended_tokens) (cut_each repeat))
    ∙ map-map bytes_of ended_tokens (map (λ l. l ∷ []) repeat)
    ∙ map-map (λ ls. bytes_of (ended_tokens ls)) (λ l. l ∷ []) repeat
    ∙ ap (λ (f : Item → Bytes). map f repeat) (fun_ext value_read)

element_read : (element : List Item) → map (map (λ v. v.bytes)) (repeats_of (ended_tokens element)) ≡ repeats_listed element
unfolding repeats_of
element_read element =
    map-map (map (λ v. v.bytes)) values_of (cut (ends 2) (ended_tokens element))
    ∙ pieces_read 2 (λ piece. map (λ v. v.bytes) (values_of piece)) (map (λ l. l.value)) repeat_read element

segment_read : (segment : List Item) → words_of (ended_tokens segment) ≡ elements_listed segment
unfolding words_of elements_of
segment_read segment =
    map-map (map (map (λ v. v.bytes))) repeats_of (cut (ends 1) (ended_tokens segment))
    ∙ pieces_read 1 (λ piece. map (map (λ v. v.bytes)) (repeats_of piece)) (λ element. repeats_listed element) element_read segment

-- the contents of the tokens are the trimmed list
pub contents_listed : (items : List Item) → map contents_of (segments (item_tokens items)) ≡ trim_list (segments_listed items)
unfolding segments item_tokens trim_list segments_listed
contents_listed items =
    pieces_read 0 contents_of (λ segment. trim_segment is_empty (elements_listed segment))
    (λ segment. contents_words (ended_tokens segment) ∙ ap (trim_segment is_empty) (segment_read segment))
    (closed items)
    ∙ sym (map-map (trim_segment is_empty) (λ segment. elements_listed segment) (cut (closes 0) (closed items)))

-- ---- they are whole

last_append : (x : Token) (us ts : List Token) → last_or x (us ++ ts) ≡ last_or (last_or x us) ts
unfolding last_or
last_append x [] ts = refl
last_append x (u ∷ us) ts = last_append u us ts

list_ended : (x : Token) (items : List Item) → ends 0 (last_or x (list_tokens items)) ≡ true
unfolding last_or list_tokens ends
list_ended x [] = refl
list_ended x (l ∷ ls) =
    ap (ends 0) (last_append (ending l) (value_tokens l.value) (list_tokens ls)) ∙ list_ended (last_or (ending l) (value_tokens l.value)) ls

pub tokens_whole : (items : List Item) → ends_inside (item_tokens items) ≡ false
unfolding ends_inside ended_by is_empty last_or
tokens_whole items = step (item_tokens items) (ap (λ (ts : List Token). ends 0 (last_or first ts)) (sym (list_tokens_lem items)) ∙ list_ended first items)
  where
    first : Token
    first = separator (rank_of (first_kind items)) 0

    step : (ts : List Token) → ends 0 (last_or first ts) ≡ true → ends_inside ts ≡ false
    step [] h = refl
    step (t ∷ ts) h = ap not h

value_known : (bs : Bytes) (ts : List Token) → all known (value_tokens bs ++ ts) ≡ all known ts
unfolding all known
value_known [] ts = refl
value_known (b ∷ bs) ts = value_known bs ts

list_known : (items : List Item) → all known (list_tokens items) ≡ true
unfolding all known list_tokens
list_known [] = refl
list_known (l ∷ ls) =
    ap (λ (b : Bool). b && all known (value_tokens l.value ++ list_tokens ls)) (end_known l.kind)
    ∙ value_known l.value (list_tokens ls)
    ∙ list_known ls

pub tokens_known : (items : List Item) → all known (item_tokens items) ≡ true
unfolding all known
tokens_known items =
    and_right (leb (rank_of (first_kind items)) 3) (all known (item_tokens items)) (ap (all known) (sym (list_tokens_lem items)) ∙ list_known items)
