-- The tokens of an element where it is spelled and the records of the element as it stands in the contents are emitted alike, up to what
-- the next separator of an element or a segment drops; and as many values are counted as there are records. Assumes nothing.
use Rattle.std.specs.Prelude.{if◌then◌else◌}
use Prim.Native.Nat.{ℕ, ◌+◌, ◌*◌, ◌≤◌, ◌<◌}
use mathlib.Core.Path.{◌≡◌, refl, sym, ap, ap₂, subst, ◌∙◌}
use mathlib.Core.Bool.{Bool, true, false, not, ◌&&◌, ◌||◌, true≢false, false≢true}
use mathlib.Core.List.{List, [], ◌∷◌, ◌++◌, map, append-nil, append_assoc, tail-eq_of_cons-eq}
use native.Mathlib.Omega.{arith}
use lib.Dec.{leb}
use lib.ListN.{length, take, replicate, length-append}
use lib.Seq.{take-append_seam}
use borrow.Author.Tests.{not-true, lt-leb, leb-false}
use Rattle.lists.specs.Lists.{is_empty, any, all, through, last_or, cut, gather, trim_end, drop_end}
use Rattle.lists.proofs.Texts.{and_left, and_right, and_both}
use Rattle.lists.proofs.Pieces.{None, cut_append}
use Rattle.nesting.specs.Nesting.{shaped, nested}
use Rattle.nesting_laws.proofs.Reading.{pushed, push, nested_mapped, nested_next, nested_shaped}
use Rattle.nesting_laws.proofs.Again.{trim_again, trim_shaped}
use Rattle.characters.specs.declared.Characters.{Characters}
use Rattle.values.specs.Tokens.{Token, byte, separator, fault, ends, ends_part, segments}
use Rattle.values.specs.Values.{byte_of, bytes_of, value_of, values_of, repeats_of, elements_of, is_fault, ended_by, ends_inside}
use Rattle.values.specs.Trimming.{trim_repeat, trim_element, trim_segment, contents_of}
use Rattle.values.specs.Spelling.{Bytes, SegmentList, spell_byte, spell}
use Rattle.elements.specs.Values.{value_in}
use Rattle.emission_laws.specs.declared.Held.{Held}
use Rattle.emission_laws.specs.Emission.{nothing, separated, held_next, held_after, let_out, spelled_next, emitted}
use Rattle.held_separators.specs.Putting.{value_tokens}
use Rattle.emission_laws.proofs.Cases.{known, by_spelling}
use Rattle.emission_laws.proofs.Steps.{emitted_append, terminator_text}
use Rattle.emission_laws.proofs.Spelled.{spelled_emitted}
use Rattle.operations.specs.ValueList.{Item, rank_of, list_repeat, list_element, list_segment, list_of, list_table, closed, closes, elements_listed, segments_listed, trim_list}
use Rattle.spelling_laws.specs.Bodies.{words_of, shaped_segment, Shaped}
use Rattle.trimming_laws.specs.Kinds.{first_kind}
use Rattle.trimming_laws.proofs.Nesting.{listed_list_of}
use Rattle.trimming_laws.proofs.Tables.{list_table_length}
use Rattle.normal_form_laws.proofs.Trimmed.{contents_words}
use Rattle.read_counts.specs.Tally.{table_of}
use Rattle.read_counts.proofs.Contents.{contents_table}
use Rattle.value_list_text.specs.Composing.{record_tokens, list_tokens}
use Rattle.value_list_text.proofs.Tokens.{item_tokens, list_tokens_lem, contents_listed, tokens_whole, tokens_known}
use Rattle.received_pieces.specs.Pieces.{piece_of, ended, element_in, Spelt}

-- ---- the words of a piece

-- the values of an element, untrimmed
abbrev words : List Token → List (List Bytes)
words ts = nested ends_part bytes_of 2 ts

words_read : (ts : List Token) → map (map (λ v. v.bytes)) (repeats_of ts) ≡ words ts
unfolding repeats_of values_of value_of
words_read ts = nested_mapped ends_part value_of (λ v. v.bytes) 2 ts

abbrev push_word : Token → List (List Bytes) → List (List Bytes)
push_word t ws = push ends_part [] (λ t value. byte_of t ++ value) 2 t ws

words_next : (t : Token) (ts : List Token) → words (t ∷ ts) ≡ push_word t (words ts)
unfolding bytes_of gather
words_next t ts = nested_next ends_part [] (λ t value. byte_of t ++ value) bytes_of refl (λ t ts. refl) 2 t ts

-- a separator alone ends one empty value
words_last : (r place : ℕ) → words (separator r place ∷ []) ≡ ([] ∷ []) ∷ []
unfolding cut byte_of
words_last r place = words_next (separator r place) [] ∙ step (ends_part 1 (separator r place)) (ends_part 0 (separator r place))
  where
    step : (a b : Bool) → ◌≡◌ {A = List (List Bytes)} (pushed [] a (pushed [] b (λ v. v)) []) (([] ∷ []) ∷ [])
    step true true = refl
    step true false = refl
    step false true = refl
    step false false = refl

-- a piece with a terminator has the values that the element has with what ends it
piece_words : (ts : List Token) → any (ends 1) ts ≡ true → all (λ t. not (is_fault t)) ts ≡ true
    → words (ended (piece_of 1 ts)) ≡ words (through (ends 1) ts)
unfolding piece_of through any all ends is_fault byte_of
piece_words [] h f = absurd (false≢true h)
piece_words (byte b from place ∷ ts) h f =
    words_next (byte b 0 0) (ended (piece_of 1 ts))
    ∙ ap (push_word (byte b 0 0)) (piece_words ts h f)
    ∙ sym (words_next (byte b from place) (through (ends 1) ts))
piece_words (separator r place ∷ ts) h f = step (leb r 1) refl (λ k. piece_words ts k f)
  where
    step : (b : Bool) → leb r 1 ≡ b → (any (ends 1) ts ≡ true → words (ended (piece_of 1 ts)) ≡ words (through (ends 1) ts))
        → words (ended (if b then [] else separator r 0 ∷ piece_of 1 ts)) ≡ words (separator r place ∷ (if b then [] else through (ends 1) ts))
    step true e more = words_last 0 0 ∙ sym (words_last r place)
    step false e more =
        words_next (separator r 0) (ended (piece_of 1 ts))
        ∙ ap (push_word (separator r 0)) (more (ap (λ (b : Bool). b || any (ends 1) ts) (sym e) ∙ h))
        ∙ sym (words_next (separator r place) (through (ends 1) ts))
piece_words (fault place ∷ ts) h f = absurd (false≢true f)

-- ---- the contents of a piece with a terminator

-- nothing in a piece ends an element or a segment
piece_quiet : (rank : ℕ) → rank ≤ 1 → (ts : List Token) → None (ends rank) (piece_of 1 ts)
unfolding piece_of all ends
piece_quiet rank h [] = refl
piece_quiet rank h (byte b from place ∷ ts) = piece_quiet rank h ts
piece_quiet rank h (separator r place ∷ ts) = step (leb r 1) refl (piece_quiet rank h ts)
  where
    step : (b : Bool) → leb r 1 ≡ b → all (λ t. not (ends rank t)) (piece_of 1 ts) ≡ true
        → all (λ t. not (ends rank t)) (if b then [] else separator r 0 ∷ piece_of 1 ts) ≡ true
    step true e k = refl
    step false e k = ap₂ (λ (a b : Bool). not a && b) (lt-leb r rank (omega (arith, leb-false r 1 e))) k
piece_quiet rank h (fault place ∷ ts) = piece_quiet rank h ts

piece_known : (ts : List Token) → all known ts ≡ true → all known (ended (piece_of 1 ts)) ≡ true
unfolding piece_of all known
piece_known [] h = refl
piece_known (byte b from place ∷ ts) h = piece_known ts h
piece_known (separator r place ∷ ts) h = step (leb r 1) (piece_known ts (and_right (leb r 3) (all known ts) h))
  where
    step : (b : Bool) → all known (ended (piece_of 1 ts)) ≡ true → all known (ended (if b then [] else separator r 0 ∷ piece_of 1 ts)) ≡ true
    step true k = refl
    step false k = and_both (leb r 3) (all known (ended (piece_of 1 ts))) (and_left (leb r 3) (all known ts) h) k
piece_known (fault place ∷ ts) h = piece_known ts h

last_ended : (x : Token) (us : List Token) → last_or x (ended us) ≡ separator 0 0
unfolding last_or
last_ended x [] = refl
last_ended x (u ∷ us) = last_ended u us

piece_whole : (us : List Token) → ends_inside (ended us) ≡ false
unfolding ends_inside ended_by is_empty ends last_or
piece_whole [] = refl
piece_whole (u ∷ us) = ap (λ (t : Token). not (ends 0 t)) (last_ended u us)

-- a segment of one element: what ends it ends both
one_contents : (us : List Token) → None (ends 0) us → None (ends 1) us
    → map contents_of (segments (ended us)) ≡ (trim_element is_empty (words (ended us)) ∷ []) ∷ []
unfolding segments cut words_of elements_of trim_segment trim_end drop_end ends
one_contents us none-0 none_1 =
    ap (map contents_of) (cut_append (ends 0) us (separator 0 0) [] none-0 refl)
    ∙ ap (λ (g : List (List (List Bytes))). g ∷ [])
    (contents_words (ended us)
    ∙ ap (λ (pieces : List (List Token)). trim_segment is_empty (map (map (map (λ v. v.bytes))) (map repeats_of pieces))) (cut_append (ends 1) us (separator 0 0) [] none_1 refl)
    ∙ ap (λ (w : List (List Bytes)). trim_element is_empty w ∷ []) (words_read (ended us)))

-- ---- emitted after elements that are held back

-- a byte of a value is among them
abbrev has_byte : List Token → Bool
has_byte us = not (is_empty (bytes_of us))

abbrev behind : ℕ → ℕ → ℕ → Held
behind n r k = record { elements = n; repeats = r; components = k }

-- a separator inside an element is one of repeats or one of components
separated_inside : (h : Held) (rank : ℕ) → 1 < rank
    → separated h rank
    ≡ (if leb rank 2 then record { elements = h.elements; repeats = h.repeats + 1; components = 0 }
    else record { elements = h.elements; repeats = h.repeats; components = h.components + 1 })
unfolding separated
separated_inside h rank k =
    ap₂ (λ (a b : Bool).
    if a then nothing else (if b then record { elements = h.elements + 1; repeats = 0; components = 0 }
    else (if leb rank 2 then record { elements = h.elements; repeats = h.repeats + 1; components = 0 }
    else record { elements = h.elements; repeats = h.repeats; components = h.components + 1 })))
    (lt-leb rank 0 (omega arith))
    (lt-leb rank 1 k)

inside_rank : (rank : ℕ) (b : Bool) → (not (leb rank 1) && b) ≡ true → 1 < rank
inside_rank rank b q = leb-false rank 1 (not-true (leb rank 1) (and_left (not (leb rank 1)) b q))

abbrev held_elements : Held → ℕ
held_elements h = h.elements

module _ (c : Characters) where
  -- and spells nothing
  inside_emitted : (h : Held) (rank place : ℕ) (us : List Token) → 1 < rank → emitted c h (separator rank place ∷ us) ≡ emitted c (separated h rank) us
  unfolding emitted spelled_next held_next
  inside_emitted h rank place us k =
      ap (λ (b : Bool). (if b then c.terminator ∷ [] else []) ++ emitted c (separated h rank) us) (lt-leb rank 0 (omega arith))

  -- the separators of elements are let out in front of the first byte,
  elements_out : (n r k : ℕ) (us : List Token) → None (ends 1) us → has_byte us ≡ true
      → emitted c (behind n r k) us ≡ replicate n c.element ++ emitted c (behind 0 r k) us
  unfolding emitted spelled_next held_next let_out bytes_of byte_of gather is_empty all ends
  elements_out n r k [] q h = absurd (false≢true h)
  elements_out n r k (byte b from place ∷ us) q h =
      let others : List ℕ = replicate r c.repetition ++ replicate k c.component in
      let more : List ℕ = emitted c nothing us in
      let spelled : List ℕ = spell_byte c b in
      ap (λ (l : List ℕ). l ++ more) (append_assoc (replicate n c.element) others spelled)
      ∙ append_assoc (replicate n c.element) (others ++ spelled) more
  elements_out n r k (separator rank place ∷ us) q h =
      let quiet = and_right (not (leb rank 1)) (all (λ t. not (ends 1 t)) us) q in
      let high = inside_rank rank (all (λ t. not (ends 1 t)) us) q in
      inside_emitted (behind n r k) rank place us high
      ∙ ap (λ (held : Held). emitted c held us) (separated_inside (behind n r k) rank high)
      ∙ step (leb rank 2) (elements_out n (r + 1) 0 us quiet h) (elements_out n r (k + 1) us quiet h)
      ∙ ap (λ (held : Held). replicate n c.element ++ emitted c held us) (sym (separated_inside (behind 0 r k) rank high))
      ∙ ap (λ (l : List ℕ). replicate n c.element ++ l) (sym (inside_emitted (behind 0 r k) rank place us high))
    where
      step : (b : Bool) → emitted c (behind n (r + 1) 0) us ≡ replicate n c.element ++ emitted c (behind 0 (r + 1) 0) us
          → emitted c (behind n r (k + 1)) us ≡ replicate n c.element ++ emitted c (behind 0 r (k + 1)) us
          → emitted c (if b then behind n (r + 1) 0 else behind n r (k + 1)) us
          ≡ replicate n c.element ++ emitted c (if b then behind 0 (r + 1) 0 else behind 0 r (k + 1)) us
      step true x y = x
      step false x y = y
  elements_out n r k (fault place ∷ us) q h = elements_out n r k us q h

  -- where there is none, nothing is spelled
  nothing_out : (h : Held) (us : List Token) → None (ends 1) us → has_byte us ≡ false → emitted c h us ≡ []
  unfolding emitted spelled_next held_next bytes_of byte_of gather is_empty all ends
  nothing_out h [] q e = refl
  nothing_out h (byte b from place ∷ us) q e = absurd (true≢false e)
  nothing_out h (separator rank place ∷ us) q e =
      inside_emitted h rank place us (inside_rank rank (all (λ t. not (ends 1 t)) us) q)
      ∙ nothing_out (separated h rank) us (and_right (not (leb rank 1)) (all (λ t. not (ends 1 t)) us) q) e
  nothing_out h (fault place ∷ us) q e = nothing_out h us q e

  -- a byte spells something
  something_out : (h : Held) (us : List Token) → has_byte us ≡ true → is_empty (emitted c h us) ≡ false
  unfolding emitted spelled_next held_next bytes_of byte_of gather is_empty
  something_out h [] e = absurd (false≢true e)
  something_out h (byte b from place ∷ us) e = spells (let_out c h) (emitted c nothing us)
    where
      spells : (front more : List ℕ) → is_empty ((front ++ spell_byte c b) ++ more) ≡ false
      spells [] more = by_spelling (λ z. is_empty (z ++ more) ≡ false) c b refl refl
      spells (x ∷ front) more = refl
  something_out h (separator rank place ∷ us) e = front (if leb rank 0 then c.terminator ∷ [] else []) (emitted c (separated h rank) us) (something_out (separated h rank) us e)
    where
      front : (xs ys : List ℕ) → is_empty ys ≡ false → is_empty (xs ++ ys) ≡ false
      front [] ys k = k
      front (x ∷ xs) ys k = refl
  something_out h (fault place ∷ us) e = something_out h us e

-- after the first byte none of them is held back
elements_stay : (h : Held) (us : List Token) → None (ends 1) us → h.elements ≡ 0 → (held_after h us).elements ≡ 0
unfolding held_after held_next all ends
elements_stay h [] q e = e
elements_stay h (byte b from place ∷ us) q e = elements_stay nothing us q refl
elements_stay h (separator rank place ∷ us) q e =
    elements_stay (separated h rank) us (and_right (not (leb rank 1)) (all (λ t. not (ends 1 t)) us) q)
    (ap (λ (k : Held). k.elements) (separated_inside h rank (inside_rank rank (all (λ t. not (ends 1 t)) us) q)) ∙ step (leb rank 2) ∙ e)
  where
    step : (b : Bool)
        → held_elements (if b then behind h.elements (h.repeats + 1) 0 else behind h.elements h.repeats (h.components + 1))
        ≡ h.elements
    step true = refl
    step false = refl
elements_stay h (fault place ∷ us) q e = elements_stay h us q e

elements_gone : (h : Held) (us : List Token) → None (ends 1) us → has_byte us ≡ true → (held_after h us).elements ≡ 0
unfolding held_after held_next all ends bytes_of byte_of gather is_empty
elements_gone h [] q e = absurd (false≢true e)
elements_gone h (byte b from place ∷ us) q e = elements_stay nothing us q refl
elements_gone h (separator rank place ∷ us) q e = elements_gone (separated h rank) us (and_right (not (leb rank 1)) (all (λ t. not (ends 1 t)) us) q) e
elements_gone h (fault place ∷ us) q e = elements_gone h us q e

-- ---- the records of an element

-- the tokens of a value list, without the separator in front of it
unfoldable inner : List Item → List Token
inner [] = []
inner (l ∷ ls) = value_tokens l.value ++ gather record_tokens ls

-- with a terminator
records_ended : (items : List Item) → list_tokens items ≡ ended (gather record_tokens items)
unfolding list_tokens gather
records_ended [] = refl
records_ended (l ∷ ls) =
    ap (λ (ts : List Token). record_tokens l ++ ts) (records_ended ls) ∙ sym (append_assoc (record_tokens l) (gather record_tokens ls) (separator 0 0 ∷ []))

inner_ended : (l : Item) (ls : List Item) → item_tokens (l ∷ ls) ≡ ended (inner (l ∷ ls))
unfolding inner first_kind gather
inner_ended l ls = tail-eq_of_cons-eq (sym (list_tokens_lem (l ∷ ls)) ∙ records_ended (l ∷ ls))

-- a record that begins neither a segment nor an element
abbrev is_inside : Item → Bool
is_inside l = not (leb (rank_of l.kind) 1)

values_quiet : (v : Bytes) (us : List Token) → None (ends 1) us → None (ends 1) (value_tokens v ++ us)
unfolding all ends
values_quiet [] us q = q
values_quiet (b ∷ bs) us q = values_quiet bs us q

records_quiet : (ls : List Item) → all is_inside ls ≡ true → None (ends 1) (gather record_tokens ls)
unfolding all gather ends
records_quiet [] h = refl
records_quiet (l ∷ ls) h =
    and_both (is_inside l) (all (λ t. not (ends 1 t)) (value_tokens l.value ++ gather record_tokens ls)) (and_left (is_inside l) (all is_inside ls) h)
    (values_quiet l.value (gather record_tokens ls) (records_quiet ls (and_right (is_inside l) (all is_inside ls) h)))

components_inside : (vs : List Bytes) (ls : List Item) → all is_inside ls ≡ true → all is_inside (map (λ w. record { kind = 2; value = w }) vs ++ ls) ≡ true
unfolding all rank_of
components_inside [] ls h = h
components_inside (v ∷ vs) ls h = components_inside vs ls h

repeats_inside : (rs : List (List Bytes)) → all is_inside (gather (list_repeat 3) rs) ≡ true
unfolding all gather list_repeat rank_of
repeats_inside [] = refl
repeats_inside ([] ∷ rs) = repeats_inside rs
repeats_inside ((v ∷ vs) ∷ rs) = components_inside vs (gather (list_repeat 3) rs) (repeats_inside rs)

all_quiet : (ls : List Item) → all is_inside ls ≡ true → None (ends 1) (inner ls)
unfolding inner all
all_quiet [] h = refl
all_quiet (l ∷ ls) h = values_quiet l.value (gather record_tokens ls) (records_quiet ls (and_right (is_inside l) (all is_inside ls) h))

inner_quiet : (e : List (List Bytes)) → None (ends 1) (inner (list_element 1 e))
unfolding inner list_element list_repeat all gather
inner_quiet [] = refl
inner_quiet ([] ∷ rs) = all_quiet (gather (list_repeat 3) rs) (repeats_inside rs)
inner_quiet ((v ∷ vs) ∷ rs) =
    values_quiet v (gather record_tokens (map (λ w. record { kind = 2; value = w }) vs ++ gather (list_repeat 3) rs))
    (records_quiet (map (λ w. record { kind = 2; value = w }) vs ++ gather (list_repeat 3) rs) (components_inside vs (gather (list_repeat 3) rs) (repeats_inside rs)))

-- the kind of the first record is not looked at
closed_first : (j k : ℕ) (v : Bytes) (ls : List Item) → closed (record { kind = j; value = v } ∷ ls) ≡ closed (record { kind = k; value = v } ∷ ls)
unfolding closed
closed_first j k v [] = refl
closed_first j k v (l ∷ ls) = refl

same_closed : (e : List (List Bytes)) → closed (list_element 1 e) ≡ closed (list_element 0 e)
unfolding list_element list_repeat
same_closed [] = refl
same_closed ([] ∷ rs) = refl
same_closed ((v ∷ vs) ∷ rs) = closed_first 1 0 v (map (λ w. record { kind = 2; value = w }) vs ++ gather (list_repeat 3) rs)

-- an element with its values is a segment with its elements, and that a list
lone_shaped : (e : List (List Bytes)) → shaped Bytes 2 e ≡ true → Shaped ((e ∷ []) ∷ [])
unfolding Shaped shaped_segment all is_empty
lone_shaped e s = and_both (shaped Bytes 2 e && true) true (and_both (shaped Bytes 2 e) true s refl) refl

lone_list : (e : List (List Bytes)) → list_of ((e ∷ []) ∷ []) ≡ list_element 0 e
unfolding list_of list_segment gather
lone_list e = append-nil (list_element 0 e ++ []) ∙ append-nil (list_element 0 e)

-- an element that has what it should: its records list it,
element_listed : (e : List (List Bytes)) → shaped Bytes 2 e ≡ true → segments_listed (list_element 1 e) ≡ (e ∷ []) ∷ []
unfolding segments_listed
element_listed e s =
    ap (λ (items : List Item). map elements_listed (cut (closes 0) items)) (same_closed e)
    ∙ ap segments_listed (sym (lone_list e))
    ∙ listed_list_of ((e ∷ []) ∷ []) (lone_shaped e s)

-- and where there is nothing to trim they spell it
module _ (c : Characters) (e : List (List Bytes)) (s : shaped Bytes 2 e ≡ true) (t : trim_element is_empty e ≡ e) where
  lone_trimmed : trim_list ((e ∷ []) ∷ []) ≡ (e ∷ []) ∷ []
  unfolding trim_list trim_segment trim_end drop_end
  lone_trimmed = ap (λ (f : List (List Bytes)). (f ∷ []) ∷ []) t

  records_spelled : emitted c nothing (item_tokens (list_element 1 e)) ≡ spell c ((e ∷ []) ∷ [])
  records_spelled =
      sym (spelled_emitted c (item_tokens (list_element 1 e)) (tokens_whole (list_element 1 e)) (tokens_known (list_element 1 e)))
      ∙ ap (spell c) (contents_listed (list_element 1 e) ∙ ap trim_list (element_listed e s) ∙ lone_trimmed)

-- ---- an element where it is spelled

-- two texts with the same last byte
cancel_last : (xs ys : List ℕ) (z : ℕ) → xs ++ z ∷ [] ≡ ys ++ z ∷ [] → xs ≡ ys
cancel_last xs ys z e =
    let n : length xs ≡ length ys = omega (arith, length-append xs (z ∷ []), length-append ys (z ∷ []), ap length e) in
    sym (take-append_seam xs (z ∷ [])) ∙ ap₂ take n e ∙ take-append_seam ys (z ∷ [])

never_empty : (us : List Token) → not (is_empty (ended us)) ≡ true
unfolding is_empty
never_empty [] = refl
never_empty (u ∷ us) = refl

none_empty : is_empty {A = ℕ} [] ≡ true
unfolding is_empty
none_empty = refl

same_count : (e : List (List Bytes)) → length (list_element 0 e) ≡ length (list_element 1 e)
unfolding list_element list_repeat
same_count [] = refl
same_count ([] ∷ rs) = refl
same_count ((v ∷ vs) ∷ rs) = refl

-- a terminator is spelled behind
ended_out : (c : Characters) (us : List Token) → emitted c nothing (ended us) ≡ emitted c nothing us ++ c.terminator ∷ []
ended_out c us =
    emitted_append c nothing us (separator 0 0 ∷ []) ∙ ap (λ (l : List ℕ). emitted c nothing us ++ l) (terminator_text c (held_after nothing us) 0 refl)

-- the first record of an element, and what follows its separator
element_first : (e : List (List Bytes)) → shaped Bytes 2 e ≡ true → gather record_tokens (list_element 1 e) ≡ separator 1 0 ∷ inner (list_element 1 e)
unfolding inner list_element list_repeat gather rank_of is_empty all
element_first [] s = absurd (false≢true s)
element_first ([] ∷ rs) s = absurd (false≢true s)
element_first ((v ∷ vs) ∷ rs) s = refl

element_inner : (e : List (List Bytes)) → shaped Bytes 2 e ≡ true → item_tokens (list_element 1 e) ≡ ended (inner (list_element 1 e))
unfolding list_element list_repeat is_empty all
element_inner [] s = absurd (false≢true s)
element_inner ([] ∷ rs) s = absurd (false≢true s)
element_inner ((v ∷ vs) ∷ rs) s = inner_ended (record { kind = 1; value = v }) (map (λ w. record { kind = 2; value = w }) vs ++ gather (list_repeat 3) rs)

module _ (ts : List Token) (h : Spelt ts) (ranked : all known ts ≡ true) where
  read_so : element_in ts ≡ trim_element is_empty (words (ended (piece_of 1 ts)))
  unfolding element_in
  read_so = ap (trim_element is_empty) (words_read (through (ends 1) ts) ∙ sym (piece_words ts h.ends_there h.faultless))

  piece_contents : map contents_of (segments (ended (piece_of 1 ts))) ≡ (element_in ts ∷ []) ∷ []
  piece_contents =
      one_contents (piece_of 1 ts) (piece_quiet 0 (omega arith) ts) (piece_quiet 1 (omega arith) ts)
      ∙ ap (λ (e : List (List Bytes)). (e ∷ []) ∷ []) (sym read_so)

  pub element_shaped : shaped Bytes 2 (element_in ts) ≡ true
  unfolding trim_element trim_repeat
  element_shaped =
      ap (shaped Bytes 2) read_so
      ∙ trim_shaped Bytes is_empty 2 (words (ended (piece_of 1 ts))) (nested_shaped ends_part bytes_of 2 (ended (piece_of 1 ts)) (never_empty (piece_of 1 ts)))

  pub element_trimmed : trim_element is_empty (element_in ts) ≡ element_in ts
  unfolding trim_element trim_repeat
  element_trimmed = ap (trim_element is_empty) read_so ∙ trim_again Bytes is_empty 2 (words (ended (piece_of 1 ts))) ∙ sym read_so

  -- as many values are counted as there are records
  pub values_counted : length (table_of (ended (piece_of 1 ts))) ≡ 3 * length (list_element 1 (element_in ts))
  values_counted =
      let one : Shaped (map contents_of (segments (ended (piece_of 1 ts)))) =
      subst Shaped (sym piece_contents) (lone_shaped (element_in ts) element_shaped) in
      ap length (sym (contents_table (ended (piece_of 1 ts)) (piece_whole (piece_of 1 ts)) (piece_known ts ranked) one))
      ∙ ap (λ (list : SegmentList). length (list_table (list_of list))) piece_contents
      ∙ list_table_length (list_of ((element_in ts ∷ []) ∷ []))
      ∙ ap (λ (n : ℕ). 3 * n) (ap length (lone_list (element_in ts)) ∙ same_count (element_in ts))

  abbrev records : List Token
  records = inner (list_element 1 (element_in ts))

  module _ (c : Characters) where
    -- nothing being held back, both are spelled alike
    same_out : emitted c nothing (piece_of 1 ts) ≡ emitted c nothing records
    same_out =
        cancel_last (emitted c nothing (piece_of 1 ts)) (emitted c nothing records) c.terminator
        (sym (ended_out c (piece_of 1 ts))
        ∙ sym (spelled_emitted c (ended (piece_of 1 ts)) (piece_whole (piece_of 1 ts)) (piece_known ts ranked))
        ∙ ap (spell c) piece_contents
        ∙ sym (records_spelled c (element_in ts) element_shaped element_trimmed)
        ∙ ap (emitted c nothing) (element_inner (element_in ts) element_shaped)
        ∙ ended_out c records)

    -- so a byte stands in the records
    records_hold : has_byte records ≡ true
    records_hold = step (has_byte records) refl
      where
        step : (b : Bool) → has_byte records ≡ b → b ≡ true
        step true e = refl
        step false e =
            absurd (false≢true
            (sym (something_out c nothing (piece_of 1 ts) h.holds)
            ∙ ap is_empty (same_out ∙ nothing_out c nothing records (inner_quiet (element_in ts)) e)
            ∙ none_empty))

    -- after an element separator, whatever else was held back
    pub element_same : (k n : Held) → k.elements ≡ n.elements
        → emitted c k (separator 1 0 ∷ piece_of 1 ts) ≡ emitted c n (gather record_tokens (list_element 1 (element_in ts)))
    unfolding emitted spelled_next held_next separated
    element_same k n e =
        elements_out c (k.elements + 1) 0 0 (piece_of 1 ts) (piece_quiet 1 (omega arith) ts) h.holds
        ∙ ap₂ (λ (x : ℕ) (l : List ℕ). replicate (x + 1) c.element ++ l) e same_out
        ∙ sym (elements_out c (n.elements + 1) 0 0 records (inner_quiet (element_in ts)) records_hold)
        ∙ ap (emitted c n) (sym (element_first (element_in ts) element_shaped))

    -- and no separator of elements is held back after it
    pub element_left : (n : Held) → (held_after n (gather record_tokens (list_element 1 (element_in ts)))).elements ≡ 0
    unfolding held_after held_next
    element_left n =
        ap (λ (us : List Token). (held_after n us).elements) (element_first (element_in ts) element_shaped)
        ∙ elements_gone (separated n 1) records (inner_quiet (element_in ts)) records_hold

-- ---- a value where it is spelled

-- every separator ends it
pub value_piece : (ts : List Token) → all known ts ≡ true → piece_of 3 ts ≡ value_tokens (value_in ts)
unfolding piece_of value_in through bytes_of byte_of gather ends all known
value_piece [] h = refl
value_piece (byte b from place ∷ ts) h = ap (λ (us : List Token). byte b 0 0 ∷ us) (value_piece ts h)
value_piece (separator r place ∷ ts) h = step (leb r 3) (and_left (leb r 3) (all known ts) h)
  where
    step : (b : Bool) → b ≡ true
        → (if b then [] else separator r 0 ∷ piece_of 3 ts) ≡ value_tokens (gather byte_of (if b then [] else through (ends 3) ts))
    step true e = refl
    step false e = absurd (false≢true e)
value_piece (fault place ∷ ts) h = value_piece ts h

-- a byte stands in an element where one stands in its piece
pub piece_bytes : (ts : List Token) → bytes_of (piece_of 1 ts) ≡ bytes_of (through (ends 1) ts)
unfolding piece_of through bytes_of byte_of gather ends
piece_bytes [] = refl
piece_bytes (byte b from place ∷ ts) = ap (λ (bs : Bytes). b ∷ bs) (piece_bytes ts)
piece_bytes (separator r place ∷ ts) = step (leb r 1) (piece_bytes ts)
  where
    step : (b : Bool) → gather byte_of (piece_of 1 ts) ≡ gather byte_of (through (ends 1) ts)
        → gather byte_of (if b then [] else separator r 0 ∷ piece_of 1 ts) ≡ gather byte_of (if b then [] else through (ends 1) ts)
    step true ih = refl
    step false ih = ih
piece_bytes (fault place ∷ ts) = piece_bytes ts
