-- A list of segments, spelled with the marks, is read as its value list; and what `emission_laws` spells of a body's tokens with them is
-- read as the value list of the body's contents, whose bytes are all the value bytes of the body. Assumes nothing.
use Prim.Native.Nat.{ℕ, zero, suc, ◌≤◌}
use native.Mathlib.Omega.{arith}
use mathlib.Core.Path.{◌≡◌, refl, sym, ap, subst, ◌∙◌}
use mathlib.Core.Bool.{true, false, false≢true}
use mathlib.Core.List.{List, [], ◌∷◌, ◌++◌, map, append-nil, append_assoc}
use lib.Dec.{leb}
use lib.ListN.{replicate}
use borrow.Author.Tests.{not-false, leb-true}
use Rattle.lists.specs.Lists.{is_empty, all, last_or, each_led_by, joined, gather}
use Rattle.lists.proofs.Texts.{and_left, and_right}
use Rattle.nesting.specs.Nesting.{Nest, shaped, spelled, flat}
use Rattle.nesting_laws.proofs.Shape.{shaped_some, shaped_first, shaped_rest}
use Rattle.nesting_laws.proofs.Flat.{flat_last, flat_next}
use Rattle.values.specs.Tokens.{Token, byte, separator, fault, ends, segments}
use Rattle.values.specs.Values.{byte_of, bytes_of, ended_by, ends_inside}
use Rattle.values.specs.Trimming.{contents_of}
use Rattle.values.proofs.Ends.{ended_next}
use Rattle.values.specs.Spelling.{Bytes, SegmentList, spell_byte, spell_value, spell_repeat, spell_element, spell_segment, spell}
use Rattle.operations.specs.ValueList.{Item, list_segment, list_of, list_bytes, table_from, list_table}
use Rattle.spelling_laws.specs.Bodies.{shaped_segment, Shaped}
use Rattle.trimming_laws.proofs.Nesting.{item, kind_of, segment_flat}
use Rattle.emission_laws.specs.declared.Held.{Held}
use Rattle.emission_laws.specs.Emission.{nothing, separated, held_next, spelled_next, emitted}
use Rattle.emission_laws.proofs.Steps.{let_out_runs, byte_first}
use Rattle.emission_laws.proofs.Cases.{known}
use Rattle.emission_laws.proofs.Spelled.{spelled_emitted}
use Rattle.read_counts.specs.Marks.{marks, read_marks, item_out, item_next, item_grow, items_from}
use Rattle.read_counts.specs.Tally.{table_rest, table_of}
use Rattle.read_counts.proofs.Marks.{read_byte, read_mark, table_read_lem}

byte_item : (l : Item) (b : ℕ) (rest : List ℕ) → items_from l false (spell_byte marks b ++ rest) ≡ items_from (item_grow b l) false rest
unfolding items_from
byte_item l b rest = read_byte item_out item_next item_grow l b rest

-- ---- a list of segments

value_item : (l : Item) (value : Bytes) (rest : List ℕ)
    → items_from l false (spell_value marks value ++ rest) ≡ items_from (item l.kind (l.value ++ value)) false rest
unfolding spell_value gather
value_item l [] rest = ap (λ (v : Bytes). items_from (item l.kind v) false rest) (sym (append-nil l.value))
value_item l (b ∷ bs) rest =
    ap (items_from l false) (append_assoc (spell_byte marks b) (spell_value marks bs) rest)
    ∙ byte_item l b (spell_value marks bs ++ rest)
    ∙ value_item (item_grow b l) bs rest
    ∙ ap (λ (v : Bytes). items_from (item l.kind v) false rest) (append_assoc l.value (b ∷ []) bs)

-- the text ends the open value, whichever it is, and then these values follow
abbrev Closes : List ℕ → List Item → Type 0
Closes text items = (l : Item) → items_from l false text ≡ l ∷ items

-- each kind is a mark
kind_low : (depth : ℕ) → leb (kind_of depth) 3 ≡ true
kind_low zero = refl
kind_low (suc zero) = refl
kind_low (suc (suc zero)) = refl
kind_low (suc (suc (suc depth))) = refl

-- a part of any depth, spelled with the marks
abbrev marked : (n : ℕ) → Nest Bytes n → List ℕ
marked = spelled kind_of (spell_value marks)

part_items_lem : (n kind : ℕ) (x : Nest Bytes n) → shaped Bytes n x ≡ true → (rest : List ℕ) {items : List Item} → Closes rest items
    → items_from (item kind []) false (marked n x ++ rest) ≡ flat kind_of item n kind x ++ items
unfolding joined each_led_by items_from
part_items_lem zero kind v s rest h = value_item (item kind []) v rest ∙ h (item kind v)
part_items_lem (suc n) kind [] s rest h = absurd (shaped_some Bytes n s)
part_items_lem (suc n) kind (x ∷ []) s rest {items} h =
    ap (λ (text : List ℕ). items_from (item kind []) false (text ++ rest)) (append-nil (marked n x))
    ∙ part_items_lem n kind x (shaped_first Bytes n x [] s) rest h
    ∙ ap (λ (ls : List Item). ls ++ items) (sym (flat_last kind_of item n kind x))
part_items_lem (suc n) kind (x ∷ y ∷ ys) s rest {items} h =
    let others = marked (suc n) (y ∷ ys) in
    let following = flat kind_of item (suc n) (kind_of n) (y ∷ ys) in
    ap (items_from (item kind []) false) (append_assoc (marked n x) (kind_of n ∷ others) rest)
    ∙ part_items_lem n kind x (shaped_first Bytes n x (y ∷ ys) s) (kind_of n ∷ others ++ rest)
    (λ l. read_mark item_out item_next item_grow l (kind_of n) (others ++ rest) (kind_low n)
    ∙ ap (λ (ls : List Item). l ∷ ls) (part_items_lem (suc n) (kind_of n) (y ∷ ys) (shaped_rest Bytes n x y ys s) rest h))
    ∙ sym (append_assoc (flat kind_of item n kind x) following items)
    ∙ ap (λ (ls : List Item). ls ++ items) (sym (flat_next kind_of item n kind x y ys))

segment_items : (segment : List (List (List Bytes))) → shaped_segment segment ≡ true → (rest : List ℕ)
    → items_from (item 0 []) false (spell_segment marks segment ++ rest) ≡ list_segment segment ++ items_from (item 0 []) false rest
unfolding shaped_segment spell_segment spell_element spell_repeat items_from read_marks marks
segment_items segment s rest =
    let following = items_from (item 0 []) false rest in
    ap (items_from (item 0 []) false) (append_assoc (marked 3 segment) (0 ∷ []) rest)
    ∙ part_items_lem 3 0 segment s (0 ∷ rest) (λ l. refl)
    ∙ ap (λ (ls : List Item). ls ++ following) (sym (segment_flat segment))

pub list_items : (list : SegmentList) → Shaped list → items_from (item 0 []) false (spell marks list) ≡ list_of list
unfolding Shaped all spell list_of gather items_from read_marks
list_items [] s = refl
list_items (g ∷ gs) s =
    segment_items g (and_left (shaped_segment g) (all shaped_segment gs) s) (spell marks gs)
    ∙ ap (λ (ls : List Item). list_segment g ++ ls) (list_items gs (and_right (shaped_segment g) (all shaped_segment gs) s))

-- ---- the contents of tokens

-- the values of the contents are those that are read off what the tokens emit
pub contents_items : (ts : List Token) → ends_inside ts ≡ false → all known ts ≡ true → Shaped (map contents_of (segments ts))
    → list_of (map contents_of (segments ts)) ≡ items_from (item 0 []) false (emitted marks nothing ts)
contents_items ts h a s =
    sym (list_items (map contents_of (segments ts)) s) ∙ ap (items_from (item 0 []) false) (spelled_emitted marks ts h a)

-- ---- the bytes of the values

-- the open value, whichever it is, goes on with these bytes
abbrev Holds : List ℕ → List ℕ → Type 0
Holds text bytes = (l : Item) → list_bytes (items_from l false text) ≡ l.value ++ bytes

-- a mark adds no byte
marks_hold : (kind : ℕ) → leb kind 3 ≡ true → (count : ℕ) (text bytes : List ℕ) → Holds text bytes → Holds (replicate count kind ++ text) bytes
unfolding items_from list_bytes gather
marks_hold kind k zero text bytes h l = h l
marks_hold kind k (suc count) text bytes h l =
    ap list_bytes (read_mark item_out item_next item_grow l kind (replicate count kind ++ text) k)
    ∙ ap (λ (bs : Bytes). l.value ++ bs) (marks_hold kind k count text bytes h (item_next kind l))

byte_holds : (b : ℕ) (text bytes : List ℕ) → Holds text bytes → Holds (spell_byte marks b ++ text) (b ∷ bytes)
byte_holds b text bytes h l = ap list_bytes (byte_item l b text) ∙ h (item_grow b l) ∙ append_assoc l.value (b ∷ []) bytes

tokens_hold : (ts : List Token) → ended_by 0 ts ≡ true → all known ts ≡ true → (k : Held) → Holds (emitted marks k ts) (bytes_of ts)
unfolding emitted spelled_next held_next separated marks ends ended_by last_or all known bytes_of byte_of gather items_from read_marks list_bytes
tokens_hold [] h a k = absurd (false≢true h)
tokens_hold (byte b from place ∷ ts) h a k =
    let value = byte_holds b (emitted marks nothing ts) (bytes_of ts) (tokens_hold ts (ended_next 0 (byte b from place) ts refl h) a nothing) in
    let text = spell_byte marks b ++ emitted marks nothing ts in
    subst (λ (t : List ℕ). Holds t (b ∷ bytes_of ts)) (sym (byte_first marks k b from place ts ∙ let_out_runs marks k text))
    (marks_hold 1 refl k.elements (replicate k.repeats 3 ++ (replicate k.components 2 ++ text)) (b ∷ bytes_of ts)
    (marks_hold 3 refl k.repeats (replicate k.components 2 ++ text) (b ∷ bytes_of ts) (marks_hold 2 refl k.components text (b ∷ bytes_of ts) value)))
tokens_hold (separator zero place ∷ []) h a k = λ l. refl
tokens_hold (separator zero place ∷ t ∷ ts) h a k =
    λ l. ap (λ (bs : Bytes). l.value ++ bs) (tokens_hold (t ∷ ts) h a nothing (item 0 []))
tokens_hold (separator (suc zero) place ∷ ts) h a k = tokens_hold ts (ended_next 0 (separator 1 place) ts refl h) a (separated k 1)
tokens_hold (separator (suc (suc zero)) place ∷ ts) h a k = tokens_hold ts (ended_next 0 (separator 2 place) ts refl h) a (separated k 2)
tokens_hold (separator (suc (suc (suc zero))) place ∷ ts) h a k = tokens_hold ts (ended_next 0 (separator 3 place) ts refl h) a (separated k 3)
tokens_hold (separator (suc (suc (suc (suc n)))) place ∷ ts) h a k =
    let low : suc (suc (suc (suc n))) ≤ 3 = leb-true (suc (suc (suc (suc n)))) 3 (and_left (leb (suc (suc (suc (suc n)))) 3) (all known ts) a) in
    absurd (omega arith)
tokens_hold (fault place ∷ ts) h a k = tokens_hold ts (ended_next 0 (fault place) ts refl h) a k

-- the bytes of the contents' values are the value bytes of the tokens
pub contents_bytes : (ts : List Token) → ends_inside ts ≡ false → all known ts ≡ true → Shaped (map contents_of (segments ts))
    → list_bytes (list_of (map contents_of (segments ts))) ≡ bytes_of ts
unfolding ends_inside is_empty emitted items_from read_marks list_bytes bytes_of gather
contents_bytes ts h a s = ap list_bytes (contents_items ts h a s) ∙ held ts h a
  where
    held : (ts : List Token) → ends_inside ts ≡ false → all known ts ≡ true
        → list_bytes (items_from (item 0 []) false (emitted marks nothing ts)) ≡ bytes_of ts
    held [] h a = refl
    held (t ∷ ts) h a = tokens_hold (t ∷ ts) (not-false (ended_by 0 (t ∷ ts)) h) a nothing (item 0 [])

-- ---- the table of the values

-- the table of the contents' values is the table of the tokens
pub contents_table : (ts : List Token) → ends_inside ts ≡ false → all known ts ≡ true → Shaped (map contents_of (segments ts))
    → list_table (list_of (map contents_of (segments ts))) ≡ table_of ts
unfolding list_table table_of table_rest
contents_table ts h a s =
    ap (table_from 0) (contents_items ts h a s) ∙ table_read_lem 0 (item 0 []) false (emitted marks nothing ts)
