-- The lines of the contents of a body are those that its tokens print. The contents are read off the text of marks that the tokens emit, value
-- by value; each value that is read gives the line that is printed. Assumes nothing.
use Rattle.std.specs.Prelude.{if◌then◌else◌}
use Prim.Native.Nat.{ℕ, zero, suc, ◌≤◌}
use mathlib.Core.Path.{◌≡◌, refl, sym, ap, ap₂, ◌∙◌}
use mathlib.Core.Bool.{Bool, true, false, false≢true}
use mathlib.Core.List.{List, [], ◌∷◌, ◌++◌, map, append-nil, append_assoc}
use native.Mathlib.Omega.{arith}
use lib.Dec.{leb, eqb}
use lib.ListN.{replicate}
use borrow.Author.Tests.{not-false, leb-true}
use Rattle.lists.specs.Lists.{is_empty, all, last_or}
use Rattle.lists.proofs.Texts.{and_left}
use Rattle.values.specs.Tokens.{Token, byte, separator, fault, ends, segments}
use Rattle.values.specs.Values.{ended_by, ends_inside}
use Rattle.values.specs.Trimming.{contents_of}
use Rattle.values.specs.Spelling.{Bytes, spell_byte}
use Rattle.values.proofs.Ends.{ended_next}
use Rattle.operations.specs.ValueList.{Item}
use Rattle.spelling_laws.specs.Bodies.{Shaped}
use Rattle.trimming_laws.specs.Kinds.{first_kind}
use Rattle.trimming_laws.proofs.Nesting.{item}
use Rattle.emission_laws.specs.Emission.{nothing, separated, held_next, spelled_next, emitted}
use Rattle.emission_laws.proofs.Steps.{let_out_runs, byte_first}
use Rattle.emission_laws.proofs.Cases.{known}
use Rattle.read_counts.specs.Marks.{marks, read_marks, item_out, item_next, item_grow, items_from}
use Rattle.read_counts.proofs.Marks.{read_byte, read_mark}
use Rattle.read_counts.proofs.Contents.{contents_items}
use Rattle.columns.specs.Lines.{line_feed, heading, columns_of}
use Rattle.column_laws.specs.declared.Position.{Position}
use Rattle.column_laws.specs.Positions.{at, next_at, line_at, lines_at}
use Rattle.column_laws.proofs.Positions.{columns_lines}
use Rattle.column_lines.specs.Numbers.{numbers_at}
use Rattle.column_lines.proofs.Numbers.{line_numbers}
use Rattle.export_columns.specs.declared.Line.{Line}
use Rattle.export_columns.specs.Printing.{first, holding, numbers_due, line_end, next_line, marks_text, after_marks, past_elements, past_repeats, past_held, held_text, grown, after_byte, byte_text, after_separator, separator_text, lines_rest, lines_of}
use Rattle.export_columns.proofs.Lines.{due_numbers}

-- ---- the kind of the first value that is read

-- where there is one it is this: the position after another is that of a value of this kind
abbrev Opens : ℕ → List Item → Type 0
Opens kind items = (p : Position) → lines_at (next_at p (first_kind items)) items ≡ lines_at (next_at p kind) items

-- the value that is open is the first
opens : (i : Item) (released : Bool) (text : List ℕ) → Opens i.kind (items_from i released text)
unfolding items_from read_marks lines_at first_kind
opens i released [] = λ p. refl
opens i true (x ∷ xs) = opens (item_grow x i) false xs
opens i false (x ∷ xs) = step (leb x 3) (eqb x 4) (λ p. refl) (opens i true xs) (opens (item_grow x i) false xs)
  where
    step : (t u : Bool) → Opens i.kind (i ∷ items_from (item_next x i) false xs) → Opens i.kind (items_from i true xs)
        → Opens i.kind (items_from (item_grow x i) false xs)
        → Opens i.kind
        (if t then i ∷ items_from (item_next x i) false xs else (if u then items_from i true xs else items_from (item_grow x i) false xs))
    step true u p q r = p
    step false true p q r = q
    step false false p q r = r

-- ---- a text of marks

-- what is printed of the open line, with the numbers that are still to be printed, is its numbers and its value
abbrev Front : Line → Item → Bytes → Type 0
Front l i front = front ++ numbers_due l ≡ numbers_at l.position ++ i.value

-- the text, read as values, has the lines that are printed so, whichever line is open
abbrev Gives : List ℕ → (Line → Bytes) → Type 0
Gives text lines = (l : Line) (i : Item) (front : Bytes) → Front l i front → lines_at l.position (items_from i false text) ≡ front ++ lines l

-- the same where nothing of the open line is printed
abbrev Starts : List ℕ → (Line → Bytes) → Type 0
Starts text lines = (l : Line) (kind : ℕ) → l.begun ≡ false → lines_at l.position (items_from (item kind []) false text) ≡ lines l

nothing_printed : (l : Line) (kind : ℕ) → l.begun ≡ false → Front l (item kind []) []
nothing_printed l kind b = due_numbers l b ∙ sym (append-nil (numbers_at l.position))

gives_starts : (text : List ℕ) (lines : Line → Bytes) → Gives text lines → Starts text lines
gives_starts text lines g l kind b = g l (item kind []) [] (nothing_printed l kind b)

nothing_starts : Starts [] (λ m. [])
unfolding items_from read_marks lines_at
nothing_starts l kind b = refl

-- a mark ends the open line
mark_gives : (kind : ℕ) → leb kind 3 ≡ true → (text : List ℕ) (lines : Line → Bytes) → Starts text lines
    → Gives (kind ∷ text) (λ l. line_end l ++ lines (next_line kind l))
unfolding items_from lines_at
mark_gives kind k text lines h l i front e =
    let rest : List Item = items_from (item kind []) false text in
    let line : line_at l.position i.value ≡ front ++ line_end l =
    line_numbers l.position i.value
    ∙ sym (append_assoc (numbers_at l.position) i.value (line_feed ∷ []))
    ∙ ap (λ (t : Bytes). t ++ line_feed ∷ []) (sym e)
    ∙ append_assoc front (numbers_due l) (line_feed ∷ []) in
    ap (lines_at l.position) (read_mark item_out item_next item_grow i kind text k)
    ∙ ap₂ (λ (t u : Bytes). t ++ u) line (opens (item kind []) false text l.position ∙ h (next_line kind l) kind refl)
    ∙ append_assoc front (line_end l) (lines (next_line kind l))

-- so do several
marks_give : (kind : ℕ) → leb kind 3 ≡ true → (count : ℕ) (text : List ℕ) (lines : Line → Bytes) → Gives text lines
    → Gives (replicate count kind ++ text) (λ l. marks_text kind count l ++ lines (after_marks kind count l))
unfolding marks_text after_marks
marks_give kind k zero text lines g l i front e = g l i front e
marks_give kind k (suc count) text lines g l i front e =
    let others : Line → Bytes = λ m. marks_text kind count m ++ lines (after_marks kind count m) in
    let next : Line = next_line kind l in
    mark_gives kind k (replicate count kind ++ text) others
    (gives_starts (replicate count kind ++ text) others (marks_give kind k count text lines g)) l i front e
    ∙ ap (λ (t : Bytes). front ++ t) (sym (append_assoc (line_end l) (marks_text kind count next) (lines (after_marks kind count next))))

-- a byte of a value makes the open value longer
byte_gives : (b : ℕ) (text : List ℕ) (lines : Line → Bytes)
    → ((l : Line) (i : Item) (front : Bytes) → Front (grown l) i front → lines_at l.position (items_from i false text) ≡ front ++ lines (grown l))
    → Gives (spell_byte marks b ++ text) (λ l. (numbers_due l ++ b ∷ []) ++ lines (grown l))
unfolding items_from numbers_due
byte_gives b text lines h l i front e =
    let printed : Bytes = numbers_due l ++ b ∷ [] in
    let longer : front ++ printed ≡ numbers_at l.position ++ (i.value ++ b ∷ []) =
    sym (append_assoc front (numbers_due l) (b ∷ []))
    ∙ ap (λ (t : Bytes). t ++ b ∷ []) e
    ∙ append_assoc (numbers_at l.position) i.value (b ∷ []) in
    ap (lines_at l.position) (read_byte item_out item_next item_grow i b text)
    ∙ h l (item_grow b i) (front ++ printed) (append-nil (front ++ printed) ∙ longer)
    ∙ append_assoc front printed (lines (grown l))

-- ---- tokens

-- the lines of what tokens emit are those that they print
abbrev Prints : List Token → Type 0
Prints ts = (l : Line) (i : Item) (front : Bytes) → Front l i front
    → lines_at l.position (items_from i false (emitted marks l.held ts)) ≡ front ++ lines_rest l ts

byte_prints : (b from place : ℕ) (ts : List Token) → Prints ts → Prints (byte b from place ∷ ts)
unfolding lines_rest byte_text held_text past_held marks
byte_prints b from place ts g l i front e =
    let k = l.held in
    let text : List ℕ = spell_byte marks b ++ emitted marks nothing ts in
    let value : Line → Bytes = λ m. (numbers_due m ++ b ∷ []) ++ lines_rest (grown m) ts in
    let components : Line → Bytes = λ m. marks_text 2 k.components m ++ value (after_marks 2 k.components m) in
    let repeats : Line → Bytes = λ m. marks_text 3 k.repeats m ++ components (after_marks 3 k.repeats m) in
    let first-text = marks_text 1 k.elements l in
    let second-text = marks_text 3 k.repeats (past_elements l) in
    let third-text = marks_text 2 k.components (past_repeats l) in
    ap (λ (t : List ℕ). lines_at l.position (items_from i false t)) (byte_first marks k b from place ts ∙ let_out_runs marks k text)
    ∙ marks_give 1 refl k.elements (replicate k.repeats 3 ++ (replicate k.components 2 ++ text)) repeats
    (marks_give 3 refl k.repeats (replicate k.components 2 ++ text) components
    (marks_give 2 refl k.components text value
    (byte_gives b (emitted marks nothing ts) (λ m. lines_rest m ts) (λ m j ahead f. g (grown m) j ahead f)))) l i front e
    ∙ ap (λ (t : Bytes). front ++ t) (grouped first-text second-text third-text (numbers_due (past_held l) ++ b ∷ []) (lines_rest (after_byte l) ts))
  where
    grouped : (x y z v rest : Bytes) → x ++ (y ++ (z ++ (v ++ rest))) ≡ ((x ++ (y ++ z)) ++ v) ++ rest
    grouped x y z v rest = sym (simp append_assoc)

tokens_print : (ts : List Token) → ended_by 0 ts ≡ true → all known ts ≡ true → Prints ts
unfolding emitted spelled_next held_next separated marks ends ended_by last_or all known lines_rest after_separator separator_text numbers_due
tokens_print [] h a = absurd (false≢true h)
tokens_print (byte b from place ∷ ts) h a = byte_prints b from place ts (tokens_print ts (ended_next 0 (byte b from place) ts refl h) a)
tokens_print (separator zero place ∷ []) h a = mark_gives 0 refl [] (λ m. []) nothing_starts
tokens_print (separator zero place ∷ t ∷ ts) h a =
    mark_gives 0 refl (emitted marks nothing (t ∷ ts)) (λ m. lines_rest (holding nothing m) (t ∷ ts))
    (λ m kind b. tokens_print (t ∷ ts) h a (holding nothing m) (item kind []) [] (nothing_printed (holding nothing m) kind b))
tokens_print (separator (suc zero) place ∷ ts) h a =
    λ l i front e. tokens_print ts (ended_next 0 (separator 1 place) ts refl h) a (holding (separated l.held 1) l) i front e
tokens_print (separator (suc (suc zero)) place ∷ ts) h a =
    λ l i front e. tokens_print ts (ended_next 0 (separator 2 place) ts refl h) a (holding (separated l.held 2) l) i front e
tokens_print (separator (suc (suc (suc zero))) place ∷ ts) h a =
    λ l i front e. tokens_print ts (ended_next 0 (separator 3 place) ts refl h) a (holding (separated l.held 3) l) i front e
tokens_print (separator (suc (suc (suc (suc n)))) place ∷ ts) h a =
    let low : suc (suc (suc (suc n))) ≤ 3 = leb-true (suc (suc (suc (suc n)))) 3 (and_left (leb (suc (suc (suc (suc n)))) 3) (all known ts) a) in
    absurd (omega arith)
tokens_print (fault place ∷ ts) h a = tokens_print ts (ended_next 0 (fault place) ts refl h) a

-- ---- the contents

pub contents_lines : (ts : List Token) → ends_inside ts ≡ false → all known ts ≡ true → Shaped (map contents_of (segments ts))
    → columns_of (map contents_of (segments ts)) ≡ lines_of ts
unfolding ends_inside is_empty emitted items_from read_marks lines_at lines_rest lines_of
contents_lines ts h a s =
    columns_lines (map contents_of (segments ts)) s
    ∙ ap (λ (items : List Item). heading ++ lines_at (at 0 0 0 0) items) (contents_items ts h a s)
    ∙ ap (λ (t : Bytes). heading ++ t) (printed ts h a)
  where
    printed : (ts : List Token) → ends_inside ts ≡ false → all known ts ≡ true
        → lines_at (at 0 0 0 0) (items_from (item 0 []) false (emitted marks nothing ts)) ≡ lines_rest first ts
    printed [] h a = refl
    printed (t ∷ ts) h a = tokens_print (t ∷ ts) (not-false (ended_by 0 (t ∷ ts)) h) a first (item 0 []) [] (nothing_printed first 0 refl)
