-- The parts one after the other are the list put together; each of them can be counted, measured and stored. Assumes nothing.
use Rattle.std.specs.Prelude.{if◌then◌else◌}
use Prim.Native.Nat.{ℕ, zero, suc, ◌+◌, ◌*◌, ◌%◌, ◌≤◌, ◌<◌}
use mathlib.Core.Path.{◌≡◌, refl, sym, ap, ap₂, subst, ◌∙◌}
use mathlib.Core.Bool.{Bool, true, false, not, ◌||◌, false≢true}
use mathlib.Core.List.{List, [], ◌∷◌, ◌++◌, map, append-eq-nil_iff, cons≢nil}
use mathlib.Core.Option.{Option, none, some}
use native.Mathlib.Decide.{dec_le}
use native.Mathlib.Nat.{lt_of_not-le}
use native.Mathlib.Omega.{arith}
use lib.Dec.{eqb, ltb, lit≤}
use lib.ListN.{length, take, drop, get_or, length-map}
use borrow.Author.Tests.{eqb-true, not-false}
use Rattle.lists.specs.Lists.{text, is_empty, is_single, member, all, at, gather, maybe}
use Rattle.lists.proofs.Texts.{gather_append, or_none_left, or_none_right}
use Rattle.nesting.specs.Nesting.{shaped}
use Rattle.characters.specs.declared.Characters.{Characters}
use Rattle.characters.specs.Characters.{is_break, has_release, has_repetition, characters_of}
use Rattle.refusals.specs.declared.Fault.TheVariants.{BadList}
use Rattle.refusals.specs.declared.Refusal.{Refusal}
use Rattle.refusals.specs.Refusals.{met, place_if}
use Rattle.refusals.specs.Limits.{most_bytes, most_numbers}
use Rattle.refusals.proofs.Lowest.{lowest_none}
use Rattle.refusals.proofs.Stages.{place_none, met_none}
use Rattle.values.specs.Tokens.{Token, tokens_at}
use Rattle.values.specs.Trimming.{value_at}
use Rattle.values.specs.Spelling.{Bytes, leads_break, begins_broken}
use Rattle.stages.specs.Contents.{body_tokens}
use Rattle.stages.specs.Stages.{refusal_of}
use Rattle.operations.specs.Compare.{is_accepted}
use Rattle.operations.specs.ValueList.{Item, Entry, entries, value_in, listed_in, list_repeat, list_element, list_segment, list_of, list_bytes, list_table}
use Rattle.operations.specs.Write.{numbers_where, bad_table, bad_entry, bad_list}
use Rattle.spelling_laws.specs.Bodies.{Unbroken}
use Rattle.trimming_laws.proofs.Tables.{list_of_sound}
use Rattle.elements.specs.Elements.{element_from}
use Rattle.elements.specs.Values.{value_in as value_read}
use Rattle.value_lists.proofs.Records.{records_end}
use Rattle.value_list_text.specs.Composing.{item_of}
use Rattle.write.proofs.Writing.{list_passed}
use Rattle.received_pieces.specs.Pieces.{element_in, Spelt}
use Rattle.lent_elements.specs.Leading.{leading, lent_items}
use Rattle.acknowledgements.specs.Lent.{LentList, Lent, element_lent, is_bad_lent, any_bad_lent}
use Rattle.acknowledgements.specs.Received.{element_of, sender_of, recipient_of, reference_received, level_received, version_received, action_code, characters_to_write, cannot_be_acknowledged}
use Rattle.acknowledgements.specs.Acknowledgement.{only, word, acknowledgement, items_of}
use Rattle.acknowledgement_laws.proofs.Lent.{elementary, lent_records, lent_shaped}
use Rattle.acknowledgement_laws.proofs.Theorems.{ready, list_shaped}
use Rattle.acknowledgement_parts.specs.declared.Part.{Part}
use Rattle.acknowledgement_parts.specs.declared.Part.TheVariants.{Syntax, Element, Date, Reference, Message}
use Rattle.acknowledgement_parts.specs.declared.Received.{Received}
use Rattle.acknowledgement_parts.specs.Parts.{words, tag_at, figure_at, parts_of, part_items, row_items, Lendable, Fine, Stands}
use Rattle.reported.specs.Reporting.{action_place, Takes}
use Rattle.acknowledge.specs.Rows.{row, Ready, AllStand}
use Rattle.acknowledge.proofs.Taken.{input_short, form_releases, element_taken, element_single, sender_spelt, recipient_spelt, reference_spelt, level_taken, version_taken}

-- ---- a lent list

-- the records of one element as they are listed after a tag
leading_element : (e : List (List Bytes)) → shaped Bytes 2 e ≡ true → leading (list_element 0 e) ≡ list_element 1 e
unfolding leading list_element list_repeat is_empty all
leading_element [] h = absurd (false≢true h)
leading_element ([] ∷ rs) h = absurd (false≢true h)
leading_element ((v ∷ vs) ∷ rs) h = refl

-- a table of whole records has three numbers for each
thirds_of : (table : List ℕ) → length table % 3 ≡ 0 → length table ≡ 3 * length (entries table)
unfolding entries
thirds_of [] h = refl
thirds_of (a ∷ []) h = absurd (omega (arith, h))
thirds_of (a ∷ b ∷ []) h = absurd (omega (arith, h))
thirds_of (a ∷ b ∷ c ∷ rest) h = omega (arith, thirds_of rest (omega (arith, h)))

module _ (l : LentList) (h : is_bad_lent l ≡ false) where
  pub lent_items_lem : lent_items l ≡ list_element 1 (element_lent l)
  lent_items_lem = ap leading (sym (lent_records l h)) ∙ leading_element (element_lent l) (lent_shaped l h)

  -- nothing of the table is left over
  whole_records : length l.table % 3 ≡ 0
  unfolding bad_list bad_table
  whole_records =
      let long : Bool = ltb most_numbers (length l.table) in
      let odd : Bool = not (eqb (length l.table % 3) 0) in
      let inner : Bool = maybe false (λ e. not (eqb e.kind 0)) (at (entries l.table) 0) in
      let quiet = ((append-eq-nil_iff {p = place_if (bad_table l.table) 0} {q = numbers_where (bad_entry l.bytes) 0 (entries l.table)}).0 (elementary l h).sound).0 in
      let good = (place_none (bad_table l.table) 0).0 quiet in
      eqb-true (length l.table % 3) 0 (not-false (eqb (length l.table % 3) 0) (or_none_right long odd (or_none_left (long || odd) inner good)))

  item : Entry → Item
  item e = record { kind = e.kind; value = value_in l.bytes e }

  -- there is a record
  some_record : 3 ≤ length l.table
  unfolding listed_in item
  some_record =
      elim (dec_le 3 (length l.table)) [
        | yes k ↦ k
        | no k ↦ absurd (cons≢nil (sym (elementary l h).records ∙ ap (map item) (records_end l.table 0 (omega (arith, lt_of_not-le k)))))
      ]

  pub lendable : Lendable l
  unfolding listed_in item
  lendable =
      let passed = list_passed l.bytes l.table ((lowest_none (met BadList (bad_list l.bytes l.table))).1 ((met_none BadList (bad_list l.bytes l.table)).1 (elementary l h).sound)) in
      record {
        good = passed.good;
        some = some_record;
        short = passed.short;
        first = passed.first;
        thirds = thirds_of l.table whole_records ∙ ap (λ (n : ℕ). 3 * n) (sym (length-map (entries l.table) item));
      }

-- ---- the parts

-- what holds of each of a row of parts holds of the one of a number
infixr 5 ◌⊲◌
data Each (P : Part → Type 0) : List Part → Type 0 where
  none_left : Each P []
  ◌⊲◌ : {p : Part} {ps : List Part} → P p → Each P ps → Each P (p ∷ ps)

each_at : (P : Part → Type 0) (ps : List Part) → Each P ps → (i : ℕ) → i < length ps → P (get_or ps i Date)
each_at P [] h i k = absurd (omega (arith, k))
each_at P (p ∷ ps) (h ⊲ hs) zero k = h
each_at P (p ∷ ps) (h ⊲ hs) (suc i) k = each_at P ps hs i (omega (arith, k))

action_low : (o : Option Refusal) → action_place o + 1 ≤ 19
action_low none = lit≤ tt
action_low (some q) = lit≤ tt

module _ (s : List ℕ) (l : Lent) (r : Received) (unmet : cannot_be_acknowledged s ≡ false) (t : Takes s r) where
  -- a piece that begins at a place, read with the characters that were taken over
  abbrev piece : ℕ → List Token
  piece from = tokens_at r.characters s from

  piece_is : (from : ℕ) {ts : List Token} → tokens_at (characters_of s) s from ≡ ts → piece from ≡ ts
  piece_is from e = ap (λ (d : Characters). tokens_at d s from) t.characters ∙ e

  -- ---- each can be measured and stored

  spelt_at : (from : ℕ) {ts : List Token} → tokens_at (characters_of s) s from ≡ ts → Spelt ts → Spelt (piece from)
  spelt_at from e h = subst Spelt (sym (piece_is from e)) h

  pub all_ready : any_bad_lent l ≡ false → Ready s l r
  unfolding parts_of
  all_ready lent =
      let given = ready s l unmet lent in
      let date = lendable l.date given.date in
      let reference = lendable l.reference given.reference in
      let message = lendable l.message given.message in
      let sender = spelt_at r.sender t.sender (sender_spelt s unmet) in
      let recipient = spelt_at r.recipient t.recipient (recipient_spelt s unmet) in
      let named = spelt_at r.reference t.reference (reference_spelt s unmet) in
      let tag : 0 ≤ 1 = lit≤ tt in
      let figure : 1 ≤ 1 = lit≤ tt in
      record {
        short = input_short s unmet;
        fine =
            each_at (Fine s r.characters l) (parts_of r)
            ((tag, lit≤ tt) ⊲ tt ⊲ recipient ⊲ sender ⊲ date ⊲ reference
            ⊲ (tag, lit≤ tt) ⊲ (figure, lit≤ tt) ⊲ message
            ⊲ (tag, lit≤ tt) ⊲ named ⊲ sender ⊲ recipient ⊲ (figure, omega (arith, t.action, action_low (refusal_of s)))
            ⊲ (tag, lit≤ tt) ⊲ (figure, lit≤ tt) ⊲ (figure, lit≤ tt)
            ⊲ (tag, lit≤ tt) ⊲ (figure, lit≤ tt) ⊲ reference ⊲ none_left);
      }

  -- ---- each stands under the characters of the normal form

  single_at : (k : ℕ) → k ≤ 5 → (from : ℕ) → tokens_at (characters_of s) s from ≡ element_from k (body_tokens s)
      → (has_release (characters_to_write s) ≡ true) × (has_repetition (characters_to_write s) ≡ false → is_single (element_in (piece from)) ≡ true)
  single_at k low from e =
      (form_releases s unmet, λ n. ap (λ (ts : List Token). is_single (element_in ts)) (piece_is from e) ∙ element_single s unmet k low n)

  pub all_stand : {c : Characters} → c ≡ characters_to_write s → AllStand c s r
  unfolding parts_of
  all_stand {c} same =
      let released = form_releases s unmet in
      let sender = single_at 2 (lit≤ tt) r.sender t.sender in
      let recipient = single_at 3 (lit≤ tt) r.recipient t.recipient in
      let named = single_at 5 (lit≤ tt) r.reference t.reference in
      subst (λ (d : Characters). AllStand d s r) (sym same)
      (each_at (Stands (characters_to_write s) s r.characters) (parts_of r)
      (released ⊲ released ⊲ recipient ⊲ sender ⊲ released ⊲ released
      ⊲ released ⊲ released ⊲ released
      ⊲ released ⊲ named ⊲ sender ⊲ recipient ⊲ released
      ⊲ released ⊲ released ⊲ released
      ⊲ released ⊲ released ⊲ released ⊲ none_left))

  -- ---- they are the list put together

  abbrev items : Part → List Item
  items p = part_items s r.characters l p

  element_items : (k : ℕ) → k ≤ 5 → (from : ℕ) → tokens_at (characters_of s) s from ≡ element_from k (body_tokens s)
      → items (Element from) ≡ list_element 1 (element_of s k)
  element_items k low from e = ap (λ (ts : List Token). list_element 1 (element_in ts)) (piece_is from e) ∙ ap (list_element 1) (element_taken s unmet k low)

  syntax_items_lem : items (Syntax r.level r.version) ≡ list_element 1 ((level_received s ∷ version_received s ∷ []) ∷ [])
  unfolding list_element list_repeat gather
  syntax_items_lem =
      ap₂ (λ (level version : Bytes). record { kind = 1; value = level } ∷ record { kind = 2; value = version } ∷ [])
      (ap value_read (piece_is r.level t.level) ∙ level_taken s)
      (ap value_read (piece_is r.version t.version) ∙ version_taken s)

  action_items : items (figure_at r.action) ≡ list_element 1 (only (action_code s))
  unfolding list_element list_repeat gather value_in action_code is_accepted maybe
  action_items =
      ap (λ (start : ℕ). item_of words (record { kind = 1; start = start; size = 1 }) ∷ []) t.action ∙ step (refusal_of s)
    where
      step : (o : Option Refusal)
          → item_of words (record { kind = 1; start = action_place o; size = 1 }) ∷ []
          ≡ record { kind = 1; value = if maybe true (λ q. false) o then text "7" else text "4" } ∷ []
      step none = refl
      step (some q) = refl

  -- parts that list these elements, one each
  infixr 5 ◌◂◌
  data Lists : List Part → List (List (List Bytes)) → Type 0 where
    no_more : Lists [] []
    ◌◂◌ : {p : Part} {ps : List Part} {e : List (List Bytes)} {es : List (List (List Bytes))} → items p ≡ list_element 1 e → Lists ps es → Lists (p ∷ ps) (e ∷ es)

  elements_items : (ps : List Part) (es : List (List (List Bytes))) → Lists ps es → gather items ps ≡ gather (list_element 1) es
  unfolding gather
  elements_items [] [] no_more = refl
  elements_items [] (e ∷ es) h = elim h [ ]
  elements_items (p ∷ ps) [] h = elim h [ ]
  elements_items (p ∷ ps) (e ∷ es) (d ◂ h) = ap₂ ◌++◌ d (elements_items ps es h)

  -- a segment: a tag, and its elements
  segment_items : (start : ℕ) (name : Bytes) (ps : List Part) (es : List (List (List Bytes))) → take 3 (drop start words) ≡ name → Lists ps es
      → gather items (tag_at start ∷ ps) ≡ list_segment (only name ∷ es)
  unfolding gather list_segment list_element list_repeat value_in
  segment_items start name ps es d h =
      ap₂ (λ (value : Bytes) (more : List Item). record { kind = 0; value = value } ∷ more) d (elements_items ps es h)

  figure_items : (start : ℕ) (value : Bytes) → take 1 (drop start words) ≡ value → items (figure_at start) ≡ list_element 1 (only value)
  unfolding list_element list_repeat gather value_in
  figure_items start value e = ap (λ (v : Bytes). record { kind = 1; value = v } ∷ []) e

  both : (ps qs : List Part) {us vs : List Item} → gather items ps ≡ us → gather items qs ≡ vs → gather items (ps ++ qs) ≡ us ++ vs
  both ps qs d e = gather_append items ps qs ∙ ap₂ ◌++◌ d e

  module _ (lent : any_bad_lent l ≡ false) where
    abbrev unb : List Part
    unb = tag_at 0 ∷ Syntax r.level r.version ∷ Element r.recipient ∷ Element r.sender ∷ Date ∷ Reference ∷ []

    abbrev unh : List Part
    unh = tag_at 3 ∷ figure_at 15 ∷ Message ∷ []

    abbrev uci : List Part
    uci = tag_at 6 ∷ Element r.reference ∷ Element r.sender ∷ Element r.recipient ∷ figure_at r.action ∷ []

    abbrev unt : List Part
    unt = tag_at 9 ∷ figure_at 16 ∷ figure_at 15 ∷ []

    abbrev unz : List Part
    unz = tag_at 12 ∷ figure_at 15 ∷ Reference ∷ []

    sender : items (Element r.sender) ≡ list_element 1 (sender_of s)
    sender = element_items 2 (lit≤ tt) r.sender t.sender

    recipient : items (Element r.recipient) ≡ list_element 1 (recipient_of s)
    recipient = element_items 3 (lit≤ tt) r.recipient t.recipient

    named : items (Element r.reference) ≡ list_element 1 (reference_received s)
    named = element_items 5 (lit≤ tt) r.reference t.reference

    one : items (figure_at 15) ≡ list_element 1 (word "1")
    one = figure_items 15 (text "1") refl

    lent_reference : items Reference ≡ list_element 1 (element_lent l.reference)
    lent_reference = lent_items_lem l.reference (ready s l unmet lent).reference

    unb_items : gather items unb
        ≡ list_segment
        (word "UNB" ∷ ((level_received s ∷ version_received s ∷ []) ∷ []) ∷ recipient_of s ∷ sender_of s ∷ element_lent l.date ∷ element_lent l.reference ∷ [])
    unb_items =
        segment_items 0 (text "UNB") _ _ refl
        (syntax_items_lem ◂ recipient ◂ sender ◂ lent_items_lem l.date (ready s l unmet lent).date ◂ lent_reference ◂ no_more)

    unh_items : gather items unh ≡ list_segment (word "UNH" ∷ word "1" ∷ element_lent l.message ∷ [])
    unh_items = segment_items 3 (text "UNH") _ _ refl (one ◂ lent_items_lem l.message (ready s l unmet lent).message ◂ no_more)

    uci_items : gather items uci ≡ list_segment (word "UCI" ∷ reference_received s ∷ sender_of s ∷ recipient_of s ∷ only (action_code s) ∷ [])
    uci_items = segment_items 6 (text "UCI") _ _ refl (named ◂ sender ◂ recipient ◂ action_items ◂ no_more)

    unt_items : gather items unt ≡ list_segment (word "UNT" ∷ word "3" ∷ word "1" ∷ [])
    unt_items = segment_items 9 (text "UNT") _ _ refl (figure_items 16 (text "3") refl ◂ one ◂ no_more)

    unz_items : gather items unz ≡ list_segment (word "UNZ" ∷ word "1" ∷ element_lent l.reference ∷ [])
    unz_items = segment_items 12 (text "UNZ") _ _ refl (one ◂ lent_reference ◂ no_more)

    pub row_is : row s l r ≡ items_of s l
    unfolding row_items parts_of items_of list_of acknowledgement gather
    row_is =
        both unb (unh ++ (uci ++ (unt ++ (unz ++ [])))) unb_items
        (both unh (uci ++ (unt ++ (unz ++ []))) unh_items
        (both uci (unt ++ (unz ++ [])) uci_items
        (both unt (unz ++ []) unt_items
        (both unz [] unz_items refl))))

    -- refusal 15 passes them where they are not too many
    list_unbroken : Unbroken (acknowledgement s l)
    unfolding Unbroken acknowledgement all begins_broken leads_break value_at at maybe is_break member
    list_unbroken = refl

    pub row_sound : length (row s l r) ≤ most_bytes → bad_list (list_bytes (row s l r)) (list_table (row s l r)) ≡ []
    unfolding items_of
    row_sound h =
        let list = acknowledgement s l in
        ap (λ (xs : List Item). bad_list (list_bytes xs) (list_table xs)) row_is
        ∙ list_of_sound list (list_shaped s l (ready s l unmet lent)) list_unbroken (omega (arith, h, ap length row_is))
