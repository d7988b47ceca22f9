-- One step of the listing writes out the front of the table that is left, and moves its places on by that much. Assumes nothing.
use Rattle.std.specs.Prelude.{if◌then◌else◌}
use Prim.Native.Nat.{ℕ, zero, suc, ◌+◌, ◌*◌, ◌≤◌, ◌<◌}
use mathlib.Core.Path.{◌≡◌, refl, sym, ap, subst, ◌∙◌}
use mathlib.Core.Bool.{Bool, true, false}
use mathlib.Core.List.{List, [], ◌∷◌, ◌++◌, append_assoc}
use native.Mathlib.Omega.{arith}
use native.Mathlib.Nat.{add-zero}
use lib.Dec.{leb}
use lib.ListN.{length, replicate, length-append}
use Rattle.lists.specs.Lists.{gather}
use Rattle.values.specs.Tokens.{Token, byte, separator, fault}
use Rattle.values.specs.Values.{byte_of, bytes_of}
use Rattle.values.specs.Spelling.{spell_byte}
use Rattle.operations.specs.ValueList.{Entry}
use Rattle.emission_laws.specs.declared.Held.{Held}
use Rattle.emission_laws.specs.Emission.{nothing, waiting, separated, held_next, spelled_next, emitted}
use Rattle.emission_laws.proofs.Steps.{by_rank, let_out_runs, byte_first}
use Rattle.read_counts.specs.declared.Listing.{Listing}
use Rattle.read_counts.specs.Marks.{marks, read_marks, run_out, run_next, numbers_out, entry_next, entry_grow, numbers_from}
use Rattle.read_counts.specs.Tally.{entry_of, listing, fresh, values, end, marks_out, entry_after, after_marks, past_elements, past_repeats, past_held, after_byte, byte_numbers, after_separator, separator_numbers, table_rest, table_of}
use Rattle.read_counts.proofs.Marks.{read_byte, read_run}

-- ---- marks that are let out

-- the record that is open after some marks begins where the one before them ends
pub entry_after_lem : (kind count : ℕ) (e : Entry) → 0 < count → entry_after kind count e ≡ record { kind = kind; start = e.start + e.size; size = 0 }
unfolding run_next
entry_after_lem kind zero e h = absurd (omega arith)
entry_after_lem kind (suc zero) e h = refl
entry_after_lem kind (suc (suc count)) e h =
    entry_after_lem kind (suc count) (entry_next kind e) (omega arith)
    ∙ ap (λ (n : ℕ). record { kind = kind; start = n; size = 0 }) (add-zero (e.start + e.size))

-- and so it ends there too
end_after : (kind count : ℕ) (e : Entry) → (entry_after kind count e).start + (entry_after kind count e).size ≡ e.start + e.size
unfolding run_next
end_after kind zero e = refl
end_after kind (suc count) e = end_after kind count (entry_next kind e) ∙ add-zero (e.start + e.size)

-- three numbers a mark
pub marks_length : (kind count : ℕ) (e : Entry) → length (marks_out kind count e) ≡ 3 * count
unfolding run_out
marks_length kind zero e = refl
marks_length kind (suc count) e = omega (arith, marks_length kind count (entry_next kind e))

-- where none is let out nothing changes; otherwise the last one is open
pub after_none : (kind count : ℕ) (l : Listing) → count ≡ 0 → l ≡ after_marks kind count l
unfolding after_marks run_next
after_none kind count l e =
    ap (λ (n : ℕ). listing n (entry_of l) l.held) (sym (add-zero l.records))
    ∙ ap (λ (n : ℕ). after_marks kind n l) (sym e)

pub after_some : (kind count : ℕ) (l : Listing) → 0 < count
    → listing (l.records + count) (record { kind = kind; start = end l; size = 0 }) l.held ≡ after_marks kind count l
unfolding after_marks
after_some kind count l h =
    ap (λ (e : Entry). listing (l.records + count) e l.held) (sym (entry_after_lem kind count (entry_of l) h))

pub end_marks : (kind count : ℕ) (l : Listing) → end (after_marks kind count l) ≡ end l
unfolding after_marks
end_marks kind count l = end_after kind count (entry_of l)

-- how far they move the places
pub marks_moved : (kind count : ℕ) (l : Listing) {m : Listing} → m ≡ after_marks kind count l → (m.records ≡ l.records + count) × (end m ≡ end l)
unfolding after_marks
marks_moved kind count l e = (ap (λ (m : Listing). m.records) e, ap (λ (m : Listing). end m) e ∙ end_marks kind count l)

-- all that is held back
module _ (l : Listing) where
  pub held_none : waiting l.held ≡ 0 → l ≡ past_held l
  unfolding past_held after_marks
  held_none e =
      after_none 1 l.held.elements l (omega arith)
      ∙ after_none 3 l.held.repeats (past_elements l) (omega arith)
      ∙ after_none 2 l.held.components (past_repeats l) (omega arith)

  pub end_held : end (past_held l) ≡ end l
  unfolding past_held
  end_held =
      end_marks 2 l.held.components (past_repeats l) ∙ end_marks 3 l.held.repeats (past_elements l) ∙ end_marks 1 l.held.elements l

-- ---- what is written out

module _ (l : Listing) (ts : List Token) where
  pub table_byte : (b from place : ℕ) → table_rest l (byte b from place ∷ ts) ≡ byte_numbers l ++ table_rest (after_byte l) ts
  unfolding table_rest numbers_from marks byte_numbers past_held after_marks
  table_byte b from place =
      let h : Held = l.held in
      let o : Entry = entry_of (past_elements l) in
      let p : Entry = entry_of (past_repeats l) in
      let q : Entry = entry_of (past_held l) in
      let elements : List ℕ = marks_out 1 h.elements (entry_of l) in
      let repeats : List ℕ = marks_out 3 h.repeats o in
      let components : List ℕ = marks_out 2 h.components p in
      let text : List ℕ = spell_byte marks b ++ emitted marks nothing ts in
      let rest : List ℕ = numbers_from (entry_grow b q) false (emitted marks nothing ts) in
      ap (numbers_from (entry_of l) false) (byte_first marks h b from place ts ∙ let_out_runs marks h text)
      ∙ read_run numbers_out entry_next entry_grow 1 refl h.elements (entry_of l) (replicate h.repeats 3 ++ (replicate h.components 2 ++ text))
      ∙ ap (λ (ns : List ℕ). elements ++ ns)
      (read_run numbers_out entry_next entry_grow 3 refl h.repeats o (replicate h.components 2 ++ text)
      ∙ ap (λ (ns : List ℕ). repeats ++ ns)
      (read_run numbers_out entry_next entry_grow 2 refl h.components p text
      ∙ ap (λ (ns : List ℕ). components ++ ns) (read_byte numbers_out entry_next entry_grow q b (emitted marks nothing ts)))
      ∙ sym (append_assoc repeats components rest))
      ∙ sym (append_assoc elements (repeats ++ components) rest)

  pub table_separator : (rank place : ℕ)
      → table_rest l (separator rank place ∷ ts) ≡ separator_numbers l rank ++ table_rest (after_separator l rank) ts
  unfolding table_rest numbers_from read_marks emitted spelled_next held_next marks separator_numbers after_separator
  table_separator rank place = step (leb rank 0)
    where
      step : (t : Bool)
          → numbers_from (entry_of l) false ((if t then 0 ∷ [] else []) ++ emitted marks (separated l.held rank) ts)
          ≡ (if t then numbers_out (entry_of l) else [])
          ++ table_rest
          (if t then listing (l.records + 1) (entry_next 0 (entry_of l)) (separated l.held rank) else listing l.records (entry_of l) (separated l.held rank))
          ts
      step true = refl
      step false = refl

-- ---- how far the places move

module _ (l : Listing) where
  pub records_byte : 3 * (after_byte l).records ≡ 3 * l.records + length (byte_numbers l)
  unfolding past_held after_marks byte_numbers
  records_byte =
      let h : Held = l.held in
      let elements : List ℕ = marks_out 1 h.elements (entry_of l) in
      let repeats : List ℕ = marks_out 3 h.repeats (entry_of (past_elements l)) in
      let components : List ℕ = marks_out 2 h.components (entry_of (past_repeats l)) in
      omega (
        arith,
        length-append elements (repeats ++ components),
        length-append repeats components,
        marks_length 1 h.elements (entry_of l),
        marks_length 3 h.repeats (entry_of (past_elements l)),
        marks_length 2 h.components (entry_of (past_repeats l)),
      )

  pub end_byte : end (after_byte l) ≡ end l + 1
  end_byte = omega (arith, end_held l)

  pub values_byte : values (after_byte l) ≡ values l
  unfolding past_held after_marks
  values_byte = omega arith

  module _ (rank : ℕ) where
    -- what holds of each of the four listings holds after a separator
    by_separator : (P : Listing → List ℕ → Type 0) → P (listing (l.records + 1) (entry_next 0 (entry_of l)) nothing) (numbers_out (entry_of l))
        → P (listing l.records (entry_of l) (record { elements = l.held.elements + 1; repeats = 0; components = 0 })) []
        → P (listing l.records (entry_of l) (record { elements = l.held.elements; repeats = l.held.repeats + 1; components = 0 })) []
        → P (listing l.records (entry_of l) (record { elements = l.held.elements; repeats = l.held.repeats; components = l.held.components + 1 })) []
        → P (after_separator l rank) (separator_numbers l rank)
    unfolding after_separator separator_numbers
    by_separator P p q r s =
        by_rank
        (λ t h. P (if t then listing (l.records + 1) (entry_next 0 (entry_of l)) h else listing l.records (entry_of l) h) (if t then numbers_out (entry_of l) else []))
        l.held rank p q r s

    pub records_separator : 3 * (after_separator l rank).records ≡ 3 * l.records + length (separator_numbers l rank)
    records_separator = by_separator (λ m ns. 3 * m.records ≡ 3 * l.records + length ns) (omega arith) (omega arith) (omega arith) (omega arith)

    pub end_separator : end (after_separator l rank) ≡ end l
    end_separator = by_separator (λ m ns. end m ≡ end l) (omega arith) refl refl refl

    pub values_separator : values (after_separator l rank) ≤ values l + 1
    values_separator = by_separator (λ m ns. values m ≤ values l + 1) (omega arith) (omega arith) (omega arith) (omega arith)

-- ---- room

-- there is room for what is listed or held back, and for a value and a byte more for each byte of the input that is left
pub record Room (l : Listing) (left room : ℕ) : Type 0 where
  pub many : values l + left ≤ room
  pub long : end l + left ≤ room

pub room_start : (left room : ℕ) → left ≤ room → Room fresh left room
room_start left room h = record { many = omega arith; long = omega arith }

module _ (l : Listing) {left room less : ℕ} (r : Room l left room) (h : less < left) where
  pub room_byte : Room (after_byte l) less room
  room_byte = record { many = omega (arith, r.many, values_byte l); long = omega (arith, r.long, end_byte l) }

  pub room_separator : (kind : ℕ) → Room (after_separator l kind) less room
  room_separator kind = record { many = omega (arith, r.many, values_separator l kind); long = omega (arith, r.long, end_separator l kind) }

  pub room_fault : Room l less room
  room_fault = record { many = omega (arith, r.many); long = omega (arith, r.long) }

-- ---- the whole tally

-- all is what is listed and what follows
pub record Tallied (whole : List Token) (l : Listing) (rest : List Token) (left room : ℕ) : Type 0 where
  pub numbers : length (table_of whole) ≡ 3 * l.records + length (table_rest l rest)
  pub bytes : length (bytes_of whole) ≡ end l + length (bytes_of rest)
  pub enough : Room l left room

pub tallied_start : (ts : List Token) (left room : ℕ) → left ≤ room → Tallied ts fresh ts left room
unfolding table_of
tallied_start ts left room h = record { numbers = omega arith; bytes = omega arith; enough = room_start left room h }

module _ {whole : List Token} (l : Listing) {ts : List Token} {left room : ℕ} (t : Tallied whole l ts left room)
    {m : Listing} {rest : List Token} {less : ℕ} (h : less < left) where
  -- what a token writes out, and how far the end of the open value moves, is what the rest no longer has
  moved : (n : Listing) (front : List ℕ) (bytes : ℕ) → m ≡ n → table_rest l ts ≡ front ++ table_rest n rest → 3 * n.records ≡ 3 * l.records + length front
      → length (bytes_of ts) ≡ bytes + length (bytes_of rest) → end n ≡ end l + bytes → Room n less room → Tallied whole m rest less room
  moved n front bytes d w r b e enough =
      subst (λ (x : Listing). Tallied whole x rest less room) (sym d)
      (record {
        numbers = omega (arith, t.numbers, ap length w, length-append front (table_rest n rest), r);
        bytes = omega (arith, t.bytes, b, e);
        enough = enough;
      })

  pub tallied_byte : {b from place : ℕ} → ts ≡ byte b from place ∷ rest → m ≡ after_byte l → Tallied whole m rest less room
  unfolding bytes_of byte_of gather
  tallied_byte {b} {from} {place} e d =
      moved (after_byte l) (byte_numbers l) 1 d (ap (table_rest l) e ∙ table_byte l rest b from place) (records_byte l)
      (omega (arith, ap (λ (us : List Token). length (bytes_of us)) e)) (end_byte l) (room_byte l t.enough h)

  pub tallied_separator : {kind place : ℕ} → ts ≡ separator kind place ∷ rest → m ≡ after_separator l kind → Tallied whole m rest less room
  unfolding bytes_of byte_of gather
  tallied_separator {kind} {place} e d =
      moved (after_separator l kind) (separator_numbers l kind) 0 d (ap (table_rest l) e ∙ table_separator l rest kind place) (records_separator l kind)
      (omega (arith, ap (λ (us : List Token). length (bytes_of us)) e)) (omega (arith, end_separator l kind)) (room_separator l t.enough h kind)

-- a stray release character changes nothing
pub tallied_fault : {whole : List Token} (l : Listing) {ts : List Token} {left room : ℕ} → Tallied whole l ts left room
    → {rest : List Token} {less : ℕ} → less < left → {place : ℕ} → ts ≡ fault place ∷ rest → Tallied whole l rest less room
unfolding table_rest emitted spelled_next held_next bytes_of byte_of gather
tallied_fault l t h e = record {
  numbers = t.numbers ∙ ap (λ (us : List Token). 3 * l.records + length (table_rest l us)) e;
  bytes = t.bytes ∙ ap (λ (us : List Token). end l + length (bytes_of us)) e;
  enough = room_fault l t.enough h;
}

-- at the end all is listed
pub tallied_end : {whole : List Token} (l : Listing) {ts : List Token} {left room : ℕ} → Tallied whole l ts left room → ts ≡ []
    → (end l ≡ length (bytes_of whole)) × (l.records * 3 ≡ length (table_of whole))
unfolding table_rest numbers_from read_marks emitted bytes_of gather
tallied_end l t e =
    (omega (arith, t.bytes, ap (λ (us : List Token). length (bytes_of us)) e), omega (arith, t.numbers, ap (λ (us : List Token). length (table_rest l us)) e))
