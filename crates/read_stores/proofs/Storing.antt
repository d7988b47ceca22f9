-- What is put into the byte buffer and into the table, piece by piece, is the value list of the tokens. Assumes nothing.
use Prim.Native.Nat.{ℕ, ◌+◌, ◌*◌, ◌≤◌, ◌<◌}
use mathlib.Core.Path.{◌≡◌, refl, sym, ap, subst, ◌∙◌}
use mathlib.Core.List.{List, [], ◌∷◌, ◌++◌}
use native.Mathlib.Omega.{arith}
use lib.Dec.{leb}
use lib.ListN.{length, length-append}
use borrow.Author.Tests.{le-leb, lt-leb}
use Rattle.lists.specs.Lists.{gather}
use Rattle.lists.proofs.Texts.{if_true, if_false}
use Rattle.characters.specs.declared.Characters.{Characters}
use Rattle.values.specs.Tokens.{Token, byte, separator, fault, tokens_at}
use Rattle.values.specs.Values.{byte_of, bytes_of}
use Rattle.emission_laws.specs.Emission.{held_next, spelled_next, emitted}
use Rattle.storing.specs.Sinks.{SinkLaws}
use Rattle.storing.proofs.Putting.{Going, front_goes, going_step, going_done}
use Rattle.read_counts.specs.declared.Listing.{Listing}
use Rattle.read_counts.specs.Marks.{numbers_out, read_marks, numbers_from}
use Rattle.read_counts.specs.Tally.{entry_of, fresh, values, end, after_marks, past_held, after_byte, byte_numbers, after_separator, separator_numbers, table_rest, table_of}
use Rattle.read_counts.proofs.Counts.{tokens_few}
use Rattle.read_counts.proofs.Steps.{table_byte, table_separator, records_byte, end_byte, records_separator, end_separator, Room, room_start, room_byte, room_separator, room_fault, Tallied, tallied_start, tallied_byte, tallied_separator, tallied_fault, tallied_end}

-- ---- a separator

-- a terminator ends a value, and another separator ends none yet
pub terminator_numbers : (l : Listing) (kind : ℕ) → kind ≡ 0 → separator_numbers l kind ≡ numbers_out (entry_of l)
unfolding separator_numbers
terminator_numbers l kind z = if_true (leb kind 0) (numbers_out (entry_of l)) [] (le-leb kind 0 (omega arith))

pub no_numbers : (l : Listing) (kind : ℕ) → (kind ≡ 0 → ⊥) → separator_numbers l kind ≡ []
unfolding separator_numbers
no_numbers l kind z = if_false (leb kind 0) (numbers_out (entry_of l)) [] (lt-leb kind 0 (omega arith))

-- ---- how much the values of some tokens take

-- no more bytes and values than tokens
values_within : (l : Listing) (ts : List Token) {room : ℕ} → Room l (length ts) room
    → (end l + length (bytes_of ts) ≤ room) × (3 * l.records + length (table_rest l ts) ≤ 3 * room)
unfolding table_rest numbers_from read_marks emitted spelled_next held_next bytes_of byte_of gather
values_within l [] r = (omega (arith, r.long), omega (arith, r.many))
values_within l (byte b from place ∷ ts) r =
    let (bytes, numbers) = values_within (after_byte l) ts (room_byte l r (omega arith)) in (
      omega (arith, bytes, end_byte l),
      omega (arith, numbers, ap length (table_byte l ts b from place), length-append (byte_numbers l) (table_rest (after_byte l) ts), records_byte l),
    )
values_within l (separator rank place ∷ ts) r =
    let (bytes, numbers) = values_within (after_separator l rank) ts (room_separator l r (omega arith) rank) in (
      omega (arith, bytes, end_separator l rank),
      omega (
        arith,
        numbers,
        ap length (table_separator l ts rank place),
        length-append (separator_numbers l rank) (table_rest (after_separator l rank) ts),
        records_separator l rank,
      ),
    )
values_within l (fault place ∷ ts) r = values_within l ts (room_fault l r (omega arith))

-- and no more of either than bytes, and one
pub values_few : (c : Characters) (s : List ℕ) (start : ℕ)
    → (length (bytes_of (tokens_at c s start)) ≤ length s + 1) × (length (table_of (tokens_at c s start)) ≤ 3 * (length s + 1))
unfolding table_of
values_few c s start =
    let (bytes, numbers) =
    values_within fresh (tokens_at c s start) (room_start (length (tokens_at c s start)) (length s + 1) (tokens_few c s start)) in
    (omega (arith, bytes), omega (arith, numbers))

-- ---- the whole list

-- the values of the rest of the tokens, put from here, give the whole, in the byte buffer and in the table; and what is listed is counted
pub record Listed (holds : List ℕ → ℕ → List ℕ → List ℕ) (room : List ℕ → ℕ) (b₀ b₁ t₀ t₁ : List ℕ) (whole : List Token) (l : Listing) (rest : List Token) (left most : ℕ) : Type 0 where
  pub bytes : Going holds room b₀ b₁ 0 (end l) (bytes_of whole) (bytes_of rest)
  pub table : Going holds room t₀ t₁ 0 (l.records * 3) (table_of whole) (table_rest l rest)
  pub tally : Tallied whole l rest left most

pub listed_start : {holds : List ℕ → ℕ → List ℕ → List ℕ} {room : List ℕ → ℕ} {l : Listing} (b t : List ℕ) (ts : List Token) (left most : ℕ) → l ≡ fresh → length (bytes_of ts) ≤ room b
    → length (table_of ts) ≤ room t → left ≤ most → Listed holds room b b t t ts l ts left most
unfolding table_of
listed_start {holds} {room} b t ts left most d p q h =
    subst (λ (x : Listing). Listed holds room b b t t ts x ts left most) (sym d)
    (record {
      bytes = record { put = refl; fits = omega arith; same_room = refl };
      table = record { put = refl; fits = omega arith; same_room = refl };
      tally = tallied_start ts left most h;
    })

module _ {holds : List ℕ → ℕ → List ℕ → List ℕ} {room : List ℕ → ℕ} (laws : SinkLaws holds room) {b₀ b₁ t₀ t₁ : List ℕ} {whole : List Token} (l : Listing) {ts : List Token}
    {left most : ℕ} (g : Listed holds room b₀ b₁ t₀ t₁ whole l ts left most) where
  -- a byte of a value
  module _ {b from place : ℕ} {rest : List Token} (e : ts ≡ byte b from place ∷ rest) where
    bytes_first : bytes_of ts ≡ (b ∷ []) ++ bytes_of rest
    unfolding bytes_of byte_of gather
    bytes_first = ap bytes_of e

    table_first : table_rest l ts ≡ byte_numbers l ++ table_rest (after_byte l) rest
    table_first = ap (table_rest l) e ∙ table_byte l rest b from place

    pub byte_fits : end l < room b₁
    byte_fits = omega (arith, front_goes laws g.bytes (b ∷ []) (bytes_of rest) bytes_first)

    pub records_fit : values l * 3 ≤ room t₁
    unfolding past_held after_marks
    records_fit = omega (arith, front_goes laws g.table (byte_numbers l) (table_rest (after_byte l) rest) table_first, records_byte l)

    pub listed_byte : {b₂ t₂ : List ℕ} {m : Listing} {less : ℕ} → b₂ ≡ holds b₁ (end l) (b ∷ []) → t₂ ≡ holds t₁ (l.records * 3) (byte_numbers l)
        → m ≡ after_byte l → less < left → Listed holds room b₀ b₂ t₀ t₂ whole m rest less most
    listed_byte {b₂} {t₂} {m} {less} p q d h =
        subst (λ (x : Listing). Listed holds room b₀ b₂ t₀ t₂ whole x rest less most) (sym d)
        (record {
          bytes = going_step laws g.bytes (b ∷ []) (bytes_of rest) bytes_first p (end_byte l);
          table = going_step laws g.table (byte_numbers l) (table_rest (after_byte l) rest) table_first q (omega (arith, records_byte l));
          tally = tallied_byte l g.tally h e refl;
        })

  -- a separator
  module _ {kind place : ℕ} {rest : List Token} (e : ts ≡ separator kind place ∷ rest) where
    numbers_first : table_rest l ts ≡ separator_numbers l kind ++ table_rest (after_separator l kind) rest
    numbers_first = ap (table_rest l) e ∙ table_separator l rest kind place

    pub separator_fits : l.records * 3 + length (separator_numbers l kind) ≤ room t₁
    separator_fits = front_goes laws g.table (separator_numbers l kind) (table_rest (after_separator l kind) rest) numbers_first

    pub listed_separator : {t₂ : List ℕ} {m : Listing} {less : ℕ} → t₂ ≡ holds t₁ (l.records * 3) (separator_numbers l kind)
        → m ≡ after_separator l kind → less < left → Listed holds room b₀ b₁ t₀ t₂ whole m rest less most
    unfolding bytes_of byte_of gather
    listed_separator {t₂} {m} {less} q d h =
        subst (λ (x : Listing). Listed holds room b₀ b₁ t₀ t₂ whole x rest less most) (sym d)
        (record {
          bytes = going_step laws g.bytes [] (bytes_of rest) (ap bytes_of e) (sym (laws.none b₁ (end l))) (omega (arith, end_separator l kind));
          table = going_step laws g.table (separator_numbers l kind) (table_rest (after_separator l kind) rest) numbers_first q (omega (arith, records_separator l kind));
          tally = tallied_separator l g.tally h e refl;
        })

  -- a stray release character puts nothing
  pub listed_fault : {place : ℕ} {rest : List Token} {less : ℕ} → ts ≡ fault place ∷ rest → less < left → Listed holds room b₀ b₁ t₀ t₁ whole l rest less most
  unfolding table_rest emitted spelled_next held_next bytes_of byte_of gather
  listed_fault {place} {rest} e h = record {
    bytes = subst (λ (bs : List ℕ). Going holds room b₀ b₁ 0 (end l) (bytes_of whole) bs) (ap bytes_of e) g.bytes;
    table = subst (λ (ns : List ℕ). Going holds room t₀ t₁ 0 (l.records * 3) (table_of whole) ns) (ap (table_rest l) e) g.table;
    tally = tallied_fault l g.tally h e;
  }

  -- at the end all is put, and counted
  pub listed_end : ts ≡ [] → (b₁ ≡ holds b₀ 0 (bytes_of whole)) × (t₁ ≡ holds t₀ 0 (table_of whole)) × (end l ≡ length (bytes_of whole))
      × (l.records * 3 ≡ length (table_of whole))
  unfolding table_rest numbers_from read_marks emitted bytes_of gather
  listed_end e = let (bytes, numbers) = tallied_end l g.tally e in
      (going_done laws g.bytes (ap bytes_of e), going_done laws g.table (ap (table_rest l) e), bytes, numbers)
