-- Records passed one by one, wherever their values stand: how far the text goes, and what is held back. Assumes nothing.
use Prim.Native.Nat.{ℕ, ◌+◌, ◌*◌, ◌≤◌}
use mathlib.Core.Path.{◌≡◌, refl, sym, ap, subst, ◌∙◌}
use mathlib.Core.Bool.{true}
use mathlib.Core.List.{List, [], ◌∷◌, ◌++◌, map}
use native.Mathlib.Omega.{arith}
use lib.ListN.{length, drop, length-append, length-map, length-take, length-drop}
use Rattle.characters.specs.declared.Characters.{Characters}
use Rattle.values.specs.Tokens.{Token, separator}
use Rattle.values.specs.Spelling.{Bytes, spell_byte}
use Rattle.emission_laws.specs.declared.Held.{Held}
use Rattle.emission_laws.specs.declared.Measure.{Measure}
use Rattle.emission_laws.specs.Emission.{nothing, waiting, let_out, held_next, spelled_next, emitted, after}
use Rattle.emission_laws.proofs.Cases.{by_spelling}
use Rattle.emission_laws.proofs.Steps.{goes_on}
use Rattle.held_separators.specs.Putting.{value_byte, value_tokens}
use Rattle.operations.specs.ValueList.{Item, rank_of, entries, value_in, listed_in}
use Rattle.value_lists.specs.declared.Record.{Record}
use Rattle.value_lists.specs.Records.{entry_of, well_listed}
use Rattle.value_lists.proofs.Records.{good_value, good_rest}
use Rattle.value_list_text.specs.Composing.{record_tokens, list_tokens, first_measure, composed_text, item_of}
use Rattle.value_list_text.proofs.Composed.{record_holds, whole_length}

-- ---- a record

-- a value takes a byte at least for each of its own
value_least : (c : Characters) (h : Held) (value : Bytes) → length value ≤ length (emitted c h (value_tokens value))
unfolding emitted spelled_next held_next
value_least c h [] = omega arith
value_least c h (b ∷ bs) =
    let front : List ℕ = let_out c h ++ spell_byte c b in
    let rest : List ℕ = emitted c nothing (value_tokens bs) in
    omega (
      arith,
      length-append front rest,
      length-append (let_out c h) (spell_byte c b),
      by_spelling (λ t. 1 ≤ length t) c b (omega arith) (omega arith),
      value_least c nothing bs,
    )

pub record_least : (c : Characters) (m : Measure) (l : Item) → length l.value ≤ (after c m (record_tokens l)).total
unfolding after emitted
record_least c m l =
    let mark : Token = separator (rank_of l.kind) 0 in
    let front : List ℕ = spelled_next c m.held mark in
    let rest : List ℕ = emitted c (held_next m.held mark) (value_tokens l.value) in
    omega (arith, length-append front rest, value_least c (held_next m.held mark) l.value)

-- a record is a token more than its value has bytes
pub record_length : (l : Item) → length (record_tokens l) ≡ 1 + length l.value
record_length l = omega (arith, length-map l.value value_byte)

-- the tokens of a row that begins with a record
pub row_next : {items : List Item} (l : Item) (ls : List Item) → items ≡ l ∷ ls → list_tokens items ≡ record_tokens l ++ list_tokens ls
unfolding list_tokens
row_next l ls d = ap list_tokens d

pub row_end : {items : List Item} → items ≡ [] → list_tokens items ≡ separator 0 0 ∷ []
unfolding list_tokens
row_end d = ap list_tokens d

-- ---- record by record

-- The records before those that are left are passed: each of them leaves one separator more held back, at most.
pub record Gone (c : Characters) (whole : List Item) (m : Measure) (left : List Item) : Type 0 where
  pub moved : after c first_measure (list_tokens whole) ≡ after c m (list_tokens left)
  pub few : waiting m.held + length left ≤ length whole

module _ (c : Characters) (whole : List Item) where
  pub gone_start : {m : Measure} → m ≡ first_measure → Gone c whole m whole
  gone_start e = subst (λ (m : Measure). Gone c whole m whole) (sym e) (record { moved = refl; few = omega arith })

  module _ (m : Measure) {left : List Item} (g : Gone c whole m left) where
    -- the text is at least as long as what is measured
    pub gone_most : m.total ≤ length (composed_text c whole)
    unfolding after
    gone_most = omega (arith, whole_length c whole, ap (λ (n : Measure). n.total) g.moved)

    pub gone_next : (l : Item) (ls : List Item) {n : Measure} → left ≡ l ∷ ls → n ≡ after c m (record_tokens l) → Gone c whole n ls
    gone_next l ls d e =
        record {
          moved = goes_on c m g.moved (record_tokens l) (list_tokens ls) (row_next l ls d) e;
          few = omega (arith, g.few, ap length d, record_holds c m l e);
        }

    -- the last segment is ended
    pub gone_end : {n : Measure} → left ≡ [] → n ≡ after c m (separator 0 0 ∷ []) → n.total ≡ length (composed_text c whole)
    gone_end d e =
        ap (λ (k : Measure). k.total) (e ∙ ap (after c m) (sym (row_end d)) ∙ sym g.moved) ∙ sym (whole_length c whole)

  -- the text is at least as long as any of its values
  pub gone_long : (m : Measure) {left : List Item} → Gone c whole m left → (l : Item) (ls : List Item) → left ≡ l ∷ ls
      → length l.value ≤ length (composed_text c whole)
  gone_long m g l ls d =
      let n : Measure = after c m (record_tokens l) in
      omega (arith, record_least c m l, gone_most n (gone_next m g l ls d refl))

-- ---- the records that a table lists

entries_few : (table : List ℕ) → 3 * length (entries table) ≤ length table
unfolding entries
entries_few [] = omega arith
entries_few (a ∷ []) = omega arith
entries_few (a ∷ b ∷ []) = omega arith
entries_few (a ∷ b ∷ d ∷ rest) = omega (arith, entries_few rest)

-- one at most for three numbers
pub listed_few : (bytes table : List ℕ) → 3 * length (listed_in bytes table) ≤ length table
unfolding listed_in
listed_few bytes table = omega (arith, entries_few table, length-map {B = Item} (entries table) (λ e. record { kind = e.kind; value = value_in bytes e }))

module _ (bytes : List ℕ) where
  -- a record in front of others
  pub listed_next : (left rest : List ℕ) (r : Record) → entries left ≡ entry_of r ∷ entries rest → listed_in bytes left ≡ item_of bytes r ∷ listed_in bytes rest
  unfolding listed_in
  listed_next left rest r d = ap (map (λ e. record { kind = e.kind; value = value_in bytes e })) d

  pub listed_end : (left : List ℕ) → entries left ≡ [] → listed_in bytes left ≡ []
  unfolding listed_in
  listed_end left d = ap (map (λ e. record { kind = e.kind; value = value_in bytes e })) d

-- The records before those that are left of a table are passed, and what is left is good.
pub record Reached (c : Characters) (bytes table : List ℕ) (m : Measure) (left : List ℕ) : Type 0 where
  pub gone : Gone c (listed_in bytes table) m (listed_in bytes left)
  pub good : well_listed bytes left ≡ true

module _ (c : Characters) (bytes table : List ℕ) where
  pub reached_start : well_listed bytes table ≡ true → {m : Measure} → m ≡ first_measure → Reached c bytes table m table
  reached_start w d = record { gone = gone_start c (listed_in bytes table) d; good = w }

  module _ (m : Measure) {left : List ℕ} (g : Reached c bytes table m left) (r : Record) (rest : List ℕ) (d : entries left ≡ entry_of r ∷ entries rest) where
    pub next_value : r.start + r.size ≤ length bytes
    next_value = good_value bytes left rest d g.good

    -- the text is at least as long as the next value
    pub long_value : r.size ≤ length (composed_text c (listed_in bytes table))
    unfolding value_in
    long_value = omega (
      arith,
      next_value,
      length-take r.size (drop r.start bytes),
      length-drop r.start bytes,
      gone_long c (listed_in bytes table) m g.gone (item_of bytes r) (listed_in bytes rest) (listed_next bytes left rest r d),
    )

    pub reached_next : {n : Measure} → n ≡ after c m (record_tokens (item_of bytes r)) → Reached c bytes table n rest
    reached_next e = record {
      gone = gone_next c (listed_in bytes table) m g.gone (item_of bytes r) (listed_in bytes rest) (listed_next bytes left rest r d) e;
      good = good_rest bytes left rest d g.good;
    }
