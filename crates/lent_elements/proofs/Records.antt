-- The records of a lent list, one after the other. Assumes nothing.
use Rattle.std.specs.Prelude.{Ok, Err}
use Rattle.std.specs.Result.{is_err}
use Prim.Native.Nat.{ℕ, suc, ◌+◌, ◌*◌, ◌≤◌, ◌<◌}
use mathlib.Core.Path.{◌≡◌, refl, sym, ap, ◌∙◌}
use mathlib.Core.Bool.{Bool, true, false, not, ◌||◌, true≢false, false≢true}
use mathlib.Core.List.{List, [], ◌∷◌, ◌++◌, map}
use mathlib.Core.Option.{some, some-ne-none}
use native.Mathlib.Omega.{arith}
use lib.Dec.{leb}
use lib.ListN.{length, drop, length-map}
use borrow.Author.Tests.{le-leb, lt-leb}
use Rattle.lists.specs.Lists.{is_empty, any, gather}
use Rattle.characters.specs.declared.Characters.{Characters}
use Rattle.refusals.specs.declared.Fault.TheVariants.{BadList}
use Rattle.refusals.specs.declared.Refusal.{Refusal}
use Rattle.refusals.specs.Refusals.{met, lowest, outcome, Outcome}
use Rattle.refusals.proofs.Lowest.{lowest_none}
use Rattle.refusals.proofs.Stages.{met_none, passed_is, failed_is}
use Rattle.values.specs.Tokens.{Token}
use Rattle.emission_laws.specs.declared.Measure.{Measure}
use Rattle.emission_laws.specs.Emission.{waiting, emitted, after}
use Rattle.emission_laws.proofs.Steps.{emitted_append, after_most, goes_on, goes_end}
use Rattle.storing.specs.Sinks.{SinkLaws}
use Rattle.storing.proofs.Putting.{put_after, room_left}
use Rattle.held_separators.specs.Putting.{value_byte, Fits, Puts}
use Rattle.operations.specs.ValueList.{Item, Entry, entries, value_in, listed_in}
use Rattle.operations.specs.Write.{bad_list}
use Rattle.value_lists.specs.declared.Record.{Record}
use Rattle.value_lists.specs.Records.{entry_of, record_at, well_listed}
use Rattle.value_lists.proofs.Records.{records_next, records_end, good_value, good_rest}
use Rattle.value_list_text.specs.Composing.{record_tokens, item_of}
use Rattle.value_list_text.specs.Advancing.{records_tokens}
use Rattle.value_list_text.proofs.Composed.{value_size, record_holds}
use Rattle.value_list_text.proofs.Advancing.{alike_same, records_few}
use Rattle.refusals.specs.Limits.{most_bytes}
use Rattle.acknowledgements.specs.Lent.{LentList, is_bad_lent}
use Rattle.lent_elements.specs.Leading.{leading, lent_items, LeadsTable, Reaches, Advances}

-- ---- whether it is one element

abbrev starts : Entry → Bool
starts e = leb e.kind 1

module _ (table : List ℕ) where
  -- the records after the first
  pub later_records : 3 ≤ length table → drop 1 (entries table) ≡ entries (drop 3 table)
  later_records h = ap (drop 1) (records_next table 0 h)

  module _ (left : List ℕ) (g : any starts (drop 1 (entries table)) ≡ any starts (entries left)) where
    module _ (rest : List ℕ) (e : Entry) (d : entries left ≡ e ∷ entries rest) where
      pub starts_here : e.kind ≤ 1 → true ≡ any starts (drop 1 (entries table))
      unfolding any
      starts_here k = sym (g ∙ ap (any starts) d ∙ ap (λ (b : Bool). b || any starts (entries rest)) (le-leb e.kind 1 k))

      pub starts_later : 1 < e.kind → any starts (drop 1 (entries table)) ≡ any starts (entries rest)
      unfolding any
      starts_later k = g ∙ ap (any starts) d ∙ ap (λ (b : Bool). b || any starts (entries rest)) (lt-leb e.kind 1 k)

    pub starts_none : entries left ≡ [] → false ≡ any starts (drop 1 (entries table))
    unfolding any
    starts_none d = sym (g ∙ ap (any starts) d)

module _ (bytes table : List ℕ) where
  abbrev lent : LentList
  lent = record { bytes = bytes; table = table }

  abbrev bad : Bool
  bad = not (is_empty (bad_list bytes table))

  -- refusal 15 refuses the list
  list_refused : (r : Refusal) → outcome (lowest (met BadList (bad_list bytes table))) ≡ Err r → true ≡ is_bad_lent lent
  unfolding is_bad_lent is_empty
  list_refused r h = sym (step (bad_list bytes table) refl)
    where
      low : lowest (met BadList (bad_list bytes table)) ≡ some r
      low = failed_is (lowest (met BadList (bad_list bytes table))) r h

      front : (a b : Bool) → (a || true || b) ≡ true
      front true b = refl
      front false b = refl

      step : (ns : List ℕ) → bad_list bytes table ≡ ns → (is_empty (entries table) || not (is_empty ns) || any starts (drop 1 (entries table))) ≡ true
      step [] e = absurd (some-ne-none r (sym low ∙ (lowest_none (met BadList (bad_list bytes table))).1 ((met_none BadList (bad_list bytes table)).1 e)))
      step (n ∷ ns) e = front (is_empty (entries table)) (any starts (drop 1 (entries table)))

  -- the answer of 15, as it is asked
  pub refused_by : (o : Outcome) → o ≡ outcome (lowest (met BadList (bad_list bytes table))) → is_err o ≡ true → true ≡ is_bad_lent lent
  refused_by (Err r) e h = list_refused r (sym e)
  refused_by (Ok u) e h = absurd (false≢true h)

  pub passed_by : (o : Outcome) → o ≡ outcome (lowest (met BadList (bad_list bytes table))) → is_err o ≡ false → outcome (lowest (met BadList (bad_list bytes table))) ≡ Ok tt
  passed_by (Err r) e h = absurd (true≢false h)
  passed_by (Ok u) e h = sym e

  module _ (h : outcome (lowest (met BadList (bad_list bytes table))) ≡ Ok tt) where
    unrefused : bad_list bytes table ≡ []
    unrefused = (met_none BadList (bad_list bytes table)).0 ((lowest_none (met BadList (bad_list bytes table))).0 (passed_is (lowest (met BadList (bad_list bytes table))) h))

    asked : is_bad_lent lent ≡ (is_empty (entries table) || any starts (drop 1 (entries table)))
    unfolding is_bad_lent is_empty
    asked = ap (λ (ns : List ℕ). is_empty (entries table) || not (is_empty ns) || any starts (drop 1 (entries table))) unrefused ∙ step (is_empty (entries table))
      where
        step : (a : Bool) → (a || false || any starts (drop 1 (entries table))) ≡ (a || any starts (drop 1 (entries table)))
        step true = refl
        step false = refl

    pub list_empty : length table < 3 → true ≡ is_bad_lent lent
    unfolding is_empty
    list_empty k = sym (asked ∙ ap (λ (es : List Entry). is_empty es || any starts (drop 1 es)) (records_end table 0 (omega arith)))

    pub list_starts : 3 ≤ length table → {b : Bool} → b ≡ any starts (drop 1 (entries table)) → b ≡ is_bad_lent lent
    unfolding is_empty
    list_starts k e = e ∙ sym (asked ∙ ap (λ (es : List Entry). is_empty es || any starts (drop 1 (entries table))) (records_next table 0 k))

-- ---- its records, one after the other

pub leading_length : (items : List Item) → length (leading items) ≡ length items
unfolding leading
leading_length [] = refl
leading_length (l ∷ ls) = refl

-- a measure is at most what it becomes
pub most_start : (c : Characters) (m : Measure) (ts : List Token) → m.total ≤ (after c m ts).total
unfolding after
most_start c m ts = omega arith

-- the tokens of a record add two bytes at most for each byte of its value, and for its separator
pub record_most : (c : Characters) (m : Measure) (bytes : List ℕ) (r : Record)
    → (after c m (record_tokens (item_of bytes r))).total ≤ m.total + waiting m.held + 2 * r.size + 2
record_most c m bytes r =
    omega (
      arith,
      after_most c m (record_tokens (item_of bytes r)) refl,
      length-map (value_in bytes (entry_of r)) value_byte,
      value_size bytes (entry_of r),
    )

-- tokens that are left, once the first of them are put
pub tokens_left : {holds : List ℕ → ℕ → List ℕ → List ℕ} {room : List ℕ → ℕ} (laws : SinkLaws holds room) (c : Characters) (m : Measure) {all : List ℕ}
    (ts us rest : List Token) → ts ≡ us ++ rest → {l₁ l₂ : List ℕ} {n : Measure} → all ≡ holds l₁ m.total (emitted c m.held ts) → Puts holds c l₁ m us l₂ n
    → all ≡ holds l₂ n.total (emitted c n.held rest)
unfolding after
tokens_left {holds} laws c m ts us rest d {l₁} {l₂} {n} p (s, e) =
    p
    ∙ ap (holds l₁ m.total)
    (ap (emitted c m.held) d ∙ emitted_append c m.held us rest ∙ ap (λ (k : Measure). emitted c m.held us ++ emitted c k.held rest) (sym e))
    ∙ sym (put_after laws l₁ m.total (emitted c m.held us) (emitted c n.held rest) s (ap (λ (k : Measure). k.total) e) refl)

module _ (bytes table : List ℕ) where
  -- the tokens of what is left of the table
  abbrev pub rest_of : List ℕ → List Token
  rest_of left = records_tokens (listed_in bytes left)

  next_record : (left rest : List ℕ) (r : Record) → entries left ≡ entry_of r ∷ entries rest → rest_of left ≡ record_tokens (item_of bytes r) ++ rest_of rest
  unfolding listed_in gather
  next_record left rest r d =
      ap (λ (es : List Entry). gather record_tokens (map (λ e. record { kind = e.kind; value = value_in bytes e }) es)) d

  -- one record less
  one_less : (left rest : List ℕ) (e : Entry) → entries left ≡ e ∷ entries rest → length (listed_in bytes left) ≡ 1 + length (listed_in bytes rest)
  unfolding listed_in
  one_less left rest e d =
      let item : Entry → Item = λ e. record { kind = e.kind; value = value_in bytes e } in
      ap (λ (es : List Entry). length (map item es)) d ∙ suc_is (length (map item (entries rest)))
    where
      suc_is : (n : ℕ) → suc n ≡ 1 + n
      suc_is n = omega arith

  no_record : (left : List ℕ) → entries left ≡ [] → rest_of left ≡ []
  unfolding listed_in gather
  no_record left d = ap (λ (es : List Entry). gather record_tokens (map (λ e. record { kind = e.kind; value = value_in bytes e }) es)) d

  -- all of them, of which the first begins an element
  abbrev pub items : List Item
  items = lent_items (record { bytes = bytes; table = table })

  abbrev pub whole : List Token
  whole = records_tokens items

  items_length : length items ≡ length (listed_in bytes table)
  items_length = leading_length (listed_in bytes table)

  module _ (w : well_listed bytes table ≡ true) (h : 3 ≤ length table) {r : Record} (d : LeadsTable table r) where
    first_record_lem : whole ≡ record_tokens (item_of bytes r) ++ rest_of (drop 3 table)
    unfolding listed_in gather leading value_in
    first_record_lem =
        ap (λ (es : List Entry). gather record_tokens (leading (map (λ e. record { kind = e.kind; value = value_in bytes e }) es))) (records_next table 0 h)
        ∙ ap (λ (e : Entry). record_tokens (record { kind = e.kind; value = value_in bytes e }) ++ rest_of (drop 3 table)) (sym d)

    pub first_value_lem : r.start + r.size ≤ length bytes
    first_value_lem =
        let good = good_value bytes table (drop 3 table) (records_next table 0 h) w in
        omega (arith, good, ap (λ (e : Entry). e.start) d, ap (λ (e : Entry). e.size) d)

  -- The records before those that are left of the table are put, from the measure `m` on: what is left, put from here, gives what all of
  -- them, put at the start, give.
  pub record Placed (holds : List ℕ → ℕ → List ℕ → List ℕ) (room : List ℕ → ℕ) (c : Characters) (m : Measure) (l₀ l₁ : List ℕ) (n : Measure) (left : List ℕ) : Type 0 where
    pub put : holds l₀ m.total (emitted c m.held whole) ≡ holds l₁ n.total (emitted c n.held (rest_of left))
    pub same_room : room l₁ ≡ room l₀
    pub moved : after c m whole ≡ after c n (rest_of left)
    pub good : well_listed bytes left ≡ true
    pub few : waiting n.held + length (listed_in bytes left) ≤ waiting m.held + length items

  module _ {holds : List ℕ → ℕ → List ℕ → List ℕ} {room : List ℕ → ℕ} (laws : SinkLaws holds room) (c : Characters) (m : Measure) {l₀ : List ℕ} where
    -- the first record
    module _ (w : well_listed bytes table ≡ true) (h : 3 ≤ length table) {r : Record} (d : LeadsTable table r) where
      pub first_fits : Reaches room c l₀ m whole → (after c m (record_tokens (item_of bytes r))).total ≤ 18446744073709551615 → Fits room c l₀ m (record_tokens (item_of bytes r))
      unfolding after
      first_fits f k =
          omega (
            arith,
            f,
            k,
            ap (λ (n : Measure). n.total) (goes_on c m {ts = whole} refl (record_tokens (item_of bytes r)) (rest_of (drop 3 table)) (first_record_lem w h d) refl),
            most_start c (after c m (record_tokens (item_of bytes r))) (rest_of (drop 3 table)),
          )

      pub first_placed : {l₁ : List ℕ} {n : Measure} → Puts holds c l₀ m (record_tokens (item_of bytes r)) l₁ n → Placed holds room c m l₀ l₁ n (drop 3 table)
      first_placed p =
          record {
            put = tokens_left laws c m whole (record_tokens (item_of bytes r)) (rest_of (drop 3 table)) (first_record_lem w h d) refl p;
            same_room = room_left laws l₀ m.total (emitted c m.held (record_tokens (item_of bytes r))) p.0;
            moved = goes_on c m refl (record_tokens (item_of bytes r)) (rest_of (drop 3 table)) (first_record_lem w h d) p.1;
            good = good_rest bytes table (drop 3 table) (records_next table 0 h) w;
            few = omega (arith, record_holds c m (item_of bytes r) p.1, one_less table (drop 3 table) (record_at table 0) (records_next table 0 h), items_length);
          }

    module _ {l₁ : List ℕ} (n : Measure) {left : List ℕ} (g : Placed holds room c m l₀ l₁ n left) where
      -- what is put is at most the whole
      placed_most : n.total ≤ (after c m whole).total
      placed_most = omega (arith, most_start c n (rest_of left), ap (λ (k : Measure). k.total) g.moved)

      -- the next one
      module _ (r : Record) (rest : List ℕ) (d : entries left ≡ entry_of r ∷ entries rest) where
        pub next_value : r.start + r.size ≤ length bytes
        next_value = good_value bytes left rest d g.good

        pub next_fits : Reaches room c l₀ m whole → (after c n (record_tokens (item_of bytes r))).total ≤ 18446744073709551615 → Fits room c l₁ n (record_tokens (item_of bytes r))
        unfolding after
        next_fits f k =
            omega (
              arith,
              f,
              k,
              g.same_room,
              ap (λ (x : Measure). x.total) (goes_on c n g.moved (record_tokens (item_of bytes r)) (rest_of rest) (next_record left rest r d) refl),
              most_start c (after c n (record_tokens (item_of bytes r))) (rest_of rest),
            )

        pub next_placed : {l₂ : List ℕ} {k : Measure} → Puts holds c l₁ n (record_tokens (item_of bytes r)) l₂ k → Placed holds room c m l₀ l₂ k rest
        next_placed p =
            record {
              put = tokens_left laws c n (rest_of left) (record_tokens (item_of bytes r)) (rest_of rest) (next_record left rest r d) g.put p;
              same_room = room_left laws l₁ n.total (emitted c n.held (record_tokens (item_of bytes r))) p.0 ∙ g.same_room;
              moved = goes_on c n g.moved (record_tokens (item_of bytes r)) (rest_of rest) (next_record left rest r d) p.1;
              good = good_rest bytes left rest d g.good;
              few = omega (arith, g.few, record_holds c n (item_of bytes r) p.1, one_less left rest (entry_of r) d);
            }

      -- the text is over 32,000 bytes
      pub placed_over : most_bytes < n.total → Advances holds c l₀ m items l₁ n
      placed_over k = record { all = λ s. absurd (omega (arith, k, s)); over = λ s. omega (arith, s, placed_most) }

      -- all are put
      pub placed_done : entries left ≡ [] → Advances holds c l₀ m items l₁ n
      unfolding emitted
      placed_done d =
          let same : n ≡ after c m whole = goes_end c n g.moved (no_record left d) in
          record {
            all =
                λ s. record {
                  stored = sym (g.put ∙ ap (λ (ts : List Token). holds l₁ n.total (emitted c n.held ts)) (no_record left d) ∙ laws.none l₁ n.total);
                  known = alike_same same;
                  few = omega (arith, ap (λ (x : Measure). waiting x.held) same, records_few c m items);
                };
            over = λ s. omega (arith, s, ap (λ (x : Measure). x.total) same);
          }
