-- The parts one after the other: their records, and how the text goes on from each. Assumes nothing.
use Rattle.std.specs.Prelude.{if◌then◌else◌, None, Ok, Err, MatchResult}
use Prim.Native.Nat.{ℕ, suc, ◌+◌, ◌≤◌, ◌<◌}
use mathlib.Core.Path.{◌≡◌, refl, sym, ap, subst, ◌∙◌}
use mathlib.Core.Bool.{Bool, true, false, false≢true}
use mathlib.Core.List.{List, [], ◌∷◌, ◌++◌, map, append_assoc}
use mathlib.Core.Option.{Option, none, some, none-ne-some, some-ne-none, some-injective}
use native.Mathlib.Omega.{arith}
use native.Mathlib.Numerals.{add-one}
use native.Mathlib.Nat.{add-zero}
use lib.Dec.{eqb, leb}
use lib.ListN.{length, drop, length-append, drop_of_length-le}
use lib.Seq.{drop-cons}
use borrow.Author.Tests.{le-leb}
use Rattle.lists.specs.Lists.{is_empty, all, gather}
use Rattle.lists.proofs.Texts.{gather_append}
use Rattle.characters.specs.declared.Characters.{Characters}
use Rattle.refusals.specs.declared.Fault.TheVariants.{NeedsRelease}
use Rattle.refusals.specs.declared.Refusal.{Refusal}
use Rattle.refusals.specs.Refusals.{or_else, outcome, failed_at, Outcome}
use Rattle.refusals.specs.Limits.{most_bytes}
use Rattle.refusals.proofs.Stages.{failed_is, passed_is}
use Rattle.values.specs.Tokens.{Token, separator, tokens_at}
use Rattle.values.specs.Spelling.{Bytes}
use Rattle.nesting.specs.Nesting.{shaped}
use Rattle.storing.specs.Sinks.{SinkLaws}
use Rattle.storing.proofs.Putting.{put_after, room_left}
use Rattle.emission_laws.specs.declared.Measure.{Measure}
use Rattle.emission_laws.specs.Emission.{nothing, waiting, held_after, emitted, after}
use Rattle.emission_laws.proofs.Steps.{emitted_append, goes_on, terminator_text}
use Rattle.held_separators.specs.Putting.{Fits, Puts}
use Rattle.stage_walks.specs.Walks.{refuse}
use Rattle.operations.specs.ValueList.{Item, Entry, entries, value_in, rank_of, list_repeat, list_element, listed_in}
use Rattle.value_lists.specs.Records.{record_at}
use Rattle.value_lists.proofs.Records.{records_next}
use Rattle.value_list_text.specs.Composing.{record_tokens, list_tokens, first_measure, composed_text, short_length, HasRoom, Composes}
use Rattle.value_list_text.specs.Advancing.{records_tokens, Alike}
use Rattle.value_list_text.proofs.Composed.{text_length, ended_total}
use Rattle.value_list_text.proofs.Putting.{given_up}
use Rattle.value_list_text.proofs.Advancing.{lead_emitted, lead_alike, end_alike, alike_same, alike_trans}
use Rattle.received_pieces.specs.Pieces.{element_in}
use Rattle.received_pieces.proofs.Trimmed.{element_shaped}
use Rattle.lent_elements.specs.Leading.{leading, Advances}
use Rattle.lent_elements.proofs.Records.{most_start}
use Rattle.acknowledgements.specs.Lent.{LentList, Lent}
use Rattle.acknowledgement_parts.specs.declared.Part.{Part}
use Rattle.acknowledgement_parts.specs.declared.Part.TheVariants.{Word, Syntax, Element, Date, Reference, Message}
use Rattle.acknowledgement_parts.specs.declared.Received.{Received}
use Rattle.acknowledgement_parts.specs.Parts.{parts_of, part_items, row_items, Lendable, Fine, Puttable, is_bare, first_bare}
use Rattle.acknowledgement_parts.proofs.Parts.{ranked}
use Rattle.acknowledge.specs.Rows.{part_of, row_from, row}

-- ---- part by part

module _ (s : List ℕ) (l : Lent) (r : Received) where
  abbrev items_at : ℕ → List Item
  items_at i = part_items s r.characters l (part_of r i)

  -- the records from a number on are those of its part, and those from the next on
  pub row_next : (i : ℕ) → i < 20 → row_from s l r i ≡ items_at i ++ row_from s l r (i + 1)
  unfolding row_items gather parts_of
  row_next i h =
      ap (λ (parts : List Part). gather (part_items s r.characters l) parts) (drop-cons (parts_of r) i Date (omega (arith, h)))
      ∙ ap (λ (k : ℕ). items_at i ++ gather (part_items s r.characters l) (drop k (parts_of r))) (sym (add-one i))

  pub row_end : (i : ℕ) → 20 ≤ i → row_from s l r i ≡ []
  unfolding row_items gather parts_of
  row_end i h = ap (gather (part_items s r.characters l)) (drop_of_length-le (parts_of r) {i = i} (omega (arith, h)))

  pub length_next : (i : ℕ) → i < 20 → length (row_from s l r i) ≡ length (items_at i) + length (row_from s l r (i + 1))
  length_next i h = ap length (row_next i h) ∙ length-append (items_at i) (row_from s l r (i + 1))

-- ---- the answer for a part, with the place counted on

abbrev shifted : ℕ → Refusal → Refusal
shifted n e = record { fault = NeedsRelease; place = n + e.place }

module _ (n : ℕ) where
  pub shifted_err : (o m : Outcome) → MatchResult o (λ x. m ≡ Ok x) (λ e. m ≡ Err (shifted n e)) → {q : Refusal} → m ≡ Err q
      → (p : Refusal) × (o ≡ Err p) × (q ≡ shifted n p)
  shifted_err (Ok x) m h e = cc
  shifted_err (Err p) m h e = (p, refl, cc)

  pub shifted_ok : (o m : Outcome) → MatchResult o (λ x. m ≡ Ok x) (λ e. m ≡ Err (shifted n e)) → {u : Unit} → m ≡ Ok u → o ≡ Ok tt
  shifted_ok (Ok x) m h e = refl
  shifted_ok (Err p) m h e = cc

-- ---- which record cannot stand

module _ (c : Characters) where
  bare_append : (n : ℕ) (xs ys : List Item) → first_bare c n (xs ++ ys) ≡ or_else (first_bare c n xs) (first_bare c (n + length xs) ys)
  unfolding first_bare or_else
  bare_append n [] ys = ap (λ (k : ℕ). first_bare c k ys) (sym (add-zero n))
  bare_append n (x ∷ xs) ys =
      ap (λ (o : Option Refusal). if is_bare c x then refuse NeedsRelease n else o)
      (bare_append (n + 1) xs ys ∙ ap (λ (k : ℕ). or_else (first_bare c (n + 1) xs) (first_bare c k ys)) (later (length xs)))
      ∙ step (is_bare c x)
    where
      later : (k : ℕ) → n + 1 + k ≡ n + suc k
      later k = omega arith

      step : (b : Bool)
          → (if b then refuse NeedsRelease n else or_else (first_bare c (n + 1) xs) (first_bare c (n + length (x ∷ xs)) ys))
          ≡ or_else (if b then refuse NeedsRelease n else first_bare c (n + 1) xs) (first_bare c (n + length (x ∷ xs)) ys)
      step true = refl
      step false = refl

  -- from another number on
  bare_shift : (n k : ℕ) (xs : List Item) (q : Refusal) → first_bare c k xs ≡ some q
      → (first_bare c (n + k) xs ≡ refuse NeedsRelease (n + q.place)) × (q.place < k + length xs)
  unfolding first_bare
  bare_shift n k [] q h = absurd (none-ne-some q h)
  bare_shift n k (x ∷ xs) q h = step (is_bare c x) h (bare_shift n (k + 1) xs q)
    where
      sum : n + (k + 1) ≡ n + k + 1
      sum = omega arith

      step : (b : Bool) → (if b then refuse NeedsRelease k else first_bare c (k + 1) xs) ≡ some q
          → (first_bare c (k + 1) xs ≡ some q → (first_bare c (n + (k + 1)) xs ≡ refuse NeedsRelease (n + q.place)) × (q.place < k + 1 + length xs))
          → ((if b then refuse NeedsRelease (n + k) else first_bare c (n + k + 1) xs) ≡ refuse NeedsRelease (n + q.place)) × (q.place < k + length (x ∷ xs))
      step true e ih =
          let same : k ≡ q.place = ap (λ (t : Refusal). t.place) (some-injective (record { fault = NeedsRelease; place = k }) q e) in
          (ap (λ (p : ℕ). refuse NeedsRelease (n + p)) same, omega (arith, same))
      step false e ih = let (found, low) = ih e in (ap (λ (p : ℕ). first_bare c p xs) (sym sum) ∙ found, omega (arith, low))

  bare_none : (n k : ℕ) (xs : List Item) → first_bare c k xs ≡ none → first_bare c (n + k) xs ≡ none
  unfolding first_bare
  bare_none n k [] h = refl
  bare_none n k (x ∷ xs) h = step (is_bare c x) h (bare_none n (k + 1) xs)
    where
      sum : n + (k + 1) ≡ n + k + 1
      sum = omega arith

      step : (b : Bool) → (if b then refuse NeedsRelease k else first_bare c (k + 1) xs) ≡ none → (first_bare c (k + 1) xs ≡ none → first_bare c (n + (k + 1)) xs ≡ none)
          → (if b then refuse NeedsRelease (n + k) else first_bare c (n + k + 1) xs) ≡ none
      step true e ih = absurd (some-ne-none (record { fault = NeedsRelease; place = k }) e)
      step false e ih = ap (λ (p : ℕ). first_bare c p xs) (sym sum) ∙ ih e

module _ (c : Characters) (s : List ℕ) (l : Lent) (r : Received) (n i : ℕ) (h : i < 20) (g : first_bare c 0 (row s l r) ≡ first_bare c n (row_from s l r i)) where
  abbrev here : List Item
  here = part_items s r.characters l (part_of r i)

  goes : first_bare c 0 (row s l r) ≡ or_else (first_bare c n here) (first_bare c (n + length here) (row_from s l r (i + 1)))
  goes = g ∙ ap (first_bare c n) (row_next s l r i h) ∙ bare_append c n here (row_from s l r (i + 1))

  -- the part has one
  pub part_bare : {o : Outcome} {q : Refusal} → o ≡ outcome (first_bare c 0 here) → o ≡ Err q
      → (failed_at NeedsRelease (n + q.place) ≡ outcome (first_bare c 0 (row s l r))) × (q.place < length here)
  unfolding or_else outcome
  part_bare {o} {q} e d =
      let (found, low) = bare_shift c n 0 here q (failed_is (first_bare c 0 here) q (sym e ∙ d)) in
      (sym (ap outcome (goes ∙ ap (λ (p : Option Refusal). or_else p (first_bare c (n + length here) (row_from s l r (i + 1)))) (ap (λ (k : ℕ). first_bare c k here) (sym (add-zero n)) ∙ found))), omega (arith, low))

  -- it has none
  pub part_stands : {o : Outcome} → o ≡ outcome (first_bare c 0 here) → o ≡ Ok tt → {k : ℕ} → k ≡ length here
      → first_bare c 0 (row s l r) ≡ first_bare c (n + k) (row_from s l r (i + 1))
  unfolding or_else
  part_stands e d {k} m =
      goes
      ∙ ap (λ (p : Option Refusal). or_else p (first_bare c (n + length here) (row_from s l r (i + 1)))) (ap (λ (x : ℕ). first_bare c x here) (sym (add-zero n)) ∙ bare_none c n 0 here (passed_is (first_bare c 0 here) (sym e ∙ d)))
      ∙ ap (λ (x : ℕ). first_bare c (n + x) (row_from s l r (i + 1))) (sym m)

-- no part is left
pub none_left : (c : Characters) (s : List ℕ) (l : Lent) (r : Received) (n i : ℕ) → 20 ≤ i → first_bare c 0 (row s l r) ≡ first_bare c n (row_from s l r i)
    → Ok tt ≡ outcome (first_bare c 0 (row s l r))
unfolding first_bare outcome
none_left c s l r n i h g = sym (ap outcome (g ∙ ap (first_bare c n) (row_end s l r i h)))

-- ---- how the text goes on

-- the records begin an element or a segment
record Led (items : List Item) : Type 0 where
  first : Item
  others : List Item
  is : items ≡ first ∷ others
  low : rank_of first.kind ≤ 1

rank_low : (kind : ℕ) → kind ≤ 1 → rank_of kind ≤ 1
unfolding rank_of
rank_low kind h = step (leb kind 0) (leb kind 1) (eqb kind 3) (le-leb kind 1 h)
  where
    step : (a b d : Bool) → b ≡ true → (if a then 0 else (if b then 1 else (if d then 2 else 3))) ≤ 1
    step true b d e = omega arith
    step false true d e = omega arith
    step false false d e = absurd (false≢true e)

element_led : (e : List (List Bytes)) → shaped Bytes 2 e ≡ true → Led (list_element 1 e)
unfolding list_element list_repeat is_empty all rank_of
element_led [] h = absurd (false≢true h)
element_led ([] ∷ rs) h = absurd (false≢true h)
element_led ((v ∷ vs) ∷ rs) h =
    record { first = record { kind = 1; value = v }; others = map (λ w. record { kind = 2; value = w }) vs ++ gather (list_repeat 3) rs; is = refl; low = omega arith }

lent_led : (lent : LentList) → Lendable lent → Led (leading (listed_in lent.bytes lent.table))
unfolding listed_in leading rank_of
lent_led lent h =
    record {
      first = record { kind = 1; value = value_in lent.bytes (record_at lent.table 0) };
      others = map (λ e. record { kind = e.kind; value = value_in lent.bytes e }) (entries (drop 3 lent.table));
      is = ap (λ (es : List Entry). leading (map (λ e. record { kind = e.kind; value = value_in lent.bytes e }) es)) (records_next lent.table 0 h.some);
      low = omega arith;
    }

part_led : (s : List ℕ) (d : Characters) (l : Lent) (p : Part) → Fine s d l p → Led (part_items s d l p)
unfolding rank_of
part_led s d l (Word kind start size) h = record { first = _; others = []; is = refl; low = rank_low kind h.0 }
part_led s d l (Syntax level version) h = record { first = _; others = _; is = refl; low = omega arith }
part_led s d l (Element from) h = element_led (element_in (tokens_at d s from)) (element_shaped (tokens_at d s from) h (ranked d s from))
part_led s d l Date h = lent_led l.date h
part_led s d l Reference h = lent_led l.reference h
part_led s d l Message h = lent_led l.message h

-- such records are emitted alike, and leave alike what was alike
module _ (c : Characters) (items : List Item) (led : Led items) (m n : Measure) (a : Alike m n) where
  same_emitted : emitted c m.held (records_tokens items) ≡ emitted c n.held (records_tokens items)
  same_emitted =
      ap (λ (xs : List Item). emitted c m.held (records_tokens xs)) led.is
      ∙ lead_emitted c led.first led.others led.low m.held n.held a.elements
      ∙ ap (λ (xs : List Item). emitted c n.held (records_tokens xs)) (sym led.is)

  same_after : Alike (after c m (records_tokens items)) (after c n (records_tokens items))
  same_after =
      subst (λ (xs : List Item). Alike (after c m (records_tokens xs)) (after c n (records_tokens xs))) (sym led.is)
      (lead_alike c led.first led.others led.low m n a)

-- a row of records with a terminator
abbrev closing : List Item → List Token
closing items = records_tokens items ++ separator 0 0 ∷ []

closing_list : (items : List Item) → list_tokens items ≡ closing items
unfolding list_tokens gather
closing_list [] = refl
closing_list (x ∷ xs) =
    ap (λ (ts : List Token). record_tokens x ++ ts) (closing_list xs) ∙ sym (append_assoc (record_tokens x) (records_tokens xs) (separator 0 0 ∷ []))

closing_append : (xs ys : List Item) → closing (xs ++ ys) ≡ records_tokens xs ++ closing ys
closing_append xs ys =
    ap (λ (ts : List Token). ts ++ separator 0 0 ∷ []) (gather_append record_tokens xs ys) ∙ append_assoc (records_tokens xs) (records_tokens ys) (separator 0 0 ∷ [])

-- The parts before a number are passed: `ideal` is where their records lead, and what is measured is alike.
pub record Reached (c : Characters) (s : List ℕ) (l : Lent) (r : Received) (m : Measure) (i : ℕ) : Type 0 where
  pub ideal : Measure
  pub alike : Alike m ideal
  pub moved : after c first_measure (list_tokens (row s l r)) ≡ after c ideal (closing (row_from s l r i))
  pub few : waiting m.held + length (row_from s l r i) ≤ most_bytes
  pub inside : i ≤ 20

module _ (c : Characters) (s : List ℕ) (l : Lent) (r : Received) where
  abbrev whole : List Token
  whole = list_tokens (row s l r)

  size : length (composed_text c (row s l r)) ≡ (after c first_measure whole).total
  unfolding after
  size = text_length c (row s l r)

  reached_start : length (row s l r) ≤ most_bytes → {m : Measure} → m ≡ first_measure → Reached c s l r m 0
  reached_start h e =
      record {
        ideal = first_measure;
        alike = alike_same e;
        moved = ap (after c first_measure) (closing_list (row s l r));
        few = omega (arith, h, ap (λ (k : Measure). waiting k.held) e);
        inside = omega arith;
      }

  module _ {m : Measure} {i : ℕ} (g : Reached c s l r m i) (h : i < 20) (fine : Fine s r.characters l (part_of r i)) where
    abbrev now : List Item
    now = part_items s r.characters l (part_of r i)

    led : Led now
    led = part_led s r.characters l (part_of r i) fine

    rest_is : closing (row_from s l r i) ≡ records_tokens now ++ closing (row_from s l r (i + 1))
    rest_is = ap closing (row_next s l r i h) ∙ closing_append now (row_from s l r (i + 1))

    beyond : Alike (after c m (records_tokens now)) (after c g.ideal (records_tokens now))
    beyond = same_after c now led m g.ideal g.alike

    further : after c first_measure whole ≡ after c (after c g.ideal (records_tokens now)) (closing (row_from s l r (i + 1)))
    further = goes_on c g.ideal g.moved (records_tokens now) (closing (row_from s l r (i + 1))) rest_is refl

    -- the whole is at least as long as what is passed with the part
    part_most : (after c m (records_tokens now)).total ≤ (after c first_measure whole).total
    part_most = omega (arith, beyond.total, ap (λ (k : Measure). k.total) further, most_start c (after c g.ideal (records_tokens now)) (closing (row_from s l r (i + 1))))

    part_few : waiting m.held + length now ≤ most_bytes
    part_few = omega (arith, g.few, length_next s l r i h)

    reached_on : {n : Measure} → Alike n (after c m (records_tokens now)) → waiting n.held ≤ waiting m.held + length now → Reached c s l r n (i + 1)
    reached_on a few =
        record {
          ideal = after c g.ideal (records_tokens now);
          alike = alike_trans a beyond;
          moved = further;
          few = omega (arith, few, g.few, length_next s l r i h);
          inside = omega (arith, h);
        }

  -- a terminator after all of them
  module _ {m : Measure} {i : ℕ} (g : Reached c s l r m i) (h : 20 ≤ i) where
    reached_end : {n : Measure} → n ≡ after c m (separator 0 0 ∷ []) → n.total ≡ length (composed_text c (row s l r))
    unfolding gather
    reached_end e =
        ap (λ (x : Measure). x.total)
        (e ∙ end_alike c m g.ideal g.alike ∙ ap (λ (items : List Item). after c g.ideal (closing items)) (sym (row_end s l r i h)) ∙ sym g.moved)
        ∙ sym size

-- ---- put one after the other

-- What is left, put from the place reached, gives what all of it, put at the advice's last byte, gives; the text is not over 32,000 bytes yet.
pub record Underway (holds : List ℕ → ℕ → List ℕ → List ℕ) (room : List ℕ → ℕ) (c : Characters) (s : List ℕ) (l : Lent) (r : Received) (before output : List ℕ)
    (m : Measure) (i : ℕ) : Type 0 where
  pub reached : Reached c s l r m i
  pub put : holds before 8 (emitted c nothing (list_tokens (row s l r))) ≡ holds output m.total (emitted c reached.ideal.held (closing (row_from s l r i)))
  pub same_room : room output ≡ room before
  pub short : m.total ≤ most_bytes

module _ {holds : List ℕ → ℕ → List ℕ → List ℕ} {room : List ℕ → ℕ} (laws : SinkLaws holds room) (c : Characters) (s : List ℕ) (l : Lent) (r : Received)
    (before : List ℕ) where
  pub underway_start : length (row s l r) ≤ most_bytes → {m : Measure} → m ≡ first_measure → Underway holds room c s l r before before m 0
  unfolding reached_start
  underway_start few e =
      subst (λ (x : Measure). Underway holds room c s l r before before x 0) (sym e)
      (record {
        reached = reached_start c s l r few refl;
        put = ap (λ (ts : List Token). holds before 8 (emitted c nothing ts)) (closing_list (row s l r));
        same_room = refl;
        short = omega arith;
      })

  module _ {output : List ℕ} {m : Measure} {i : ℕ} (g : Underway holds room c s l r before output m i) (h : i < 20) (fine : Fine s r.characters l (part_of r i)) where
    abbrev part : List Item
    part = part_items s r.characters l (part_of r i)

    same : emitted c m.held (records_tokens part) ≡ emitted c g.reached.ideal.held (records_tokens part)
    same = same_emitted c part (part_led s r.characters l (part_of r i) fine) m g.reached.ideal g.reached.alike

    left : emitted c g.reached.ideal.held (closing (row_from s l r i))
        ≡ emitted c m.held (records_tokens part) ++ emitted c (after c g.reached.ideal (records_tokens part)).held (closing (row_from s l r (i + 1)))
    unfolding after
    left =
        ap (emitted c g.reached.ideal.held) (ap closing (row_next s l r i h) ∙ closing_append part (row_from s l r (i + 1)))
        ∙ emitted_append c g.reached.ideal.held (records_tokens part) (closing (row_from s l r (i + 1)))
        ∙ ap (λ (text : List ℕ). text ++ emitted c (held_after g.reached.ideal.held (records_tokens part)) (closing (row_from s l r (i + 1)))) (sym same)

    -- the part can be put
    pub part_ready : length s ≤ most_bytes → HasRoom room (composed_text c (row s l r)) before → Puttable room c output s r.characters l (part_of r i) m
    unfolding after
    part_ready short f =
        (fine, g.short, part_few c s l r g.reached h fine, short, omega (arith, f, g.same_room, part_most c s l r g.reached h fine, size c s l r))

    module _ {put : List ℕ} {n : Measure} (a : Advances holds c output m part put n) where
      pub underway_next : n.total ≤ most_bytes → Underway holds room c s l r before put n (i + 1)
      unfolding after reached_on held_after
      underway_next k =
          let stored = a.all k in
          let front = emitted c m.held (records_tokens part) in
          record {
            reached = reached_on c s l r g.reached h fine stored.known stored.few;
            put =
                g.put
                ∙ ap (holds output m.total) left
                ∙ sym (put_after laws output m.total front (emitted c (after c g.reached.ideal (records_tokens part)).held (closing (row_from s l r (i + 1)))) stored.stored stored.known.total refl);
            same_room = room_left laws output m.total front stored.stored ∙ g.same_room;
            short = k;
          }

      -- the text is over 32,000 bytes
      pub underway_over : {left : List ℕ} → most_bytes < n.total → Composes holds c (row s l r) before left None
      underway_over k = given_up c (row s l r) (omega (arith, a.over k, part_most c s l r g.reached h fine, size c s l r))

  -- the last segment is ended
  module _ {output : List ℕ} {m : Measure} {i : ℕ} (g : Underway holds room c s l r before output m i) (h : 20 ≤ i) where
    last : emitted c g.reached.ideal.held (closing (row_from s l r i)) ≡ emitted c m.held (separator 0 0 ∷ [])
    unfolding gather
    last =
        ap (λ (items : List Item). emitted c g.reached.ideal.held (closing items)) (row_end s l r i h)
        ∙ terminator_text c g.reached.ideal.held 0 refl
        ∙ sym (terminator_text c m.held 0 refl)

    pub end_fits : HasRoom room (composed_text c (row s l r)) before → Fits room c output m (separator 0 0 ∷ [])
    unfolding after
    end_fits f =
        let n : Measure = after c m (separator 0 0 ∷ []) in
        omega (arith, f, g.same_room, g.short, reached_end c s l r g.reached h {n = n} refl, ended_total c m {n = n} refl)

    pub underway_end : {put : List ℕ} {n : Measure} → Puts holds c output m (separator 0 0 ∷ []) put n → Composes holds c (row s l r) before put (short_length n.total)
    underway_end (p, e) =
        record {
          measured = ap short_length (reached_end c s l r g.reached h e);
          whole = λ k. p ∙ ap (holds output m.total) (sym last) ∙ sym g.put;
        }
