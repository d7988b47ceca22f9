-- Laws of a table's records: three numbers are the next one, the first that fails answers, and what holds of a good list.
-- Assumes nothing.
use Rattle.std.specs.Prelude.{if◌then◌else◌, MatchOption}
use Rattle.std.specs.List.{slice_get, Contains}
use Rattle.std.proofs.Common.{◌≡◌, ℕ, zero, suc, ◌+◌, ◌%◌, ◌<◌, ◌≤◌, Bool, true, false, not, ◌&&◌, ◌||◌, eqb, ltb, List, [], ◌∷◌, ◌++◌, length, get_or, drop, sym, refl, ap, subst, ◌∙◌, ap₂, add-one, arith, length-drop, ltb-false, le-ltb, lt-ltb, eq-eqb, ne_eqb}
use mathlib.Core.Option.{none, some, some-ne-none}
use borrow.Author.Tests.{not-true}
use Rattle.lists.specs.Lists.{all, any, at, maybe}
use Rattle.lists.proofs.Texts.{if_true, if_false, and_left, and_right, or_none_left, or_none_right}
use Rattle.lists.proofs.Numbers.{drop_next}
use Rattle.refusals.specs.declared.Fault.{Fault}
use Rattle.refusals.specs.declared.Fault.TheVariants.{BadList}
use Rattle.refusals.specs.declared.Refusal.{Refusal}
use Rattle.refusals.specs.Refusals.{met, place_if, is_lower, lower_of, lowest}
use Rattle.refusals.proofs.Order.{key, not_lower}
use Rattle.stage_walks.specs.Walks.{refuse}
use Rattle.characters.specs.declared.Characters.{Characters}
use Rattle.characters.specs.Characters.{is_break, has_release, is_service}
use Rattle.values.specs.Spelling.{leads_break}
use Rattle.operations.specs.ValueList.{Entry, entries, value_in}
use Rattle.operations.specs.Write.{numbers_where, bad_table, broken_start, bad_entry, bad_list, lacks_release}
use Rattle.value_lists.specs.Records.{record_at, first_record, well_listed}
use Rattle.refusals.specs.Limits.{most_numbers}

-- ---- the next record

module _ (table : List ℕ) (i : ℕ) where
  -- three numbers more are a record more
  pub records_next : i + 3 ≤ length table → entries (drop i table) ≡ record_at table i ∷ entries (drop (i + 3) table)
  unfolding entries
  records_next h = ap entries three
    where
      at_two : i + 1 + 1 ≡ i + 2
      at_two = omega arith

      at_three : i + 2 + 1 ≡ i + 3
      at_three = omega arith

      third : drop (i + 2) table ≡ get_or table (i + 2) 0 ∷ drop (i + 3) table
      third = drop_next table (i + 2) (omega arith) ∙ ap (λ (n : ℕ). get_or table (i + 2) 0 ∷ drop n table) at_three

      second : drop (i + 1) table ≡ get_or table (i + 1) 0 ∷ get_or table (i + 2) 0 ∷ drop (i + 3) table
      second =
          drop_next table (i + 1) (omega arith)
          ∙ ap (λ (l : List ℕ). get_or table (i + 1) 0 ∷ l) (ap (λ (n : ℕ). drop n table) at_two ∙ third)

      three : drop i table ≡ get_or table i 0 ∷ get_or table (i + 1) 0 ∷ get_or table (i + 2) 0 ∷ drop (i + 3) table
      three = drop_next table i (omega arith) ∙ ap (λ (l : List ℕ). get_or table i 0 ∷ l) second

  -- and so by a record that was read there
  pub read_next : {e : Entry} → i + 3 ≤ length table → e ≡ record_at table i → entries (drop i table) ≡ e ∷ entries (drop (i + 3) table)
  read_next h d = records_next h ∙ ap (λ (r : Entry). r ∷ entries (drop (i + 3) table)) (sym d)

  -- fewer are none
  pub records_end : length table ≤ i + 2 → entries (drop i table) ≡ []
  unfolding entries
  records_end h = few (drop i table) (omega (arith, length-drop i table))
    where
      few : (l : List ℕ) → length l ≤ 2 → entries l ≡ []
      few [] k = refl
      few (a ∷ []) k = refl
      few (a ∷ b ∷ []) k = refl
      few (a ∷ b ∷ d ∷ l) k = absurd (omega arith)

-- a record that was read from three numbers stands in front of those of the numbers behind them
pub records_cut : (numbers rest : List ℕ) {table : List ℕ} {e : Entry} → table ≡ numbers ++ rest → length numbers ≡ 3 → e ≡ record_at numbers 0
    → entries table ≡ e ∷ entries rest
unfolding entries
records_cut [] rest d h k = absurd (omega arith)
records_cut (a ∷ []) rest d h k = absurd (omega arith)
records_cut (a ∷ b ∷ []) rest d h k = absurd (omega arith)
records_cut (a ∷ b ∷ z ∷ []) rest d h k = ap entries d ∙ ap (λ (x : Entry). x ∷ entries rest) (sym k)
records_cut (a ∷ b ∷ z ∷ f ∷ more) rest d h k = absurd (omega arith)

module _ {es rest : List Entry} {e : Entry} (d : es ≡ e ∷ rest) where
  pub entry_first : Contains es e
  entry_first = subst (λ (l : List Entry). Contains l e) (sym d) (0, omega arith, refl)

  pub entry_later : (x : Entry) → Contains rest x → Contains es x
  entry_later x (k, low, there) = subst (λ (l : List Entry). Contains l x) (sym d) (suc k, omega arith, there)

-- ---- the first that fails

module _ (f : Fault) (fails : Entry → Bool) where
  module _ {es rest : List Entry} {e : Entry} (n : ℕ) (d : es ≡ e ∷ rest) where
    pub first_fails : fails e ≡ true → first_record f fails n es ≡ refuse f n
    unfolding first_record
    first_fails h = ap (first_record f fails n) d ∙ if_true (fails e) (refuse f n) (first_record f fails (n + 1) rest) h

    pub first_passes : fails e ≡ false → first_record f fails n es ≡ first_record f fails (n + 1) rest
    unfolding first_record
    first_passes h = ap (first_record f fails n) d ∙ if_false (fails e) (refuse f n) (first_record f fails (n + 1) rest) h

  pub first_none : {es : List Entry} (n : ℕ) → es ≡ [] → first_record f fails n es ≡ none
  unfolding first_record
  first_none n d = ap (first_record f fails n) d

  -- the refusal at a number is not higher than one that a later record meets
  not_later : (low n : ℕ) (es : List Entry) → low ≤ n → lower_of (record { fault = f; place = low }) (first_record f fails n es) ≡ refuse f low
  unfolding first_record lower_of key
  not_later low n [] h = refl
  not_later low n (e ∷ es) h = step (fails e) (not_later low (n + 1) es (omega arith))
    where
      here : Refusal
      here = record { fault = f; place = n }

      first : Refusal
      first = record { fault = f; place = low }

      step : (t : Bool) → lower_of first (first_record f fails (n + 1) es) ≡ refuse f low
          → lower_of first (if t then refuse f n else first_record f fails (n + 1) es) ≡ refuse f low
      step true ih = ap some (if_false (is_lower here first) here first (not_lower here first (omega arith)))
      step false ih = ih

  -- the lowest of all that fail is the first
  pub lowest_first : (n : ℕ) (es : List Entry) → lowest (met f (numbers_where fails n es)) ≡ first_record f fails n es
  unfolding first_record numbers_where place_if met lowest
  lowest_first n [] = refl
  lowest_first n (e ∷ es) =
      step (fails e) (lowest_first (suc n) es ∙ ap (λ (m : ℕ). first_record f fails m es) (sym (add-one n)))
    where
      step : (t : Bool) → lowest (met f (numbers_where fails (suc n) es)) ≡ first_record f fails (n + 1) es
          → lowest (met f ((if t then n ∷ [] else []) ++ numbers_where fails (suc n) es)) ≡ (if t then refuse f n else first_record f fails (n + 1) es)
      step true ih = ap (lower_of (record { fault = f; place = n })) ih ∙ not_later n (n + 1) es (omega arith)
      step false ih = ih

-- ---- 15

module _ (bytes table : List ℕ) where
  -- a table that is bad as a whole is refused at 0
  pub table_bad : bad_table table ≡ true → lowest (met BadList (bad_list bytes table)) ≡ refuse BadList 0
  unfolding bad_list place_if met lowest
  table_bad h =
      ap (λ (t : Bool). lowest (met BadList ((if t then 0 ∷ [] else []) ++ numbers_where (bad_entry bytes) 0 (entries table)))) h
      ∙ ap (lower_of (record { fault = BadList; place = 0 })) (lowest_first BadList (bad_entry bytes) 0 (entries table))
      ∙ not_later BadList (bad_entry bytes) 0 0 (entries table) (omega arith)

  pub table_good : bad_table table ≡ false
      → lowest (met BadList (bad_list bytes table)) ≡ first_record BadList (bad_entry bytes) 0 (entries table)
  unfolding bad_list place_if
  table_good h =
      ap (λ (t : Bool). lowest (met BadList ((if t then 0 ∷ [] else []) ++ numbers_where (bad_entry bytes) 0 (entries table)))) h
      ∙ lowest_first BadList (bad_entry bytes) 0 (entries table)

-- a table is bad as a whole by its length, or by the kind of its first record
module _ (table : List ℕ) where
  pub bad_length : most_numbers < length table → bad_table table ≡ true
  unfolding bad_table
  bad_length h = ap (λ (t : Bool). t || not (eqb (length table % 3) 0) || maybe false (λ e. not (eqb e.kind 0)) (at (entries table) 0)) (lt-ltb most_numbers (length table) h)

  pub bad_rest : (length table % 3 ≡ 0 → ⊥) → bad_table table ≡ true
  unfolding bad_table
  bad_rest h =
      step (ltb most_numbers (length table)) (maybe false (λ e. not (eqb e.kind 0)) (at (entries table) 0)) (ap not (ne_eqb (length table % 3) 0 h))
    where
      step : (a c : Bool) {b : Bool} → b ≡ true → (a || b || c) ≡ true
      step true c e = refl
      step false c e = ap (λ (t : Bool). t || c) e

  module _ (short : length table ≤ most_numbers) (thirds : length table % 3 ≡ 0) where
    -- what is left to ask of its first record
    first_asked : {es : List Entry} → entries table ≡ es → bad_table table ≡ maybe false (λ e. not (eqb e.kind 0)) (at es 0)
    unfolding bad_table
    first_asked d =
        ap₂ (λ (a b : Bool). a || b || maybe false (λ e. not (eqb e.kind 0)) (at (entries table) 0))
        (le-ltb most_numbers (length table) short)
        (ap not (eq-eqb (length table % 3) 0 thirds))
        ∙ ap (λ (l : List Entry). maybe false (λ e. not (eqb e.kind 0)) (at l 0)) d

    -- which is its first number, if there is one
    pub first_told : {b : Bool} → MatchOption (slice_get table 0) (b ≡ false) (λ k. b ≡ not (eqb k 0)) → bad_table table ≡ b
    unfolding at maybe
    first_told {b} = step table refl
      where
        step : (xs : List ℕ) → table ≡ xs → MatchOption (slice_get xs 0) (b ≡ false) (λ k. b ≡ not (eqb k 0)) → bad_table table ≡ b
        step [] e h = first_asked (records_end table 0 (omega (arith, ap length e))) ∙ sym h
        step (k ∷ ks) e h =
            first_asked (records_next table 0 (omega (arith, thirds, ap length e))) ∙ ap (λ (l : List ℕ). not (eqb (get_or l 0 0) 0)) e ∙ sym h

-- ---- a record

-- a record whose value is there, and whose kind is known, is bad where it begins a segment with a break
module _ (bytes : List ℕ) (e : Entry) (low : e.kind ≤ 3) (there : e.start + e.size ≤ length bytes) where
  by_start : bad_entry bytes e ≡ broken_start bytes e
  unfolding bad_entry
  by_start =
      ap₂ (λ (a b : Bool). a || b || broken_start bytes e) (le-ltb 3 e.kind low) (le-ltb (length bytes) (e.start + e.size) there)

  pub begins_none : (e.kind ≡ 0 → ⊥) → false ≡ bad_entry bytes e
  unfolding broken_start
  begins_none h = sym (by_start ∙ ap (λ (t : Bool). t && leads_break (value_in bytes e)) (ne_eqb e.kind 0 h))

  pub begins_segment : e.kind ≡ 0 → {broken : Bool} → broken ≡ leads_break (value_in bytes e) → broken ≡ bad_entry bytes e
  unfolding broken_start
  begins_segment h d = d ∙ sym (by_start ∙ ap (λ (t : Bool). t && leads_break (value_in bytes e)) (eq-eqb e.kind 0 h))

-- a value's first byte
pub leads_first : (value : List ℕ) {b : Bool} → MatchOption (slice_get value 0) (b ≡ false) (λ x. b ≡ is_break x) → b ≡ leads_break value
unfolding leads_break at maybe
leads_first [] h = h
leads_first (b ∷ bs) h = h

-- ---- a good list

-- what passes for all passes for each
all_tells : (t : Entry → Bool) (es : List Entry) → all t es ≡ true → (e : Entry) → Contains es e → t e ≡ true
unfolding all
all_tells t [] h e (k, low, there) = absurd (omega arith)
all_tells t (x ∷ es) h e (zero, low, there) = ap t (sym there) ∙ and_left (t x) (all t es) h
all_tells t (x ∷ es) h e (suc k, low, there) = all_tells t es (and_right (t x) (all t es) h) e (k, omega arith, there)

module _ (bytes : List ℕ) where
  abbrev passes : Entry → Bool
  passes e = not (bad_entry bytes e)

  -- where no record fails, the list is good
  pub none_bad : (n : ℕ) (es : List Entry) → first_record BadList (bad_entry bytes) n es ≡ none → all passes es ≡ true
  unfolding first_record all
  none_bad n [] h = refl
  none_bad n (e ∷ es) h = step (bad_entry bytes e) h (none_bad (n + 1) es)
    where
      step : (t : Bool) → (if t then refuse BadList n else first_record BadList (bad_entry bytes) (n + 1) es) ≡ none
          → (first_record BadList (bad_entry bytes) (n + 1) es ≡ none → all passes es ≡ true) → (not t && all passes es) ≡ true
      step true k ih = absurd (some-ne-none (record { fault = BadList; place = n }) k)
      step false k ih = ih k

  -- a good list's next record is good, and so is the list after it
  module _ (table rest : List ℕ) {e : Entry} (d : entries table ≡ e ∷ entries rest) (h : well_listed bytes table ≡ true) where
    next_good : (passes e && well_listed bytes rest) ≡ true
    unfolding well_listed all
    next_good = sym (ap (all passes) d) ∙ h

    abbrev high : Bool
    high = ltb 3 e.kind

    abbrev outside : Bool
    outside = ltb (length bytes) (e.start + e.size)

    sound : bad_entry bytes e ≡ false
    sound = not-true (bad_entry bytes e) (and_left (passes e) (well_listed bytes rest) next_good)

    pub good_kind : e.kind ≤ 3
    unfolding bad_entry
    good_kind = ltb-false 3 e.kind (or_none_left high outside (or_none_left (high || outside) (broken_start bytes e) sound))

    pub good_value : e.start + e.size ≤ length bytes
    unfolding bad_entry
    good_value = ltb-false (length bytes) (e.start + e.size) (or_none_right high outside (or_none_left (high || outside) (broken_start bytes e) sound))

    pub good_rest : well_listed bytes rest ≡ true
    good_rest = and_right (passes e) (well_listed bytes rest) next_good

-- each record of a good list has its value within the bytes
pub value_inside : (bytes table : List ℕ) → well_listed bytes table ≡ true → (e : Entry) → Contains (entries table) e → e.start + e.size ≤ length bytes
unfolding well_listed bad_entry
value_inside bytes table w e h =
    let high : Bool = ltb 3 e.kind in
    let outside : Bool = ltb (length bytes) (e.start + e.size) in
    let sound : bad_entry bytes e ≡ false = not-true (bad_entry bytes e) (all_tells (passes bytes) (entries table) w e h) in
    ltb-false (length bytes) (e.start + e.size) (or_none_right high outside (or_none_left (high || outside) (broken_start bytes e) sound))

-- ---- 16

-- where there is no release character, a service character in the value is the whole test
pub bare_value : (c : Characters) (value : List ℕ) → c.release ≡ 32 → {found : Bool} → found ≡ any (is_service c) value → found ≡ lacks_release c value
unfolding lacks_release has_release
bare_value c value h d = d ∙ sym (ap (λ (t : Bool). not (not t) && any (is_service c) value) (eq-eqb c.release 32 h))
