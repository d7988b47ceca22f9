-- The scan one entry at a time, with what the code keeps. Assumes nothing.
use Rattle.std.specs.Prelude.{if◌then◌else◌, Ok, Err}
use Prim.Native.Nat.{ℕ, zero, suc, ◌+◌, ◌-◌, ◌*◌, ◌%◌, ◌≤◌, ◌<◌}
use mathlib.Core.Path.{◌≡◌, refl, sym, ap, subst, ◌∙◌}
use mathlib.Core.Bool.{Bool, true, false, not, ◌&&◌, ◌||◌}
use mathlib.Core.List.{List, [], ◌∷◌, ◌++◌}
use mathlib.Core.Option.{Option, none, some}
use native.Mathlib.Omega.{arith}
use lib.ListN.{length, drop, get_or, set, length-drop, drop_of_length-le}
use lib.Dec.{eqb, leb, ltb}
use borrow.Author.Tests.{leb-true, ltb-true, ltb-false, eqb-true, lt-ltb, le-ltb, eq-eqb, ne_eqb}
use Rattle.lists.specs.Lists.{maybe}
use Rattle.lists.proofs.Texts.{and_left, and_right, if_true, if_false}
use Rattle.refusals.specs.declared.Fault.TheVariants.{UnsoundTable}
use Rattle.refusals.specs.declared.Refusal.{Refusal}
use Rattle.refusals.specs.Refusals.{place_if, failed_at, Outcome}
use Rattle.message_tables.specs.Entries.{Entry, entry_of, whole_entries, entries_of, is_group}
use Rattle.message_tables.specs.Soundness.{most_entries, most_depth, is_table_tag, segment_fits, is_trigger}
use Rattle.message_table_laws.specs.Scanning.{lower, own_room, nearest, Rises, fits_in, scanned, size_fault, first_fault}
use Rattle.message_table_laws.proofs.Entries.{entry_at_lem}
use Rattle.message_table_laws.proofs.Rising.{group_nearest}
use Rattle.message_table_laws.proofs.Scanning.{whole_entries_lem}
use Rattle.table_rows.specs.declared.Row.{Row}
use Rattle.table_rows.specs.Rows.{entry_in}
use Rattle.table_soundness.specs.Fitting.{asked, stated, group_fits_within, fits_within, rooms_in, Nested, found_at}
use Rattle.table_soundness.proofs.Rooms.{lower_shorter, rooms_count, nearest_is, rooms_rise, reaches, rooms_open, nested_open, first_kept}

-- ---- an entry

module _ (after : Bool) (depth room : ℕ) (e : Entry) where
  abbrev own : Bool
  own = if is_group e then group_fits_within depth room e.under else segment_fits e

  own_fits : fits_within after depth room e ≡ true → own ≡ true
  unfolding fits_within
  own_fits h = and_right (stated e && (not after || is_trigger e)) own h

  module _ (h : fits_within after depth room e ≡ true) where
    pub segment_holds_none : is_group e ≡ false → e.under ≡ 0
    unfolding segment_fits
    segment_holds_none g =
        let k : segment_fits e ≡ true = sym (if_false (is_group e) (group_fits_within depth room e.under) (segment_fits e) g) ∙ own_fits h in
        eqb-true e.under 0 (and_left _ (is_table_tag e.tag) k)

    group_within : is_group e ≡ true → (depth < most_depth) × (e.under ≤ room)
    unfolding group_fits_within
    group_within g =
        let k : (leb 1 e.under && ltb depth most_depth && leb e.under room) ≡ true =
        sym (if_true (is_group e) (group_fits_within depth room e.under) (segment_fits e) g) ∙ own_fits h in (
          ltb-true depth most_depth (and_right (leb 1 e.under) _ (and_left (leb 1 e.under && ltb depth most_depth) (leb e.under room) k)),
          leb-true e.under room (and_right (leb 1 e.under && ltb depth most_depth) (leb e.under room) k),
        )

    -- what it holds ends within the nearest group
    pub within_room : e.under ≤ room
    within_room = step (is_group e) refl
      where
        step : (g : Bool) → is_group e ≡ g → e.under ≤ room
        step true g = (group_within g).1
        step false g = omega (arith, segment_holds_none g)

    -- there are never more than eight open groups
    pub not_deeper : (held : List ℕ) → length held ≡ depth → depth ≤ most_depth → length (lower (e.under ∷ held)) ≤ most_depth
    unfolding place_if
    not_deeper held size k = step (is_group e) refl
      where
        step : (g : Bool) → is_group e ≡ g → length (lower (e.under ∷ held)) ≤ most_depth
        step true g = omega (arith, lower_shorter (e.under ∷ held), (group_within g).0)
        step false g =
            subst (λ (u : ℕ). length (lower (u ∷ held)) ≤ most_depth) (sym (segment_holds_none g)) (omega (arith, lower_shorter held))

    -- a segment is passed like a group that holds nothing
    pub own_lowered : (held : List ℕ) → lower (own_room e ++ held) ≡ lower (e.under ∷ held)
    unfolding place_if
    own_lowered held = step (is_group e) refl
      where
        step : (g : Bool) → is_group e ≡ g → lower ((if g then e.under ∷ [] else []) ++ held) ≡ lower (e.under ∷ held)
        step true g = refl
        step false g = sym (ap (λ (u : ℕ). lower (u ∷ held)) (segment_holds_none g))

-- an entry fits, from what is kept, exactly if it does so from the rooms of all groups that hold it
fits_nearest : (after : Bool) (held : List ℕ) (left : ℕ) (e : Entry) → Rises left held
    → fits_in after held left e ≡ fits_within after (length held) (nearest left held) e
unfolding fits_in fits_within stated group_fits_within
fits_nearest after held left e h =
    ap (λ (b : Bool). stated e && (not after || is_trigger e) && (if is_group e then b else segment_fits e)) (group_nearest held left e h)

-- ---- the scan

module _ (table : List ℕ) where
  -- the groups that hold the entry of a number
  abbrev pub Kept : (n depth : ℕ) (ends : List ℕ) → Type 0
  Kept n depth ends = (get_or ends 0 0 ≡ whole_entries table) × Nested (n + 1) depth ends × (depth ≤ most_depth)

  -- what the scan answers from the entry of a number on
  abbrev pub scans_from : (n : ℕ) (after : Bool) (depth : ℕ) (ends : List ℕ) → Option ℕ
  scans_from n after depth ends = scanned (most_entries - n) n after (rooms_in (n + 1) depth ends) (drop n (entries_of table))

  pub scan_starts : (ends : List ℕ) → scanned most_entries 0 false [] (entries_of table) ≡ scans_from 0 false 0 ends
  unfolding rooms_in
  scan_starts ends =
      let all : most_entries ≡ most_entries - 0 = omega arith in
      ap (λ (most : ℕ). scanned most 0 false [] (entries_of table)) all

  -- after the last of them it answers nothing
  pub scan_ends : (n : ℕ) (after : Bool) (depth : ℕ) (ends : List ℕ) → asked (whole_entries table) ≤ n → scans_from n after depth ends ≡ none
  unfolding scanned
  scan_ends n after depth ends h = step (ltb most_entries (whole_entries table)) refl h
    where
      over : (most : ℕ) → scanned most n after (rooms_in (n + 1) depth ends) [] ≡ none
      over zero = refl
      over (suc most) = refl

      step : (b : Bool) → ltb most_entries (whole_entries table) ≡ b → (if b then most_entries else whole_entries table) ≤ n
          → scans_from n after depth ends ≡ none
      step true e k =
          let all : most_entries - n ≡ 0 = omega arith in
          ap (λ (most : ℕ). scanned most n after (rooms_in (n + 1) depth ends) (drop n (entries_of table))) all
      step false e k =
          ap (scanned (most_entries - n) n after (rooms_in (n + 1) depth ends))
          (drop_of_length-le (entries_of table) {i = n} (omega (arith, whole_entries_lem table)))
          ∙ over (most_entries - n)

  module _ (n : ℕ) (after : Bool) (depth : ℕ) (ends : List ℕ) (k : Kept n depth ends) (l : n < asked (whole_entries table)) where
    abbrev e : Entry
    e = entry_of (drop (n * 8) table)

    abbrev room : ℕ
    room = get_or ends depth 0 - (n + 1)

    abbrev held : List ℕ
    held = rooms_in (n + 1) depth ends

    pub below : (n < most_entries) × (n < whole_entries table)
    below = step (ltb most_entries (whole_entries table)) refl l
      where
        step : (b : Bool) → ltb most_entries (whole_entries table) ≡ b → n < (if b then most_entries else whole_entries table)
            → (n < most_entries) × (n < whole_entries table)
        step true e h = (h, omega (arith, ltb-true most_entries (whole_entries table) e))
        step false e h = (omega (arith, ltb-false most_entries (whole_entries table) e), h)

    fits_here : fits_in after held (length (drop (suc n) (entries_of table))) e ≡ fits_within after depth room e
    fits_here =
        let left : length (drop (suc n) (entries_of table)) ≡ get_or ends 0 0 - (n + 1) =
        omega (arith, length-drop (suc n) (entries_of table), whole_entries_lem table, k.0) in
        ap (λ (m : ℕ). fits_in after held m e) left
        ∙ fits_nearest after held (get_or ends 0 0 - (n + 1)) e (rooms_rise ends (n + 1) depth k.1)
        ∙ λ i. fits_within after (rooms_count ends (n + 1) depth i) (nearest_is ends (n + 1) depth i) e

    scan_here : scans_from n after depth ends
        ≡ (if fits_within after depth room e
        then scanned (most_entries - suc n) (suc n) (is_group e) (lower (own_room e ++ held)) (drop (suc n) (entries_of table))
        else some n)
    unfolding scanned
    scan_here =
        let more : most_entries - n ≡ suc (most_entries - suc n) = omega (arith, below.0) in
        ap (λ (most : ℕ). scanned most n after held (drop n (entries_of table))) more
        ∙ ap (scanned (suc (most_entries - suc n)) n after held) (entry_at_lem table n below.1)
        ∙ ap (λ (b : Bool). if b
        then scanned (most_entries - suc n) (suc n) (is_group e) (lower (own_room e ++ held)) (drop (suc n) (entries_of table))
        else some n) fits_here

    pub scan_fails : fits_within after depth room e ≡ false → scans_from n after depth ends ≡ some n
    scan_fails h = scan_here ∙ if_false (fits_within after depth room e) _ (some n) h

    -- the entry fits, and its group is opened: a segment's holds nothing
    module _ (size : length ends ≡ 10) (row : Row) (is : entry_in row ≡ e) (fit : fits_within after depth room (entry_in row) ≡ true) where
      abbrev opened : List ℕ
      opened = set ends (depth + 1) (n + 1 + row.under)

      inside : depth + 1 < length ends
      inside = omega (arith, k.2)

      fit_here : fits_within after depth room e ≡ true
      fit_here = sym (ap (fits_within after depth room) is) ∙ fit

      pub scan_opens : Nested (n + 1) (depth + 1) opened
      scan_opens =
          nested_open ends (n + 1) depth row.under inside
          (omega (arith, within_room after depth room (entry_in row) fit, reaches ends (n + 1) depth (omega (arith, k.0, below.1)) k.1)) k.1

      -- the groups that are still open, as many as `count`
      module _ (count : ℕ) (rooms : lower (rooms_in (n + 1) (depth + 1) opened) ≡ rooms_in (n + 1 + 1) count opened)
          (nested : Nested (n + 1 + 1) count opened) where
        lowered : lower (row.under ∷ held) ≡ rooms_in (n + 1 + 1) count opened
        lowered = sym (ap lower (rooms_open ends (n + 1) depth row.under inside)) ∙ rooms

        pub kept_on : Kept (n + 1) count opened
        kept_on = (
          first_kept ends (n + 1) depth row.under inside ∙ k.0,
          nested,
          omega (
            arith,
            rooms_count opened (n + 1 + 1) count,
            ap length lowered,
            not_deeper after depth room (entry_in row) fit held (rooms_count ends (n + 1) depth) k.2,
          ),
        )

        pub scan_on : {group : Bool} → group ≡ is_group (entry_in row) → scans_from n after depth ends ≡ scans_from (n + 1) group count opened
        scan_on g =
            let next : suc n ≡ n + 1 = omega arith in
            scan_here
            ∙ if_true (fits_within after depth room e) _ (some n) fit_here
            ∙ ap (λ (f : Entry). scanned (most_entries - suc n) (suc n) (is_group f) (lower (own_room f ++ held)) (drop (suc n) (entries_of table))) (sym is)
            ∙ ap (λ (held : List ℕ). scanned (most_entries - suc n) (suc n) (is_group (entry_in row)) held (drop (suc n) (entries_of table)))
            (own_lowered after depth room (entry_in row) fit held ∙ lowered)
            ∙ ap (λ (m : ℕ). scanned (most_entries - m) m (is_group (entry_in row)) (rooms_in (n + 1 + 1) count opened) (drop m (entries_of table))) next
            ∙ ap (λ (b : Bool). scans_from (n + 1) b count opened) (sym g)

-- ---- the size

module _ (table : List ℕ) where
  pub size_over : most_entries < whole_entries table → failed_at UnsoundTable most_entries ≡ found_at (size_fault table)
  unfolding size_fault
  size_over h = sym (ap found_at (if_true (ltb most_entries (whole_entries table)) _ _ (lt-ltb most_entries (whole_entries table) h)))

  module _ (h : whole_entries table ≤ most_entries) where
    size_left : size_fault table ≡ (if eqb (length table % 8) 0 then none else some (whole_entries table))
    unfolding size_fault
    size_left = if_false (ltb most_entries (whole_entries table)) _ _ (le-ltb most_entries (whole_entries table) h)

    pub size_whole : length table % 8 ≡ 0 → Ok tt ≡ found_at (size_fault table)
    size_whole e = sym (ap found_at (size_left ∙ if_true (eqb (length table % 8) 0) none _ (eq-eqb (length table % 8) 0 e)))

    pub size_part : (length table % 8 ≡ 0 → ⊥) → failed_at UnsoundTable (whole_entries table) ≡ found_at (size_fault table)
    size_part n = sym (ap found_at (size_left ∙ if_false (eqb (length table % 8) 0) none _ (ne_eqb (length table % 8) 0 n)))

-- ---- the whole

module _ (table : List ℕ) {scan : Outcome} (e : scan ≡ found_at (scanned most_entries 0 false [] (entries_of table))) where
  -- an entry below 999 is at fault
  pub entry_answers : {r : Refusal} → scan ≡ Err r → Err r ≡ found_at (first_fault table)
  unfolding first_fault maybe
  entry_answers {r} d = step (scanned most_entries 0 false [] (entries_of table)) (sym d ∙ e)
    where
      step : (o : Option ℕ) → Err r ≡ found_at o → Err r ≡ found_at (maybe (size_fault table) some o)
      step none h = cc
      step (some n) h = h

  -- none is: the size decides
  pub size_answers : scan ≡ Ok tt → found_at (size_fault table) ≡ found_at (first_fault table)
  unfolding first_fault maybe
  size_answers d = step (scanned most_entries 0 false [] (entries_of table)) (sym d ∙ e)
    where
      step : (o : Option ℕ) → Ok tt ≡ found_at o → found_at (size_fault table) ≡ found_at (maybe (size_fault table) some o)
      step none h = refl
      step (some n) h = cc
