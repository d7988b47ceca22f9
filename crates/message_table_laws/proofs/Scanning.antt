-- The scan finds the lowest entry at fault. Assumes nothing.
use Rattle.std.specs.Prelude.{if◌then◌else◌}
use Prim.Native.Nat.{ℕ, zero, suc, ◌+◌, ◌%◌, ◌≤◌, ◌<◌}
use mathlib.Core.Path.{◌≡◌, refl, sym, ap, subst, ◌∙◌}
use mathlib.Core.Bool.{Bool, true, false, not, false≢true}
use mathlib.Core.Logic.{◌↔◌, ⊎_elim}
use mathlib.Core.List.Memᴰ
use mathlib.Core.List.{List, [], ◌∷◌, ◌++◌, Memᴰ, append-eq-nil_iff, cons≢nil}
use mathlib.Core.Option.{Option, none, some}
use native.Mathlib.Omega.{arith}
use lib.ListN.{length, drop}
use lib.Dec.{eqb, ltb}
use borrow.Author.Tests.{ltb-true, ltb-false}
use Rattle.lists.specs.Lists.{at, is_empty, maybe}
use Rattle.refusals.specs.Refusals.{place_if}
use Rattle.message_tables.specs.Entries.{Entry, entries_in, whole_entries, entries_of, is_group}
use Rattle.message_tables.specs.Soundness.{most_entries, rooms, rooms_from, group_fits, triggers, fits, unfit, table_faults, is_sound}
use Rattle.message_table_laws.specs.Nesting.{Fits}
use Rattle.message_table_laws.specs.Scanning.{lower, own_room, group_fits_in, fits_in, scanned, size_fault, first_fault}
use Rattle.message_table_laws.proofs.Rooms.{rooms_next}

-- the entry before is a group's own
abbrev after_group : List Entry → Bool
after_group past = maybe false is_group (at past 0)

-- an entry fits exactly if it does so from what is kept
pub fits_kept : (past : List Entry) (left : ℕ) (e : Entry) → fits past left e ≡ fits_in (after_group past) (rooms past) left e
unfolding fits fits_in group_fits group_fits_in triggers maybe at
fits_kept [] left e = refl
fits_kept (g ∷ past) left e = refl

-- ---- the places at which entries are at fault

placed : (b : Bool) (n q : ℕ) → Memᴰ q (place_if b n) → (b ≡ true) × (q ≡ n)
unfolding place_if
placed true n q m = (refl, Memᴰ.eq_of_singleton m)
placed false n q m = absurd (Memᴰ.not-nil m)

placing : (b : Bool) (n : ℕ) → b ≡ true → Memᴰ n (place_if b n)
unfolding place_if
placing true n e = Memᴰ.head refl
placing false n e = absurd (false≢true e)

-- they are the numbers of the entries
unfit_within : (n : ℕ) (past es : List Entry) (q : ℕ) → Memᴰ q (unfit n past es) → (n ≤ q) × (q < n + length es)
unfolding unfit
unfit_within n past [] q m = absurd (Memᴰ.not-nil m)
unfit_within n past (e ∷ es) q m =
    ⊎_elim (λ k. own (placed (not (fits past (length es) e)) n q k).1) (λ k. later (unfit_within (suc n) (e ∷ past) es q k))
    (Memᴰ.append_cases (place_if (not (fits past (length es) e)) n) m)
  where
    own : q ≡ n → (n ≤ q) × (q < n + length (e ∷ es))
    own e = (omega arith, omega arith)

    later : (suc n ≤ q) × (q < suc n + length es) → (n ≤ q) × (q < n + length (e ∷ es))
    later h = (omega arith, omega arith)

-- what the scan says of them: the lowest, or that they all lie beyond what was scanned
abbrev Says : (most n : ℕ) (places : List ℕ) → Option ℕ → Type 0
Says most n places none = (q : ℕ) → Memᴰ q places → n + most ≤ q
Says most n places (some m) = Memᴰ m places × ((q : ℕ) → Memᴰ q places → m ≤ q) × (m < n + most)

one_less : (most n : ℕ) (places : List ℕ) (o : Option ℕ) → Says most (suc n) places o → Says (suc most) n places o
one_less most n places none h = λ q m. omega (arith, h q m)
one_less most n places (some k) h = (h.0, h.1, omega (arith, h.2))

scan_says : (most n : ℕ) (past es : List Entry) → Says most n (unfit n past es) (scanned most n (after_group past) (rooms past) es)
unfolding scanned unfit maybe at place_if
scan_says zero n past es = λ q m. omega (arith, (unfit_within n past es q m).0)
scan_says (suc most) n past [] = λ q m. absurd (Memᴰ.not-nil m)
scan_says (suc most) n past (e ∷ es) =
    subst (Says (suc most) n (unfit n past (e ∷ es))) (λ i. if fits_kept past (length es) e i then onward else some n)
    (step (fits past (length es) e)
    (subst (λ (held : List ℕ). Says most (suc n) later (scanned most (suc n) (is_group e) held es)) (rooms_next e past)
    (scan_says most (suc n) (e ∷ past) es)))
  where
    later : List ℕ
    later = unfit (suc n) (e ∷ past) es

    onward : Option ℕ
    onward = scanned most (suc n) (is_group e) (lower (own_room e ++ rooms past)) es

    step : (b : Bool) → Says most (suc n) later onward → Says (suc most) n (place_if (not b) n ++ later) (if b then onward else some n)
    step true h = one_less most n later onward h
    step false h = (
      Memᴰ.head refl,
      λ q m. ⊎_elim (λ (k : Memᴰ q (n ∷ [])). omega (arith, Memᴰ.eq_of_singleton k))
          (λ k. omega (arith, (unfit_within (suc n) (e ∷ past) es q k).0)) (Memᴰ.append_cases (n ∷ []) m),
      omega arith,
    )

-- ---- the table

entries_count : (n : ℕ) (table : List ℕ) → length (entries_in n table) ≡ n
unfolding entries_in
entries_count zero table = refl
entries_count (suc n) table = ap suc (entries_count n (drop 8 table))

module _ (table : List ℕ) where
  pub whole_entries_lem : length (entries_of table) ≡ whole_entries table
  unfolding entries_of
  whole_entries_lem = entries_count (whole_entries table) table

  -- the places of the three lists
  abbrev own : List ℕ
  own = unfit 0 [] (entries_of table)

  abbrev broken : Bool
  broken = not (eqb (length table % 8) 0)

  abbrev crowded : Bool
  crowded = ltb most_entries (whole_entries table)

  at_own : (q : ℕ) → Memᴰ q own → q < whole_entries table
  at_own q m = omega (arith, (unfit_within 0 [] (entries_of table) q m).1, whole_entries_lem)

  scan_table : Says most_entries 0 own (scanned most_entries 0 false [] (entries_of table))
  unfolding maybe at rooms rooms_from
  scan_table = scan_says most_entries 0 [] (entries_of table)

  -- a place of any of them
  among : {P : Type 0} (q : ℕ) → Memᴰ q (table_faults table) → (Memᴰ q own → P)
      → (broken ≡ true → q ≡ whole_entries table → P) → (crowded ≡ true → q ≡ most_entries → P) → P
  unfolding table_faults
  among q m a b c =
      ⊎_elim a
      (λ k. ⊎_elim (λ x. let p = placed broken (whole_entries table) q x in b p.0 p.1)
      (λ x. let p = placed crowded most_entries q x in c p.0 p.1)
      (Memᴰ.append_cases (place_if broken (whole_entries table)) k))
      (Memᴰ.append_cases own m)

  -- the first fault is one, and the lowest
  Found : Option ℕ → Type 0
  Found none = (q : ℕ) → Memᴰ q (table_faults table) → ⊥
  Found (some n) = Memᴰ n (table_faults table) × ((q : ℕ) → Memᴰ q (table_faults table) → n ≤ q)

  -- of the size alone, where no entry below 999 is at fault
  size_found : ((q : ℕ) → Memᴰ q own → most_entries ≤ q) → Found (size_fault table)
  unfolding Found size_fault table_faults
  size_found h = step crowded refl (eqb (length table % 8) 0) refl
    where
      step : (c : Bool) → crowded ≡ c → (b : Bool) → eqb (length table % 8) 0 ≡ b
          → Found (if c then some most_entries else (if b then none else some (whole_entries table)))
      step true c b d = (
        Memᴰ.append_right own (Memᴰ.append_right (place_if broken (whole_entries table)) (placing crowded most_entries c)),
        λ q m.
            among q m (h q) (λ x y. omega (arith, ltb-true most_entries (whole_entries table) c)) (λ x y. omega arith),
      )
      step false c false d = (
        Memᴰ.append_right own (Memᴰ.append_left (place_if crowded most_entries) (placing broken (whole_entries table) (ap not d))),
        λ q m.
            among q m (λ k. absurd (omega (arith, h q k, at_own q k, ltb-false most_entries (whole_entries table) c))) (λ x y. omega arith)
            (λ x y. absurd (false≢true (sym c ∙ x))),
      )
      step false c true d =
          λ q m.
          among q m (λ k. omega (arith, h q k, at_own q k, ltb-false most_entries (whole_entries table) c)) (λ x y. false≢true (sym (ap not d) ∙ x))
          (λ x y. false≢true (sym c ∙ x))

  first_found : Found (first_fault table)
  unfolding first_fault maybe Found table_faults
  first_found = step (scanned most_entries 0 false [] (entries_of table)) scan_table
    where
      step : (o : Option ℕ) → Says most_entries 0 own o → Found (maybe (size_fault table) some o)
      step none h = size_found h
      step (some n) h = (
        Memᴰ.append_left (place_if broken (whole_entries table) ++ place_if crowded most_entries) h.0,
        λ q m.
            among q m (h.1 q) (λ x y. omega (arith, at_own n h.0))
            (λ x y. omega (arith, h.2)),
      )

  -- an unsound table has a first fault, which is the lowest
  pub fault_lowest : (n : ℕ) → first_fault table ≡ some n
      → Memᴰ n (table_faults table) × ((q : ℕ) → Memᴰ q (table_faults table) → n ≤ q)
  unfolding Found
  fault_lowest n e = subst Found e first_found

  pub fault_none : first_fault table ≡ none → (q : ℕ) → Memᴰ q (table_faults table) → ⊥
  unfolding Found
  fault_none e = subst Found e first_found

  -- a sound table has none
  pub sound_none : is_sound table ≡ true → table_faults table ≡ []
  unfolding is_sound is_empty
  sound_none h = step (table_faults table) h
    where
      step : (ps : List ℕ) → is_empty ps ≡ true → ps ≡ []
      step [] h = refl
      step (p ∷ ps) h = absurd (false≢true h)

  pub none_sound : table_faults table ≡ [] → is_sound table ≡ true
  unfolding is_sound is_empty
  none_sound e = ap is_empty e

  pub sound_first : (is_sound table ≡ true) ↔ (first_fault table ≡ none)
  sound_first = (λ h. there (first_fault table) refl (sound_none h), λ e. none_sound (empty (table_faults table) (fault_none e)))
    where
      there : (o : Option ℕ) → first_fault table ≡ o → table_faults table ≡ [] → first_fault table ≡ none
      there none e s = e
      there (some n) e s = absurd (Memᴰ.not-nil (subst (Memᴰ n) s (fault_lowest n e).0))

      empty : (ps : List ℕ) → ((q : ℕ) → Memᴰ q ps → ⊥) → ps ≡ []
      empty [] h = refl
      empty (p ∷ ps) h = absurd (h p (Memᴰ.head refl))

-- every entry of a sound table fits
unfit_fits : (n : ℕ) (past es : List Entry) → unfit n past es ≡ [] → Fits past es
unfolding unfit place_if
unfit_fits n past [] e = tt
unfit_fits n past (x ∷ es) e = step (fits past (length es) x) refl e (unfit_fits (suc n) (x ∷ past) es)
  where
    step : (b : Bool) → fits past (length es) x ≡ b → place_if (not b) n ++ unfit (suc n) (x ∷ past) es ≡ []
        → (unfit (suc n) (x ∷ past) es ≡ [] → Fits (x ∷ past) es) → (fits past (length es) x ≡ true) × Fits (x ∷ past) es
    step true f e rest = (f, rest e)
    step false f e rest = absurd (cons≢nil e)

pub sound_fits : (table : List ℕ) → is_sound table ≡ true → Fits [] (entries_of table)
unfolding table_faults
sound_fits table h = unfit_fits 0 [] (entries_of table) (append-eq-nil_iff.0 (sound_none table h)).0
