-- What the definitions say in the request's words and numbers. Assumes nothing.
use Rattle.std.specs.Prelude.{if◌then◌else◌}
use Prim.Native.Nat.{ℕ, suc, ◌+◌, ◌*◌, ◌-◌, ◌/◌, ◌%◌, ◌≤◌, ◌<◌}
use mathlib.Core.Path.{◌≡◌, refl, sym, ap, subst, ◌∙◌}
use mathlib.Core.Bool.{Bool, true, false, not, ◌&&◌, ◌||◌, false≢true}
use mathlib.Core.Logic.{◌⊎◌, inl, inr, ⊎_elim, ◌↔◌}
use mathlib.Core.List.Memᴰ
use mathlib.Core.List.{List, [], ◌∷◌, ◌++◌, nil≢cons, head-eq_of_cons-eq, tail-eq_of_cons-eq, reverse_aux, Memᴰ}
use native.Mathlib.Omega.{arith}
use lib.ListN.{length}
use lib.Dec.{eqb, leb, ltb}
use Rattle.lists.specs.Lists.{text, same, begins, member, all, at, is_empty, maybe}
use Rattle.lists.proofs.Tests.{Says, says_eq, says_le, says_lt, says_both, says_either, says_as, says_not, says_same, says_member, says_begins, says_all, fails, decides}
use Rattle.characters.specs.Characters.{between}
use Rattle.numbers.specs.Numbers.{read_on, number_at}
use Rattle.refusals.specs.Refusals.{place_if}
use Rattle.refusals.proofs.Words.{place_says}
use Rattle.segments.specs.Tags.{is_tag}
use Rattle.segments.proofs.Words.{tag_says}
use Rattle.message_tables.specs.Entries.{Entry, entry_of, entries_in, whole_entries, entries_of, is_group, is_mandatory}
use Rattle.message_tables.specs.Soundness.{most_entries, most_repeats, most_depth, is_table_tag, segment_fits, rooms_from, rooms, group_fits, is_trigger, triggers, fits, unfit, table_faults, is_sound}
use Rattle.message_tables.specs.Notions.{Group, TableTag, Holds, Trigger, Fitting, Faulty}

-- ---- entries

-- "eight big-endian bytes an entry: a three-byte tag .., `M` .. or `C` .., a 16-bit largest number of repeats .., a 16-bit number of entries"
pub entry_spelled : (a b c d e f g h : ℕ) (rest : List ℕ)
    → entry_of (a ∷ b ∷ c ∷ d ∷ e ∷ f ∷ g ∷ h ∷ rest)
    ≡ record { tag = a ∷ b ∷ c ∷ []; status = d; repeats = e * 256 + f; under = g * 256 + h }
unfolding entry_of number_at read_on
entry_spelled a b c d e f g h rest =
    let one : (n : ℕ) → 0 * 256 + n ≡ n = λ n. omega arith in
    λ i. record { tag = a ∷ b ∷ c ∷ []; status = one d i; repeats = one e i * 256 + f; under = one g i * 256 + h }

-- fewer than eight bytes are no entry; else the first eight are the first
pub entries_none : (table : List ℕ) → length table < 8 → entries_of table ≡ []
unfolding entries_of entries_in whole_entries
entries_none table h =
    let none : length table / 8 ≡ 0 = omega arith in
    ap (λ (n : ℕ). entries_in n table) none

pub entries_next : (a b c d e f g h : ℕ) (rest : List ℕ)
    → entries_of (a ∷ b ∷ c ∷ d ∷ e ∷ f ∷ g ∷ h ∷ rest) ≡ entry_of (a ∷ b ∷ c ∷ d ∷ e ∷ f ∷ g ∷ h ∷ rest) ∷ entries_of rest
unfolding entries_of entries_in whole_entries
entries_next a b c d e f g h rest =
    let table : List ℕ = a ∷ b ∷ c ∷ d ∷ e ∷ f ∷ g ∷ h ∷ rest in
    let more : length table / 8 ≡ suc (length rest / 8) = omega arith in
    ap (λ (n : ℕ). entries_in n table) more

-- ---- a segment and a group

pub group_says : (e : Entry) → Says (is_group e) (Group e)
unfolding is_group
group_says e = says_same e.tag (0 ∷ 0 ∷ 0 ∷ [])

pub mandatory_says : (e : Entry) → Says (is_mandatory e) (e.status ≡ 77)
unfolding is_mandatory
mandatory_says e = says_as (says_member e.status (text "M")) Memᴰ.eq_of_singleton Memᴰ.head

pub limits_are : (most_entries ≡ 999) × (most_repeats ≡ 999) × (most_depth ≡ 8)
limits_are = (refl, refl, refl)

pub table_tag_says : (tag : List ℕ) → Says (is_table_tag tag) (TableTag tag)
unfolding is_table_tag
table_tag_says tag =
    let un : Bool = begins (text "UN") tag in
    let uns : Bool = same tag (text "UNS") in
    says_both (is_tag tag) (not un || uns) (tag_says tag)
    (says_either (not un) uns (says_not un (says_begins (text "UN") tag)) (says_same tag (text "UNS")))

pub segment_says : (e : Entry) → Says (segment_fits e) ((e.under ≡ 0) × TableTag e.tag)
unfolding segment_fits
segment_says e = says_both (eqb e.under 0) (is_table_tag e.tag) (says_eq e.under 0) (table_tag_says e.tag)

-- ---- the groups that hold an entry

-- the rooms from a distance on
abbrev HoldsFrom : ℕ → List Entry → ℕ → Type 0
HoldsFrom distance past room =
    (nearer : List Entry)
    × (group : Entry)
    × (farther : List Entry)
    × (past ≡ nearer ++ group ∷ farther)
    × Group group
    × (group.under ≡ length nearer + distance + room)

rooms_from_lem : (distance : ℕ) (past : List Entry) (room : ℕ) → Memᴰ room (rooms_from distance past) ↔ HoldsFrom distance past room
unfolding rooms_from
rooms_from_lem distance [] room = (λ m. absurd (Memᴰ.not-nil m), λ h. absurd (empty h.0 h.1 h.2 h.3))
  where
    empty : (nearer : List Entry) (group : Entry) (farther : List Entry) → [] ≡ nearer ++ group ∷ farther → ⊥
    empty [] group farther e = nil≢cons e
    empty (x ∷ nearer) group farther e = nil≢cons e
rooms_from_lem distance (e ∷ past) room = (
  λ m. ⊎_elim (λ k. first (own.0 k)) (λ k. later ((rooms_from_lem (suc distance) past room).0 k)) (Memᴰ.append_cases here m),
  λ h. back (rooms_from_lem (suc distance) past room).1 h.0 h.1 h.2 h.3 h.4 h.5,
)
  where
    here : List ℕ
    here = place_if (is_group e && leb distance e.under) (e.under - distance)

    own : Memᴰ room here ↔ ((Group e × (distance ≤ e.under)) × (room ≡ e.under - distance))
    own =
        place_says (is_group e && leb distance e.under) (e.under - distance) room
        (says_both (is_group e) (leb distance e.under) (group_says e) (says_le distance e.under))

    first : ((Group e × (distance ≤ e.under)) × (room ≡ e.under - distance)) → HoldsFrom distance (e ∷ past) room
    first h = ([], e, past, refl, h.0.0, omega (arith, h.0.1, h.1))

    later : HoldsFrom (suc distance) past room → HoldsFrom distance (e ∷ past) room
    later (nearer, group, farther, s, g, u) = (e ∷ nearer, group, farther, ap (λ (xs : List Entry). e ∷ xs) s, g, omega arith)

    back : (HoldsFrom (suc distance) past room → Memᴰ room (rooms_from (suc distance) past))
        → (nearer : List Entry) (group : Entry) (farther : List Entry) → e ∷ past ≡ nearer ++ group ∷ farther → Group group
        → group.under ≡ length nearer + distance + room → Memᴰ room (here ++ rooms_from (suc distance) past)
    back rest [] group farther s g u =
        let same-entry : e ≡ group = head-eq_of_cons-eq s in
        let under : e.under ≡ distance + room = ap (λ (x : Entry). x.under) same-entry ∙ u ∙ omega arith in
        Memᴰ.append_left (rooms_from (suc distance) past)
        (own.1 ((ap (λ (x : Entry). x.tag) same-entry ∙ g, omega (arith, under)), omega (arith, under)))
    back rest (x ∷ nearer) group farther s g u =
        Memᴰ.append_right here (rest (nearer, group, farther, tail-eq_of_cons-eq s, g, omega arith))

pub rooms_say : (past : List Entry) (room : ℕ) → Memᴰ room (rooms past) ↔ Holds past room
unfolding rooms
rooms_say past room = rooms_from_lem 1 past room

-- each of them has its room, the nearest first
pub rooms_are : (segment group wide : Entry) → segment.tag ≡ 65 ∷ 65 ∷ 65 ∷ [] → group.tag ≡ 0 ∷ 0 ∷ 0 ∷ [] → group.under ≡ 3
    → wide.tag ≡ 0 ∷ 0 ∷ 0 ∷ [] → wide.under ≡ 9
    → (rooms (segment ∷ group ∷ segment ∷ wide ∷ []) ≡ 1 ∷ 5 ∷ [])
    × (rooms (segment ∷ segment ∷ segment ∷ group ∷ wide ∷ []) ≡ 4 ∷ [])
    × (rooms (segment ∷ segment ∷ group ∷ wide ∷ wide ∷ []) ≡ 0 ∷ 5 ∷ 4 ∷ [])
unfolding rooms rooms_from place_if is_group same
rooms_are segment group wide s g u w v = (rw (s, g, u, w, v), rw (s, g, u, w, v), rw (s, g, u, w, v))

-- ---- any entry

pub trigger_says : (e : Entry) → Says (is_trigger e) (Trigger e)
unfolding is_trigger
trigger_says e =
    says_as
    (says_both (not (is_group e) && is_mandatory e) (eqb e.repeats 1)
    (says_both (not (is_group e)) (is_mandatory e) (says_not (is_group e) (group_says e)) (mandatory_says e)) (says_eq e.repeats 1))
    (λ h. (h.0.0, h.0.1, h.1))
    (λ h. ((h.0, h.1), h.2))

-- the entry after a group's own is a trigger
abbrev Triggers : List Entry → Entry → Type 0
Triggers past e = (group : Entry) (rest : List Entry) → past ≡ group ∷ rest → Group group → Trigger e

pub triggers_say : (past : List Entry) (e : Entry) → Says (triggers past e) (Triggers past e)
unfolding triggers maybe at
triggers_say [] e = (λ h group rest s. absurd (nil≢cons s), λ h. refl)
triggers_say (x ∷ past) e =
    says_as (says_either (not (is_group x)) (is_trigger e) (says_not (is_group x) (group_says x)) (trigger_says e))
    (λ h group rest s g. ⊎_elim (λ n. absurd (n (ap (λ (y : Entry). y.tag) (head-eq_of_cons-eq s) ∙ g))) (λ k. k) h)
    (λ h. ⊎_elim (λ g. inr (h x past refl g)) inl (decides (is_group x) (group_says x)))

pub group_fits_say : (past : List Entry) (left : ℕ) (e : Entry)
    → Says (group_fits past left e) ((1 ≤ e.under) × (length (rooms past) < 8) × (e.under ≤ left) × ((room : ℕ) → Holds past room → e.under ≤ room))
unfolding group_fits
group_fits_say past left e =
    let a : Bool = leb 1 e.under in
    let b : Bool = ltb (length (rooms past)) most_depth in
    let c : Bool = all (leb e.under) (left ∷ rooms past) in
    says_as
    (says_both (a && b) c (says_both a b (says_le 1 e.under) (says_lt (length (rooms past)) most_depth))
    (says_all {P = λ room. e.under ≤ room} (leb e.under) (says_le e.under) (left ∷ rooms past)))
    (λ h. (h.0.0, h.0.1, h.1 left (Memᴰ.head refl), λ room k. h.1 room (Memᴰ.tail ((rooms_say past room).1 k))))
    (λ h. (
      (h.0, h.1),
      λ room m.
          ⊎_elim (λ (q : room ≡ left). subst (λ (n : ℕ). e.under ≤ n) (sym q) h.2) (λ k. h.3 room ((rooms_say past room).0 k))
          (Memᴰ.cases_cons m),
    ))

-- `M` is 77, `C` is 67
status_says : (n : ℕ) → Says (member n (text "MC")) ((n ≡ 77) ⊎ (n ≡ 67))
status_says n =
    says_as (says_member n (text "MC"))
    (λ m. ⊎_elim inl (λ k. inr (Memᴰ.eq_of_singleton k)) (Memᴰ.cases_cons m))
    (⊎_elim Memᴰ.head (λ k. Memᴰ.tail (Memᴰ.head k)))

pub fits_say : (past : List Entry) (left : ℕ) (e : Entry) → Says (fits past left e) (Fitting past left e)
unfolding fits between
fits_say past left e =
    let a : Bool = member e.status (text "MC") in
    let b : Bool = leb 1 e.repeats && leb e.repeats most_repeats in
    let c : Bool = triggers past e in
    let d : Bool = if is_group e then group_fits past left e else segment_fits e in
    says_as
    (says_both (a && b && c) d
    (says_both (a && b) c
    (says_both a b (status_says e.status)
    (says_both (leb 1 e.repeats) (leb e.repeats most_repeats) (says_le 1 e.repeats) (says_le e.repeats most_repeats)))
    (triggers_say past e))
    (either (is_group e) refl))
    (λ h. record { status = h.0.0.0; repeats = h.0.0.1; trigger = h.0.1; segment = h.1.1; group = h.1.0 })
    (λ h. (((h.status, h.repeats), h.trigger), (h.group, h.segment)))
  where
    either : (g : Bool) → is_group e ≡ g
        → Says (if g then group_fits past left e else segment_fits e)
        ((Group e → (1 ≤ e.under) × (length (rooms past) < 8) × (e.under ≤ left) × ((room : ℕ) → Holds past room → e.under ≤ room))
        × ((Group e → ⊥) → (e.under ≡ 0) × TableTag e.tag))
    either true k =
        says_as (group_fits_say past left e) (λ h. (λ g. h, λ n. absurd (n ((group_says e).0 k)))) (λ h. h.0 ((group_says e).0 k))
    either false k =
        let no-group : Group e → ⊥ = (fails (is_group e) (group_says e)).0 k in
        says_as (segment_says e) (λ h. (λ g. absurd (no-group g), λ n. h)) (λ h. h.1 no-group)

-- ---- the table

-- with what stands before
abbrev UnfitFrom : ℕ → List Entry → List Entry → ℕ → Type 0
UnfitFrom n past es q =
    (before : List Entry)
    × (e : Entry)
    × (after : List Entry)
    × (es ≡ before ++ e ∷ after)
    × (q ≡ n + length before)
    × (Fitting (reverse_aux before past) (length after) e → ⊥)

unfit_from : (n : ℕ) (past es : List Entry) (q : ℕ) → Memᴰ q (unfit n past es) ↔ UnfitFrom n past es q
unfolding unfit
unfit_from n past [] q = (λ m. absurd (Memᴰ.not-nil m), λ h. absurd (empty h.0 h.1 h.2 h.3))
  where
    empty : (before : List Entry) (e : Entry) (after : List Entry) → [] ≡ before ++ e ∷ after → ⊥
    empty [] e after s = nil≢cons s
    empty (x ∷ before) e after s = nil≢cons s
unfit_from n past (x ∷ es) q = (
  λ m. ⊎_elim (λ k. first (own.0 k)) (λ k. later ((unfit_from (suc n) (x ∷ past) es q).0 k)) (Memᴰ.append_cases here m),
  λ h. back (unfit_from (suc n) (x ∷ past) es q).1 h.0 h.1 h.2 h.3 h.4 h.5,
)
  where
    here : List ℕ
    here = place_if (not (fits past (length es) x)) n

    own : Memᴰ q here ↔ ((Fitting past (length es) x → ⊥) × (q ≡ n))
    own = place_says (not (fits past (length es) x)) n q (says_not (fits past (length es) x) (fits_say past (length es) x))

    first : (Fitting past (length es) x → ⊥) × (q ≡ n) → UnfitFrom n past (x ∷ es) q
    first h = ([], x, es, refl, omega (arith, h.1), h.0)

    later : UnfitFrom (suc n) (x ∷ past) es q → UnfitFrom n past (x ∷ es) q
    later (before, e, after, s, k, f) = (x ∷ before, e, after, ap (λ (xs : List Entry). x ∷ xs) s, omega arith, f)

    back : (UnfitFrom (suc n) (x ∷ past) es q → Memᴰ q (unfit (suc n) (x ∷ past) es))
        → (before : List Entry) (e : Entry) (after : List Entry) → x ∷ es ≡ before ++ e ∷ after → q ≡ n + length before
        → (Fitting (reverse_aux before past) (length after) e → ⊥) → Memᴰ q (here ++ unfit (suc n) (x ∷ past) es)
    back rest [] e after s k f =
        Memᴰ.append_left (unfit (suc n) (x ∷ past) es)
        (own.1 (
          λ h.
              f (subst (λ (l : List Entry). Fitting past (length l) e) (tail-eq_of_cons-eq s)
              (subst (Fitting past (length es)) (head-eq_of_cons-eq s) h)),
          omega arith,
        ))
    back rest (y ∷ before) e after s k f =
        Memᴰ.append_right here
        (rest (
          before,
          e,
          after,
          tail-eq_of_cons-eq s,
          omega arith,
          subst (λ (z : Entry). Fitting (reverse_aux before (z ∷ past)) (length after) e → ⊥) (sym (head-eq_of_cons-eq s)) f,
        ))

-- 21: the entries at fault
pub faulty_exactly : (table : List ℕ) (n : ℕ) → Memᴰ n (table_faults table) ↔ Faulty table n
unfolding table_faults whole_entries
faulty_exactly table n = (there, back)
  where
    own : List ℕ
    own = unfit 0 [] (entries_of table)

    partial : List ℕ
    partial = place_if (not (eqb (length table % 8) 0)) (length table / 8)

    broken : Memᴰ n partial ↔ ((length table % 8 ≡ 0 → ⊥) × (n ≡ length table / 8))
    broken =
        place_says (not (eqb (length table % 8) 0)) (length table / 8) n
        (says_not (eqb (length table % 8) 0) (says_eq (length table % 8) 0))

    crowded : Memᴰ n (place_if (ltb most_entries (length table / 8)) most_entries) ↔ ((999 < length table / 8) × (n ≡ 999))
    crowded = place_says (ltb most_entries (length table / 8)) most_entries n (says_lt most_entries (length table / 8))

    there : Memᴰ n (own ++ (partial ++ place_if (ltb most_entries (length table / 8)) most_entries)) → Faulty table n
    there m =
        ⊎_elim (λ k. let (before, e, after, s, q, f) = (unfit_from 0 [] (entries_of table) n).0 k in inl (before, e, after, s, omega arith, f))
        (λ k. ⊎_elim (λ j. inr (inl (broken.0 j))) (λ j. inr (inr (crowded.0 j))) (Memᴰ.append_cases partial k))
        (Memᴰ.append_cases own m)

    back : Faulty table n → Memᴰ n (own ++ (partial ++ place_if (ltb most_entries (length table / 8)) most_entries))
    back (inl (before, e, after, s, q, f)) =
        Memᴰ.append_left (partial ++ place_if (ltb most_entries (length table / 8)) most_entries)
        ((unfit_from 0 [] (entries_of table) n).1 (before, e, after, s, omega arith, f))
    back (inr (inl h)) =
        Memᴰ.append_right own (Memᴰ.append_left (place_if (ltb most_entries (length table / 8)) most_entries) (broken.1 h))
    back (inr (inr h)) = Memᴰ.append_right own (Memᴰ.append_right partial (crowded.1 h))

-- "A table that breaks any of this is unsound."
pub sound_says : (table : List ℕ) → Says (is_sound table) ((n : ℕ) → Faulty table n → ⊥)
unfolding is_sound is_empty
sound_says table = (
  λ h n k. Memᴰ.not-nil (subst (Memᴰ n) (none (table_faults table) h) ((faulty_exactly table n).1 k)),
  λ h. empty (table_faults table) (λ n m. h n ((faulty_exactly table n).0 m)),
)
  where
    none : (ps : List ℕ) → is_empty ps ≡ true → ps ≡ []
    none [] h = refl
    none (p ∷ ps) h = absurd (false≢true h)

    empty : (ps : List ℕ) → ((n : ℕ) → Memᴰ n ps → ⊥) → is_empty ps ≡ true
    empty [] h = refl
    empty (p ∷ ps) h = absurd (h p (Memᴰ.head refl))
