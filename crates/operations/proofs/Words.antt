-- What the definitions say in numbers: the records of a table, what Write is refused with and where, and the table that Read gives.
-- Assumes nothing.
use Prim.Native.Nat.{ℕ, zero, suc, ◌+◌, ◌*◌, ◌%◌, ◌<◌}
use mathlib.Core.Path.{◌≡◌, refl, sym, ap, subst, ◌∙◌}
use mathlib.Core.Bool.{Bool, true, false, not, ◌&&◌, ◌||◌}
use mathlib.Core.List.Memᴰ
use mathlib.Core.List.{List, [], ◌∷◌, ◌++◌, map, Memᴰ}
use mathlib.Core.Option.{Option, some, none-ne-some, some-injective}
use mathlib.Core.Logic.{◌⊎◌, inl, inr, ⊎_elim, ◌↔◌}
use native.Mathlib.Nat.{add-zero, zero-add}
use native.Mathlib.Omega.{arith}
use lib.Dec.{eqb, ltb}
use lib.ListN.{length, take, drop, length-append}
use Rattle.lists.specs.Lists.{any, at, gather, maybe}
use Rattle.lists.proofs.Tests.{Says, says_eq, says_lt, says_both, says_either, says_not, says_as, says_any, says_maybe, at_within}
use Rattle.characters.specs.declared.Characters.{Characters}
use Rattle.characters.specs.Characters.{spelled_out, advice_of, six_bytes, usable, has_release, has_repetition, is_service}
use Rattle.characters.proofs.Words.{Usable, usable_says, service_says, six_are}
use Rattle.refusals.specs.declared.Fault.{Fault}
use Rattle.refusals.specs.declared.Fault.TheVariants.{TooLong, UnusableAdvice, BufferShort, BadList, NeedsRelease}
use Rattle.refusals.specs.declared.Refusal.{Refusal}
use Rattle.refusals.specs.Refusals.{Stage, met, place_if, answering}
use Rattle.refusals.proofs.Words.{place_says, place_answers, nowhere_answers}
use Rattle.values.specs.Spelling.{Bytes, spell, leads_break}
use Rattle.values.proofs.Words.{leads_says}
use Rattle.stages.specs.Contents.{contents, interchange}
use Rattle.stages.specs.Places.{too_long}
use Rattle.stages.specs.Stages.{later_stages}
use Rattle.stages.proofs.Words.{one_at}
use Rattle.operations.specs.Judge.{short_for}
use Rattle.operations.specs.ValueList.{Item, rank_of, list_repeat, list_element, list_segment, list_of, list_bytes, table_from, list_table, Entry, entries, value_in, listed_in, segments_listed, trim_list}
use Rattle.operations.specs.Read.{value_bytes, value_table}
use Rattle.operations.specs.Write.{numbers_where, bad_table, broken_start, bad_entry, bad_list, unusable_bytes, lacks_release, lacks_repetition, cannot_stand, needs_release, written_text, write_stages, write_refusal}
pub use Rattle.operations.specs.Notions.{Record, BadTable, Bad, BadRecord, LacksRelease, Nowhere, Lowest}

-- ---- the records of a table

pub entry_is : (table : List ℕ) (n : ℕ) (e : Entry) → (at (entries table) n ≡ some e) ↔ Record table n e.kind e.start e.size
unfolding entries at
entry_is [] n e = (λ h. absurd (none-ne-some e h), λ h. absurd (none-ne-some e.kind h.0))
entry_is (a ∷ []) n e = (
  λ h. absurd (none-ne-some e h),
  λ h. absurd (omega (arith, at_within (a ∷ []) (3 * n + 2) e.size h.2)),
)
entry_is (a ∷ b ∷ []) n e = (
  λ h. absurd (none-ne-some e h),
  λ h. absurd (omega (arith, at_within (a ∷ b ∷ []) (3 * n + 2) e.size h.2)),
)
entry_is (a ∷ b ∷ c ∷ rest) zero e = (
  λ h.
      let own : record { kind = a; start = b; size = c } ≡ e = some-injective (record { kind = a; start = b; size = c }) e h in
      (ap (λ (x : Entry). some x.kind) own, ap (λ (x : Entry). some x.start) own, ap (λ (x : Entry). some x.size) own),
  λ h.
      ap (λ (x : ℕ). some (record { kind = x; start = b; size = c })) (some-injective a e.kind h.0)
      ∙ ap (λ (x : ℕ). some (record { kind = e.kind; start = x; size = c })) (some-injective b e.start h.1)
      ∙ ap (λ (x : ℕ). some (record { kind = e.kind; start = e.start; size = x })) (some-injective c e.size h.2),
)
entry_is (a ∷ b ∷ c ∷ rest) (suc n) e =
    let after : (i j : ℕ) → i ≡ suc (suc (suc j)) → at (a ∷ b ∷ c ∷ rest) i ≡ at rest j = λ i j q. ap (at (a ∷ b ∷ c ∷ rest)) q in
    let first = after (3 * suc n) (3 * n) (omega arith) in
    let second = after (3 * suc n + 1) (3 * n + 1) (omega arith) in
    let third = after (3 * suc n + 2) (3 * n + 2) (omega arith) in (
      λ h. let r = (entry_is rest n e).0 h in (first ∙ r.0, second ∙ r.1, third ∙ r.2),
      λ h. (entry_is rest n e).1 (sym first ∙ h.0, sym second ∙ h.1, sym third ∙ h.2),
    )

-- the numbers of the records that fail a test
numbers_are : (fails : Entry → Bool) (p n : ℕ) (es : List Entry)
    → Memᴰ p (numbers_where fails n es) ↔ ((m : ℕ) × (p ≡ n + m) × (e : Entry) × (at es m ≡ some e) × (fails e ≡ true))
unfolding numbers_where at
numbers_are fails p n [] = (λ m. absurd (Memᴰ.not-nil m), λ h. absurd (none-ne-some h.2 h.3))
numbers_are fails p n (e ∷ es) = (
  λ m.
      ⊎_elim
      (λ k. let h = own.0 k in (0, omega (arith, h.1), e, refl, h.0))
      (λ k. let h = (numbers_are fails p (suc n) es).0 k in (suc h.0, omega (arith, h.1), h.2, h.3, h.4))
      (Memᴰ.append_cases (place_if (fails e) n) m),
  λ h. back (numbers_are fails p (suc n) es).1 h.0 h.1 h.2 h.3 h.4,
)
  where
    own : Memᴰ p (place_if (fails e) n) ↔ ((fails e ≡ true) × (p ≡ n))
    own = place_says (fails e) n p (λ h. h, λ h. h)

    back : (((m : ℕ) × (p ≡ suc n + m) × (e : Entry) × (at es m ≡ some e) × (fails e ≡ true)) → Memᴰ p (numbers_where fails (suc n) es))
        → (m : ℕ) → p ≡ n + m → (x : Entry) → at (e ∷ es) m ≡ some x → fails x ≡ true
        → Memᴰ p (place_if (fails e) n ++ numbers_where fails (suc n) es)
    back onward zero q x h t =
        Memᴰ.append_left (numbers_where fails (suc n) es) (own.1 (ap fails (some-injective e x h) ∙ t, omega arith))
    back onward (suc m) q x h t = Memᴰ.append_right (place_if (fails e) n) (onward (m, omega arith, x, h, t))

-- of a test that says something of a record, from 0
numbers_say : (fails : Entry → Bool) (Q : ℕ → ℕ → ℕ → Type 0)
    → ((kind start size : ℕ) → Says (fails (record { kind = kind; start = start; size = size })) (Q kind start size))
    → (table : List ℕ) (p : ℕ)
    → Memᴰ p (numbers_where fails 0 (entries table))
    ↔ ((kind : ℕ) × (start : ℕ) × (size : ℕ) × Record table p kind start size × Q kind start size)
numbers_say fails Q says table p = (
  λ m.
      let h = (numbers_are fails p 0 (entries table)).0 m in
      let q : h.0 ≡ p = omega (arith, h.1) in
      (h.2.kind, h.2.start, h.2.size, subst (λ (n : ℕ). Record table n h.2.kind h.2.start h.2.size) q ((entry_is table h.0 h.2).0 h.3), (says h.2.kind h.2.start h.2.size).0 h.4),
  λ h.
      let e : Entry = record { kind = h.0; start = h.1; size = h.2 } in
      (numbers_are fails p 0 (entries table)).1 (p, omega arith, e, (entry_is table p e).1 h.3, (says h.0 h.1 h.2).1 h.4),
)

-- ---- 15

pub table_says : (table : List ℕ) → Says (bad_table table) (BadTable table)
unfolding bad_table at entries
table_says table =
    let long : Bool = ltb 96000 (length table) in
    let odd : Bool = not (eqb (length table % 3) 0) in
    let later : Bool = maybe false (λ e. not (eqb e.kind 0)) (at (entries table) 0) in
    says_as
    (says_either (long || odd) later
    (says_either long odd (says_lt 96000 (length table)) (says_not (eqb (length table % 3) 0) (says_eq (length table % 3) 0)))
    (says_maybe (λ e. not (eqb e.kind 0)) (λ e. says_not (eqb e.kind 0) (says_eq e.kind 0)) (at (entries table) 0)))
    (⊎_elim (⊎_elim inl (λ h. inr (inl h))) (λ h. inr (inr (h.0.kind, ((entry_is table 0 h.0).0 h.1).0, h.2))))
    (⊎_elim (λ h. inl (inl h)) (⊎_elim (λ h. inl (inr h)) (λ h. kinds table h.0 h.1 h.2)))
  where
    kinds : (table : List ℕ) (kind : ℕ) → at table 0 ≡ some kind → (kind ≡ 0 → ⊥)
        → ((96000 < length table) ⊎ (length table % 3 ≡ 0 → ⊥)) ⊎ ((e : Entry) × (at (entries table) 0 ≡ some e) × (e.kind ≡ 0 → ⊥))
    kinds [] kind h n = absurd (none-ne-some kind h)
    kinds (a ∷ []) kind h n = inl (inr (λ z. omega arith))
    kinds (a ∷ b ∷ []) kind h n = inl (inr (λ z. omega arith))
    kinds (a ∷ b ∷ c ∷ rest) kind h n =
        inr (record { kind = a; start = b; size = c }, refl, λ z. n (sym (some-injective a kind h) ∙ z))

bad_says : (bytes : List ℕ) (kind start size : ℕ)
    → Says (bad_entry bytes (record { kind = kind; start = start; size = size })) (Bad bytes kind start size)
unfolding bad_entry broken_start value_in
bad_says bytes kind start size =
    let high : Bool = ltb 3 kind in
    let beyond : Bool = ltb (length bytes) (start + size) in
    let value : List ℕ = take size (drop start bytes) in
    says_as
    (says_either (high || beyond) (eqb kind 0 && leads_break value)
    (says_either high beyond (says_lt 3 kind) (says_lt (length bytes) (start + size)))
    (says_both (eqb kind 0) (leads_break value) (says_eq kind 0) (leads_says value)))
    (⊎_elim (⊎_elim inl (λ h. inr (inl h))) (λ h. inr (inr h)))
    (⊎_elim (λ h. inl (inl h)) (⊎_elim (λ h. inl (inr h)) inr))

-- "0 for the first two, else lowest such record number"
pub fifteen_at : (bytes table : List ℕ) (p : ℕ)
    → Memᴰ p (bad_list bytes table) ↔ ((BadTable table × (p ≡ 0)) ⊎ BadRecord bytes table p)
unfolding bad_list
fifteen_at bytes table p =
    let whole = place_says (bad_table table) 0 p (table_says table) in
    let records = numbers_say (bad_entry bytes) (Bad bytes) (bad_says bytes) table p in (
      λ m. ⊎_elim (λ k. inl (whole.0 k)) (λ k. inr (records.0 k)) (Memᴰ.append_cases (place_if (bad_table table) 0) m),
      ⊎_elim
          (λ h. Memᴰ.append_left (numbers_where (bad_entry bytes) 0 (entries table)) (whole.1 h))
          (λ h. Memᴰ.append_right (place_if (bad_table table) 0) (records.1 h)),
    )

-- ---- 2

-- "writer: not six usable bytes"
abbrev pub SixUsable : List ℕ → Type 0
SixUsable service =
    (c : Characters)
    × (service ≡ c.component ∷ c.element ∷ c.mark ∷ c.release ∷ c.repetition ∷ c.terminator ∷ [])
    × Usable c

pub six_says : (service : List ℕ) → Says (eqb (length service) 6 && usable (six_bytes service)) (SixUsable service)
unfolding six_bytes
six_says service =
    says_as
    (says_both (eqb (length service) 6) (usable (six_bytes service)) (says_eq (length service) 6) (usable_says (six_bytes service)))
    (λ h. (six_bytes service, split service h.0, h.1))
    (λ h.
    let c : Characters = h.0 in
    let own : six_bytes service ≡ c =
    ap six_bytes h.1 ∙ six_are c.component c.element c.mark c.release c.repetition c.terminator in
    (ap length h.1, subst Usable (sym own) h.2))
  where
    split : (xs : List ℕ) → length xs ≡ 6
        → let c : Characters = six_bytes xs in
        xs ≡ c.component ∷ c.element ∷ c.mark ∷ c.release ∷ c.repetition ∷ c.terminator ∷ []
    split [] h = absurd (omega arith)
    split (a ∷ []) h = absurd (omega arith)
    split (a ∷ b ∷ []) h = absurd (omega arith)
    split (a ∷ b ∷ c ∷ []) h = absurd (omega arith)
    split (a ∷ b ∷ c ∷ d ∷ []) h = absurd (omega arith)
    split (a ∷ b ∷ c ∷ d ∷ e ∷ []) h = absurd (omega arith)
    split (a ∷ b ∷ c ∷ d ∷ e ∷ f ∷ []) h = refl
    split (a ∷ b ∷ c ∷ d ∷ e ∷ f ∷ g ∷ xs) h = absurd (omega arith)

pub two_at : (service : List ℕ) (p : ℕ) → Memᴰ p (unusable_bytes service) ↔ ((SixUsable service → ⊥) × (p ≡ 0))
unfolding unusable_bytes
two_at service p =
    let good : Bool = eqb (length service) 6 && usable (six_bytes service) in
    place_says (not good) 0 p (says_not good (six_says service))

-- ---- 16

pub sixteen_at : (service bytes table : List ℕ) (p : ℕ)
    → Memᴰ p (needs_release service bytes table) ↔ LacksRelease (six_bytes service) bytes table p
unfolding needs_release cannot_stand lacks_release lacks_repetition value_in has_release has_repetition
sixteen_at service bytes table p =
    numbers_say (cannot_stand c bytes) (λ kind start size. Unreleased (take size (drop start bytes)) ⊎ ((kind ≡ 3) × (c.repetition ≡ 32)))
    (λ kind start size.
    let value : List ℕ = take size (drop start bytes) in
    says_either (lacks_release c value) (lacks_repetition c kind) (unreleased value)
    (says_both (eqb kind 3) (not (has_repetition c)) (says_eq kind 3) (space_says c.repetition)))
    table p
  where
    c : Characters
    c = six_bytes service

    Unreleased : List ℕ → Type 0
    Unreleased value =
        (c.release ≡ 32)
        × ((b : ℕ)
        × Memᴰ b value
        × ((b ≡ c.component) ⊎ (b ≡ c.element) ⊎ (b ≡ c.terminator) ⊎ ((c.repetition ≡ 32 → ⊥) × (b ≡ c.repetition))))

    -- a space means "none"
    space_says : (x : ℕ) → Says (not (not (eqb x 32))) (x ≡ 32)
    space_says x = step (eqb x 32) (says_eq x 32)
      where
        step : (t : Bool) → Says t (x ≡ 32) → Says (not (not t)) (x ≡ 32)
        step true s = s
        step false s = s

    unreleased : (value : List ℕ) → Says (lacks_release c value) (Unreleased value)
    unreleased value =
        says_as (says_both (not (has_release c)) (any (is_service c) value) (space_says c.release) (says_any (is_service c) (service_says c) value))
        (λ h. (
          h.0,
          (
            h.1.0,
            h.1.1,
            ⊎_elim inl (⊎_elim (λ z. inr (inl z))
                (⊎_elim (λ z. inr (inr (inl z))) (⊎_elim (λ z. inr (inr (inr z))) (λ z. absurd (z.0 h.0))))) h.1.2,
          ),
        ))
        (λ h. (
          h.0,
          (
            h.1.0,
            h.1.1,
            ⊎_elim inl (⊎_elim (λ z. inr (inl z)) (⊎_elim (λ z. inr (inr (inl z))) (λ z. inr (inr (inr (inl z)))))) h.1.2,
          ),
        ))

-- ---- the value list that Read gives

-- "kind (0 new segment, 1 new element, 2 next component)", "kind 3 (a next repeat's first value)"
pub kinds_are : (u v w x y : Bytes)
    → list_of ((((u ∷ v ∷ []) ∷ (w ∷ []) ∷ []) ∷ ((x ∷ []) ∷ []) ∷ []) ∷ (((y ∷ []) ∷ []) ∷ []) ∷ [])
    ≡ record { kind = 0; value = u }
    ∷ record { kind = 2; value = v }
    ∷ record { kind = 3; value = w }
    ∷ record { kind = 1; value = x }
    ∷ record { kind = 0; value = y }
    ∷ []
unfolding list_of gather list_segment list_element list_repeat
kinds_are u v w x y = refl

-- "values .. end to end"
pub bytes_are : (l : Item) (ls : List Item) → (list_bytes [] ≡ []) × (list_bytes (l ∷ ls) ≡ l.value ++ list_bytes ls)
unfolding list_bytes gather
bytes_are l ls = (refl, refl)

abbrev entry : ℕ → ℕ → ℕ → Entry
entry kind start size = record { kind = kind; start = start; size = size }

-- the records of a table whose first start is given
entry_from : (start : ℕ) (items : List Item) (n : ℕ) (l : Item) → at items n ≡ some l
    → at (entries (table_from start items)) n ≡ some (entry l.kind (start + length (list_bytes (take n items))) (length l.value))
unfolding at entries table_from list_bytes gather
entry_from start [] n l h = absurd (none-ne-some l h)
entry_from start (x ∷ xs) zero l h =
    let own : x ≡ l = some-injective x l h in
    ap (λ (s : ℕ). some (entry x.kind s (length x.value))) (sym (add-zero start))
    ∙ ap (λ (y : Item). some (entry y.kind (start + 0) (length y.value))) own
entry_from start (x ∷ xs) (suc n) l h =
    entry_from (start + length x.value) xs n l h
    ∙ ap (λ (s : ℕ). some (entry l.kind s (length l.value)))
    (omega (arith, length-append x.value (list_bytes (take n xs))))

-- the table has a record for each value, an empty one too, that starts where those before it end
pub table_is : (items : List Item) (n : ℕ) (l : Item) → at items n ≡ some l
    → Record (list_table items) n l.kind (length (list_bytes (take n items))) (length l.value)
unfolding list_table
table_is items n l h =
    (entry_is (table_from 0 items) n (entry l.kind (length (list_bytes (take n items))) (length l.value))).0
    (entry_from 0 items n l h ∙ ap (λ (s : ℕ). some (entry l.kind s (length l.value))) (zero-add (length (list_bytes (take n items)))))

-- and the value of a record is the part of the bytes that it names
pub listed_at : (bytes table : List ℕ) (n kind start size : ℕ) → Record table n kind start size
    → at {A = Item} (listed_in bytes table) n ≡ some (record { kind = kind; value = take size (drop start bytes) })
unfolding listed_in value_in at
listed_at bytes table n kind start size h = mapped (entries table) n ((entry_is table n (entry kind start size)).1 h)
  where
    mapped : (es : List Entry) (n : ℕ) → at es n ≡ some (entry kind start size)
        → at {A = Item} (map (λ e. record { kind = e.kind; value = value_in bytes e }) es) n
        ≡ some (record { kind = kind; value = take size (drop start bytes) })
    mapped [] n e = absurd (none-ne-some (entry kind start size) e)
    mapped (x ∷ xs) zero e =
        ap (λ (y : Entry). some (record { kind = y.kind; value = value_in bytes y })) (some-injective x (entry kind start size) e)
    mapped (x ∷ xs) (suc n) e = mapped xs n e

-- "Read into a value list of the contents"
pub read_list_lem : (s : List ℕ) → (value_bytes s ≡ list_bytes (list_of (contents s))) × (value_table s ≡ list_table (list_of (contents s)))
unfolding value_bytes value_table
read_list_lem s = (refl, refl)

-- "always an advice, then the trimmed list"
pub text_is : (component element mark release repetition terminator : ℕ) (bytes table : List ℕ)
    → written_text (component ∷ element ∷ mark ∷ release ∷ repetition ∷ terminator ∷ []) bytes table
    ≡ 85
    ∷ 78
    ∷ 65
    ∷ component
    ∷ element
    ∷ mark
    ∷ release
    ∷ repetition
    ∷ terminator
    ∷ spell
    (record { component = component; element = element; mark = mark; release = release; repetition = repetition; terminator = terminator })
    (trim_list (segments_listed (listed_in bytes table)))
unfolding written_text interchange advice_of spelled_out six_bytes
text_is component element mark release repetition terminator bytes table = refl

-- ---- "Writer: 15, 2, 16, 1, 14"

module _ (f : Fault) (places : List ℕ) (later : List Stage) (P : ℕ → Type 0) (are : (q : ℕ) → Memᴰ q places ↔ P q) where
  -- a stage of one number answers with the lowest of its places, and leaves it to the later ones where it has none
  answers_at : (p : ℕ) → Lowest P p → answering (met f places ∷ later) ≡ some (record { fault = f; place = p })
  answers_at p h = place_answers f places later p ((are p).1 h.0) (λ q m. h.1 q ((are q).0 m))

  leaves_it : Nowhere P → answering (met f places ∷ later) ≡ answering later
  leaves_it h = nowhere_answers f places later (λ q m. h q ((are q).0 m))

-- the places of each of the five
module _ (service bytes table output : List ℕ) where
  abbrev text : List ℕ
  text = written_text service bytes table

  abbrev pub At15 : ℕ → Type 0
  At15 p = (BadTable table × (p ≡ 0)) ⊎ BadRecord bytes table p

  abbrev pub At2 : ℕ → Type 0
  At2 p = (SixUsable service → ⊥) × (p ≡ 0)

  abbrev pub At16 : ℕ → Type 0
  At16 p = LacksRelease (six_bytes service) bytes table p

  abbrev pub At1 : ℕ → Type 0
  At1 p = (32000 < length text) × (p ≡ 0)

  abbrev pub At14 : ℕ → Type 0
  At14 p = (length output < length text) × (p ≡ length text)

  fourteen_at : (p : ℕ) → Memᴰ p (place_if (ltb (length output) (length text)) (length text)) ↔ At14 p
  fourteen_at p = place_says (ltb (length output) (length text)) (length text) p (says_lt (length output) (length text))

  abbrev after1 : List Stage
  after1 = short_for text output ∷ later_stages text

  abbrev after16 : List Stage
  after16 = met TooLong (too_long text) ∷ after1

  abbrev after2 : List Stage
  after2 = met NeedsRelease (needs_release service bytes table) ∷ after16

  abbrev after15 : List Stage
  after15 = met UnusableAdvice (unusable_bytes service) ∷ after2

  abbrev refusal : Option Refusal
  refusal = write_refusal service bytes table output

  -- each answers where those before it are met nowhere, whatever comes later
  pub write_fifteen : (p : ℕ) → Lowest At15 p → refusal ≡ some (record { fault = BadList; place = p })
  unfolding write_refusal write_stages
  write_fifteen p h = answers_at BadList (bad_list bytes table) after15 At15 (fifteen_at bytes table) p h

  module _ (no15 : Nowhere At15) where
    past15 : refusal ≡ answering after15
    unfolding write_refusal write_stages
    past15 = leaves_it BadList (bad_list bytes table) after15 At15 (fifteen_at bytes table) no15

    pub write_two : (p : ℕ) → Lowest At2 p → refusal ≡ some (record { fault = UnusableAdvice; place = p })
    write_two p h = past15 ∙ answers_at UnusableAdvice (unusable_bytes service) after2 At2 (two_at service) p h

    module _ (no2 : Nowhere At2) where
      past2 : refusal ≡ answering after2
      past2 = past15 ∙ leaves_it UnusableAdvice (unusable_bytes service) after2 At2 (two_at service) no2

      pub write_sixteen : (p : ℕ) → Lowest At16 p → refusal ≡ some (record { fault = NeedsRelease; place = p })
      write_sixteen p h = past2 ∙ answers_at NeedsRelease (needs_release service bytes table) after16 At16 (sixteen_at service bytes table) p h

      module _ (no16 : Nowhere At16) where
        past16 : refusal ≡ answering after16
        past16 = past2 ∙ leaves_it NeedsRelease (needs_release service bytes table) after16 At16 (sixteen_at service bytes table) no16

        pub write_one : (p : ℕ) → Lowest At1 p → refusal ≡ some (record { fault = TooLong; place = p })
        write_one p h = past16 ∙ answers_at TooLong (too_long text) after1 At1 (one_at text) p h

        module _ (no1 : Nowhere At1) where
          past1 : refusal ≡ answering after1
          past1 = past16 ∙ leaves_it TooLong (too_long text) after1 At1 (one_at text) no1

          pub write_fourteen : (p : ℕ) → Lowest At14 p → refusal ≡ some (record { fault = BufferShort; place = p })
          unfolding short_for
          write_fourteen p h =
              past1 ∙ answers_at BufferShort (place_if (ltb (length output) (length text)) (length text)) (later_stages text) At14 fourteen_at p h

          -- "then 3 to 13 .. for the text"
          pub write_later : Nowhere At14 → refusal ≡ answering (later_stages text)
          unfolding short_for
          write_later h =
              past1 ∙ leaves_it BufferShort (place_if (ltb (length output) (length text)) (length text)) (later_stages text) At14 fourteen_at h

-- kind 0 begins what a terminator ends, 1 what an element separator ends, 3 what a repetition separator ends, 2 what a component separator
-- ends
pub ranks_are : (rank_of 0 ≡ 0) × (rank_of 1 ≡ 1) × (rank_of 3 ≡ 2) × (rank_of 2 ≡ 3)
unfolding rank_of
ranks_are = (refl, refl, refl, refl)
