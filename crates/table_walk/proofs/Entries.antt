-- The entries of a level in the table, one at a time: what an entry holds, and what follows it, are again entries from a number up to another.
-- Assumes nothing.
use Rattle.std.specs.Prelude.{if◌then◌else◌}
use Prim.Native.Nat.{ℕ, zero, suc, ◌+◌, ◌-◌, ◌≤◌, ◌<◌}
use mathlib.Core.Path.{◌≡◌, refl, sym, ap, subst, ◌∙◌}
use mathlib.Core.Bool.{Bool, true, false}
use mathlib.Core.List.{List, [], ◌∷◌}
use native.Mathlib.Omega.{arith}
use lib.ListN.{length, take, drop, length-take}
use lib.Seq.{take-nil, take-length, take-take, drop-drop}
use Rattle.lists.specs.Lists.{at, maybe}
use Rattle.message_tables.specs.Entries.{Entry, whole_entries, entries_of, is_group, is_mandatory}
use Rattle.message_tables.specs.Structure.{entry, lead_of, held_by, levels}
use Rattle.message_table_laws.specs.Nesting.{Triggered, Lies, Levels}
use Rattle.message_table_laws.proofs.Entries.{entry_at_lem}
use Rattle.message_table_laws.proofs.Fitting.{trigger_segment}
use Rattle.message_table_laws.proofs.Scanning.{whole_entries_lem}
use Rattle.message_table_laws.proofs.Tree.{levels_next, levels_on}
use Rattle.table_rows.specs.Rows.{tag_bytes}
use Rattle.table_walk.specs.declared.Part.{Part}
use Rattle.table_walk.specs.Walking.{Tagged, within, entry_at, Lying, Parted}

-- ---- lists

-- what is behind some of the first so many is the first fewer of what is behind them
drop_take : {A : Type 0} (u k : ℕ) (l : List A) → drop u (take k l) ≡ take (k - u) (drop u l)
drop_take zero k l =
    let all : k ≡ k - 0 = omega arith in
    ap (λ (n : ℕ). take n l) all
drop_take (suc u) zero l =
    let none : 0 ≡ 0 - suc u = omega arith in
    ap (λ (n : ℕ). take n (drop (suc u) l)) none
drop_take (suc u) (suc k) [] = sym (take-nil (suc k - suc u))
drop_take (suc u) (suc k) (x ∷ l) =
    let less : k - u ≡ suc k - suc u = omega arith in
    drop_take u k l ∙ ap (λ (n : ℕ). take n (drop u l)) less

-- ---- a trigger's tag

lead_taken : (e : Entry) (k : ℕ) (l : List Entry) → (is_group e ≡ true → 1 ≤ k) → lead_of e (take k l) ≡ lead_of e l
unfolding lead_of at maybe
lead_taken e k l h = step (is_group e) refl k l h
  where
    step : (g : Bool) → is_group e ≡ g → (k : ℕ) (l : List Entry) → (is_group e ≡ true → 1 ≤ k)
        → (if g then maybe [] (λ trigger. trigger.tag) (at (take k l) 0) else e.tag)
        ≡ (if g then maybe [] (λ trigger. trigger.tag) (at l 0) else e.tag)
    step false g k l h = refl
    step true g zero l h = absurd (omega (arith, h g))
    step true g (suc k) [] h = refl
    step true g (suc k) (x ∷ l) h = refl

-- in a table it is that of the next entry, or the entry's own
module _ (table : List ℕ) (n : ℕ) where
  abbrev rest : List Entry
  rest = drop (n + 1) (entries_of table)

  pub lead_group : is_group (entry_at table n) ≡ true → n + 1 < whole_entries table
      → (entry_at table (n + 1)).tag ≡ lead_of (entry_at table n) rest
  unfolding lead_of at maybe
  lead_group g l =
      sym
      (ap (λ (b : Bool). if b then maybe [] (λ trigger. trigger.tag) (at rest 0) else (entry_at table n).tag) g
      ∙ ap (λ (es : List Entry). maybe [] (λ trigger. trigger.tag) (at es 0)) (entry_at_lem table (n + 1) l))

  pub lead_segment : is_group (entry_at table n) ≡ false → (entry_at table n).tag ≡ lead_of (entry_at table n) rest
  unfolding lead_of
  lead_segment g = sym (ap (λ (b : Bool). if b then maybe [] (λ trigger. trigger.tag) (at rest 0) else (entry_at table n).tag) g)

-- it is no group's own
lead_tagged : (e : Entry) (l : List Entry) → Lies e l → Tagged (lead_of e l)
unfolding lead_of at maybe is_group
lead_tagged e l h = step (is_group e) refl l h.group
  where
    first : (l : List Entry) → Triggered l → Tagged (maybe [] (λ trigger. trigger.tag) (at l 0))
    first [] t = absurd t
    first (x ∷ l) t = trigger_segment x t

    step : (g : Bool) → is_group e ≡ g → (l : List Entry) → (is_group e ≡ true → (1 ≤ e.under) × Triggered l)
        → Tagged (if g then maybe [] (λ trigger. trigger.tag) (at l 0) else e.tag)
    step false g l k = g
    step true g l k = first l (k g).1

-- ---- an entry of a level

module _ (table : List ℕ) (n end depth : ℕ) (inside : n < end) (whole : end ≤ whole_entries table) where
  abbrev e : Entry
  e = entry_at table n

  abbrev behind : List Entry
  behind = drop (n + 1) (entries_of table)

  within_next : within table n end ≡ e ∷ within table (n + 1) end
  within_next =
      let more : end - n ≡ suc (end - (n + 1)) = omega arith in
      let next : suc n ≡ n + 1 = omega arith in
      ap (take (end - n)) (entry_at_lem table n (omega arith))
      ∙ ap (λ (k : ℕ). take k (e ∷ drop (suc n) (entries_of table))) more
      ∙ ap (λ (k : ℕ). e ∷ take (end - (n + 1)) (drop k (entries_of table))) next

  module _ (h : Levels (suc depth) (within table n end)) where
    parts : Lies e (within table (n + 1) end)
        × Levels depth (held_by e (within table (n + 1) end))
        × Levels (suc depth) (drop e.under (within table (n + 1) end))
    parts = levels_on depth e (within table (n + 1) end) (subst (Levels (suc depth)) within_next h)

    -- it ends within the level
    ends_within : n + 1 + e.under ≤ end
    ends_within = omega (arith, parts.0.ends, length-take (end - (n + 1)) behind)

    lying : Lying table n
    lying = (omega (arith, ends_within), λ g. (parts.0.group g).0)

    held : held_by e (within table (n + 1) end) ≡ within table (n + 2) (n + 1 + e.under)
    unfolding held_by
    held =
        let size : e.under - 1 ≡ n + 1 + e.under - (n + 2) = omega arith in
        let place : n + 1 + 1 ≡ n + 2 = omega arith in
        ap (take (e.under - 1)) (drop_take 1 (end - (n + 1)) behind)
        ∙ take-take (e.under - 1) (end - (n + 1) - 1) (drop 1 behind) (omega (arith, ends_within))
        ∙ ap (take (e.under - 1)) (drop-drop 1 (n + 1) (entries_of table) ∙ ap (λ (k : ℕ). drop k (entries_of table)) place)
        ∙ ap (λ (k : ℕ). take k (drop (n + 2) (entries_of table))) size

    follows : drop e.under (within table (n + 1) end) ≡ within table (n + 1 + e.under) end
    follows =
        let size : end - (n + 1) - e.under ≡ end - (n + 1 + e.under) = omega arith in
        drop_take e.under (end - (n + 1)) behind
        ∙ ap (λ (k : ℕ). take k (drop e.under behind)) size
        ∙ ap (take (end - (n + 1 + e.under))) (drop-drop e.under (n + 1) (entries_of table))

    lead_is : lead_of e (within table (n + 1) end) ≡ lead_of e behind
    lead_is = lead_taken e (end - (n + 1)) behind (λ g. omega (arith, (parts.0.group g).0, ends_within))

    -- the tag with which its repeats begin, what a repeat holds, and what follows it in the level
    tagged : Tagged (lead_of e behind)
    tagged = subst Tagged lead_is (lead_tagged e (within table (n + 1) end) parts.0)

    held_levels : Levels depth (within table (n + 2) (n + 1 + e.under))
    held_levels = subst (Levels depth) held parts.1

    next_levels : Levels (suc depth) (within table (n + 1 + e.under) end)
    next_levels = subst (Levels (suc depth)) follows parts.2

    level_is : levels (suc depth) (within table n end)
        ≡ entry (is_mandatory e) e.repeats (lead_of e behind) (levels depth (within table (n + 2) (n + 1 + e.under)))
        (levels (suc depth) (within table (n + 1 + e.under) end))
    level_is =
        ap (levels (suc depth)) within_next
        ∙ levels_next depth e (within table (n + 1) end)
        ∙ λ i. entry (is_mandatory e) e.repeats (lead_is i) (levels depth (held i)) (levels (suc depth) (follows i))

-- ---- the same with what the walk asks of the entry

-- what the walk finds at an entry of a level, of which `depth` are there from here on
pub record Opened (table : List ℕ) (n end depth : ℕ) (p : Part) : Type 0 where
  pub ends : p.end ≤ end
  pub later : n < p.end
  pub less : p.end - p.from < end - n
  pub tagged : Tagged (tag_bytes p.lead)
  pub held : Levels (depth - 1) (within table p.from p.end)
  pub follow : Levels depth (within table p.end end)
  pub is : levels depth (within table n end)
      ≡ entry p.mandatory p.most (tag_bytes p.lead) (levels (depth - 1) (within table p.from p.end))
      (levels depth (within table p.end end))

module _ (table : List ℕ) (n end depth : ℕ) (inside : n < end) (whole : end ≤ whole_entries table) (some : depth ≡ 0 → ⊥)
    (h : Levels depth (within table n end)) where
  one_less : depth ≡ suc (depth - 1)
  one_less = omega (arith, some)

  deeper : Levels (suc (depth - 1)) (within table n end)
  deeper = subst (λ (d : ℕ). Levels d (within table n end)) one_less h

  pub lies : Lying table n
  lies = lying table n end (depth - 1) inside whole deeper

  pub opened : (p : Part) → Parted table n p → Opened table n end depth p
  opened p q =
      let u : ℕ = (entry_at table n).under in
      let ends : n + 1 + u ≤ end = ends_within table n end (depth - 1) inside whole deeper in
      record {
        ends = omega (arith, q.end, ends);
        later = omega (arith, q.end);
        less = omega (arith, q.from, q.end, ends);
        tagged = subst Tagged (sym q.lead) (tagged table n end (depth - 1) inside whole deeper);
        held =
            subst (λ (a : ℕ). Levels (depth - 1) (within table a p.end)) (sym q.from)
            (subst (λ (b : ℕ). Levels (depth - 1) (within table (n + 2) b)) (sym q.end) (held_levels table n end (depth - 1) inside whole deeper));
        follow =
            subst (λ (b : ℕ). Levels depth (within table b end)) (sym q.end)
            (subst (λ (d : ℕ). Levels d (within table (n + 1 + u) end)) (sym one_less) (next_levels table n end (depth - 1) inside whole deeper));
        is =
            ap (λ (d : ℕ). levels d (within table n end)) one_less
            ∙ level_is table n end (depth - 1) inside whole deeper
            ∙ (λ i.
            entry (sym q.mandatory i) (sym q.most i) (sym q.lead i) (levels (depth - 1) (within table (sym q.from i) (sym q.end i)))
            (levels (sym one_less i) (within table (sym q.end i) end)));
      }

-- ---- the whole table

pub whole_within : (table : List ℕ) → within table 0 (whole_entries table) ≡ entries_of table
whole_within table =
    let all : whole_entries table - 0 ≡ length (entries_of table) = omega (arith, whole_entries_lem table) in
    ap (λ (k : ℕ). take k (entries_of table)) all ∙ take-length (entries_of table)
