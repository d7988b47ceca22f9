-- Where every entry fits, the groups lie in one another level by level.
-- The argument goes through the entries of a level from left to right. `inner` are the rooms of the groups under the level's present entry,
-- which all end within the `under` entries that it still has; `outer` those of the groups that hold the level, which all reach to its end, `count`
-- entries on; one of them, or the table, ends there. One entry on, each room is one less, and a group without room has ended.
-- Assumes nothing.
use Rattle.std.specs.Prelude.{if◌then◌else◌}
use Prim.Native.Nat.{ℕ, zero, suc, ◌+◌, ◌-◌, ◌≤◌}
use mathlib.Core.Path.{◌≡◌, refl, sym, ap, subst, ◌∙◌}
use mathlib.Core.Bool.{Bool, true, false}
use mathlib.Core.Logic.{◌⊎◌, inl, inr, ⊎_elim}
use mathlib.Core.List.Memᴰ
use mathlib.Core.List.{List, [], ◌∷◌, ◌++◌, append_assoc, Memᴰ}
use native.Mathlib.Omega.{arith}
use lib.ListN.{length, take, drop, length-take}
use lib.Seq.{take-length, take-take}
use Rattle.refusals.specs.Refusals.{place_if}
use Rattle.message_tables.specs.Entries.{Entry, is_group}
use Rattle.message_tables.specs.Soundness.{most_depth, rooms_from, rooms, fits}
use Rattle.message_tables.specs.Structure.{held_by}
use Rattle.message_table_laws.specs.Nesting.{Fits, Triggered, Lies, Level, Levels}
use Rattle.message_table_laws.specs.Scanning.{lower, own_room}
use Rattle.message_table_laws.proofs.Rooms.{lower_append, rooms_next, lower_of, of_lower, lower_length}
use Rattle.message_table_laws.proofs.Fitting.{repeats_fit, segment_fits_lem, group_fits_lem, trigger_fits, trigger_segment}

-- the groups that hold the present entry of a level
record Held (past es : List Entry) (depth under count : ℕ) : Type 0 where
  inner : List ℕ
  outer : List ℕ
  are : rooms past ≡ inner ++ outer
  deep : length outer + depth ≡ most_depth
  inside : (room : ℕ) → Memᴰ room inner → suc room ≤ under
  last : (n : ℕ) → under ≡ suc n → Memᴰ n inner
  reach : (room : ℕ) → Memᴰ room outer → count ≤ suc room
  tight : (n : ℕ) → count ≡ suc n → (count ≡ length es) ⊎ Memᴰ n outer
  fit : count ≤ length es

-- ---- one entry on

module _
    (e : Entry) (past es : List Entry) (depth under next count : ℕ) (h : Held past (e ∷ es) depth under (suc (suc count)))
    (within : (room : ℕ) → Memᴰ room (own_room e ++ h.inner) → room ≤ next)
    (ends : (n : ℕ) → next ≡ suc n → Memᴰ (suc n) (own_room e ++ h.inner)) where
  lowered : rooms (e ∷ past) ≡ lower (own_room e ++ h.inner) ++ lower h.outer
  lowered =
      rooms_next e past
      ∙ ap (λ (xs : List ℕ). lower (own_room e ++ xs)) h.are
      ∙ ap lower (sym (append_assoc (own_room e) h.inner h.outer))
      ∙ lower_append (own_room e ++ h.inner) h.outer

  one_on : Held (e ∷ past) es depth next (suc count)
  one_on =
      record {
        inner = lower (own_room e ++ h.inner);
        outer = lower h.outer;
        are = lowered;
        deep =
            ap (λ (n : ℕ). n + depth) (lower_length h.outer (λ room m. omega (arith, h.reach room m))) ∙ h.deep;
        inside = λ room m. within (suc room) (lower_of room (own_room e ++ h.inner) m);
        last = λ n q. of_lower n (own_room e ++ h.inner) (ends n q);
        reach = λ room m. omega (arith, h.reach (suc room) (lower_of room h.outer m));
        tight =
            λ n q.
            ⊎_elim (λ (k : suc (suc count) ≡ length (e ∷ es)). inl (omega arith)) (λ m. inr (of_lower n h.outer m)) (h.tight (suc n) (ap suc q));
        fit = omega (arith, h.fit);
      }

-- ---- an entry under the level's present one

module _
    (e : Entry) (past es : List Entry) (depth under count : ℕ)
    (h : Held past (e ∷ es) depth (suc under) (suc (suc count))) (f : fits past (length es) e ≡ true) where
  -- a group there ends within it
  own_within : (room : ℕ) → Memᴰ room (own_room e) → room ≤ under
  unfolding place_if
  own_within room m = step (is_group e) refl m
    where
      step : (g : Bool) → is_group e ≡ g → Memᴰ room (if g then e.under ∷ [] else []) → room ≤ under
      step false g m = absurd (Memᴰ.not-nil m)
      step true g m =
          let ends : e.under ≤ under =
          (group_fits_lem past (length es) e f g).3 under (subst (Memᴰ under) (sym h.are) (Memᴰ.append_left h.outer (h.last under refl))) in
          omega (arith, Memᴰ.eq_of_singleton m, ends)

  under_on : Held (e ∷ past) es depth under (suc count)
  under_on =
      one_on e past es depth (suc under) under count h
      (λ room m. ⊎_elim (own_within room) (λ k. omega (arith, h.inside room k)) (Memᴰ.append_cases (own_room e) m))
      (λ n q. Memᴰ.append_right (own_room e) (subst (λ (k : ℕ). Memᴰ k h.inner) q (h.last under refl)))

-- ---- an entry of the level

-- no group stands under it yet
inner_none : (rs : List ℕ) → ((room : ℕ) → Memᴰ room rs → suc room ≤ 0) → rs ≡ []
inner_none [] h = refl
inner_none (r ∷ rs) h = absurd (omega (arith, h r (Memᴰ.head refl)))

module _ (e : Entry) (past es : List Entry) (depth count : ℕ) (h : Held past (e ∷ es) depth 0 (suc count)) (f : fits past (length es) e ≡ true) where
  are_outer : rooms past ≡ h.outer
  are_outer = h.are ∙ ap (λ (xs : List ℕ). xs ++ h.outer) (inner_none h.inner h.inside)

  -- it ends within the level
  entry_ends : e.under ≤ count
  entry_ends = step (is_group e) refl
    where
      step : (g : Bool) → is_group e ≡ g → e.under ≤ count
      step false g = omega (arith, (segment_fits_lem past (length es) e f g).0)
      step true g =
          let k = group_fits_lem past (length es) e f g in
          ⊎_elim
          (λ (q : suc count ≡ length (e ∷ es)). omega (arith, k.2))
          (λ m. k.3 count (subst (Memᴰ count) (sym are_outer) m))
          (h.tight count refl)

  entry_lies : Fits (e ∷ past) es → Lies e (take count es)
  entry_lies fs =
      record {
        ends = omega (arith, entry_ends, length-take count es, h.fit);
        least = (repeats_fit past (length es) e f).0;
        most = (repeats_fit past (length es) e f).1;
        segment = segment_fits_lem past (length es) e f;
        group =
            λ g.
            let k = group_fits_lem past (length es) e f g in
            (k.0, triggered count es fs g k.0 entry_ends k.2);
      }
    where
      triggered : (count : ℕ) (es : List Entry) → Fits (e ∷ past) es → is_group e ≡ true → 1 ≤ e.under → e.under ≤ count → e.under ≤ length es
          → Triggered (take count es)
      triggered zero es fs g a b c = absurd (omega arith)
      triggered (suc count) [] fs g a b c = absurd (omega arith)
      triggered (suc count) (t ∷ ts) fs g a b c = trigger_fits e past (length ts) t fs.0 g

-- what follows it in the level, of which its own entries come first
module _
    (e : Entry) (past es : List Entry) (depth count : ℕ) (h : Held past (e ∷ es) depth 0 (suc (suc count)))
    (f : fits past (length es) e ≡ true) where
  own_is : (room : ℕ) → Memᴰ room (own_room e) → room ≤ e.under
  unfolding place_if
  own_is room m = step (is_group e) m
    where
      step : (g : Bool) → Memᴰ room (if g then e.under ∷ [] else []) → room ≤ e.under
      step false m = absurd (Memᴰ.not-nil m)
      step true m = omega (arith, Memᴰ.eq_of_singleton m)

  own_last : (n : ℕ) → e.under ≡ suc n → Memᴰ (suc n) (own_room e)
  unfolding place_if
  own_last n q = step (is_group e) refl
    where
      step : (g : Bool) → is_group e ≡ g → Memᴰ (suc n) (if g then e.under ∷ [] else [])
      step false g = absurd (omega (arith, (segment_fits_lem past (length es) e f g).0))
      step true g = Memᴰ.head (sym q)

  next_on : Held (e ∷ past) es depth e.under (suc count)
  next_on =
      one_on e past es depth 0 e.under count h
      (λ room m. ⊎_elim (own_is room) (λ k. absurd (omega (arith, h.inside room k))) (Memᴰ.append_cases (own_room e) m))
      (λ n q. Memᴰ.append_left h.inner (own_last n q))

-- ---- what a group holds behind its trigger

module _
    (e t : Entry) (past es : List Entry) (depth n : ℕ)
    (f : fits past (length (t ∷ es)) e ≡ true) (group : is_group e ≡ true) (segment : is_group t ≡ false)
    (deep : length (rooms past) + suc depth ≡ most_depth) (size : e.under ≡ suc (suc n)) where
  -- the group's own room, and those of the groups that hold it, two entries on
  two_on : rooms (t ∷ e ∷ past) ≡ lower (lower (e.under ∷ rooms past))
  unfolding place_if
  two_on =
      rooms_next t (e ∷ past)
      ∙ ap (λ (g : Bool). lower (place_if g t.under ++ rooms (e ∷ past))) segment
      ∙ ap lower (rooms_next e past ∙ ap (λ (g : Bool). lower (place_if g e.under ++ rooms past)) group)

  -- each of them reaches the group's end
  reaches : (room : ℕ) → Memᴰ room (e.under ∷ rooms past) → suc (suc n) ≤ room
  reaches room m =
      ⊎_elim (λ (q : room ≡ e.under). omega arith)
      (λ k. omega (arith, (group_fits_lem past (length (t ∷ es)) e f group).3 room k)) (Memᴰ.cases_cons m)

  inside_on : Held (t ∷ e ∷ past) es depth 0 (suc n)
  inside_on =
      let rs : List ℕ = e.under ∷ rooms past in
      let long : length (lower (lower rs)) ≡ suc (length (rooms past)) =
      lower_length (lower rs) (λ room m. omega (arith, reaches (suc room) (lower_of room rs m)))
      ∙ lower_length rs (λ room m. omega (arith, reaches room m)) in
      record {
        inner = [];
        outer = lower (lower rs);
        are = two_on;
        deep = omega (arith, long, deep);
        inside = λ room m. absurd (Memᴰ.not-nil m);
        last = λ m q. absurd (omega arith);
        reach = λ room m. omega (arith, reaches (suc (suc room)) (lower_of (suc room) rs (lower_of room (lower rs) m)));
        tight = λ m q. inr (of_lower m (lower rs) (of_lower (suc m) rs (Memᴰ.head {x = e.under} (omega arith))));
        fit = omega (arith, (group_fits_lem past (length (t ∷ es)) e f group).2);
      }

-- ---- the levels

-- what a level below is asked, where there is one
abbrev Deeper : ℕ → Type 0
Deeper depth =
    (d : ℕ) → depth ≡ suc d → (past es : List Entry) (count : ℕ) → Fits past es → Held past es d 0 count → Levels depth (take count es)

levels_none : (depth : ℕ) → Levels depth []
levels_none zero = refl
levels_none (suc depth) = tt

-- what a group of at least two entries holds behind its trigger
behind_trigger : (depth : ℕ) → Deeper depth → (e : Entry) (past es : List Entry) (count n : ℕ)
    → length (rooms past) + depth ≡ most_depth → fits past (length es) e ≡ true → Fits (e ∷ past) es
    → is_group e ≡ true → e.under ≡ suc (suc n) → suc (suc n) ≤ count → Levels depth (take (suc n) (drop 1 (take count es)))
behind_trigger depth deeper e past [] count n deep f fs g q k = absurd (omega (arith, (group_fits_lem past 0 e f g).2))
behind_trigger depth deeper e past (t ∷ ts) zero n deep f fs g q k = absurd (omega arith)
behind_trigger zero deeper e past (t ∷ ts) (suc count) n deep f fs g q k =
    absurd (omega (arith, (group_fits_lem past (length (t ∷ ts)) e f g).1))
behind_trigger (suc depth) deeper e past (t ∷ ts) (suc count) n deep f fs g q k =
    subst (Levels (suc depth)) (sym (take-take (suc n) count ts (omega arith)))
    (deeper depth refl (t ∷ e ∷ past) ts (suc n) fs.1
    (inside_on e t past ts depth n f g (trigger_segment t (trigger_fits e past (length ts) t fs.0 g)) deep q))

module _ (depth : ℕ) (deeper : Deeper depth) where
  held_levels : (e : Entry) (past es : List Entry) (count : ℕ) → Held past (e ∷ es) depth 0 (suc count)
      → fits past (length es) e ≡ true → Fits (e ∷ past) es → Levels depth (held_by e (take count es))
  unfolding held_by
  held_levels e past es count h f fs = step (is_group e) refl
    where
      sized : (u : ℕ) → e.under ≡ u → is_group e ≡ true → Levels depth (take (u - 1) (drop 1 (take count es)))
      sized zero q g = levels_none depth
      sized (suc zero) q g = levels_none depth
      sized (suc (suc n)) q g =
          let ends : e.under ≤ count = entry_ends e past es depth count h f in
          let deep : length (rooms past) + depth ≡ most_depth =
          ap (λ (rs : List ℕ). length rs + depth) (are_outer e past es depth count h f) ∙ h.deep in
          let less : suc (suc n) - 1 ≡ suc n = omega arith in
          subst (λ (m : ℕ). Levels depth (take m (drop 1 (take count es)))) (sym less)
          (behind_trigger depth deeper e past es count n deep f fs g q (omega arith))

      step : (g : Bool) → is_group e ≡ g → Levels depth (take (e.under - 1) (drop 1 (take count es)))
      step false g =
          subst (λ (u : ℕ). Levels depth (take (u - 1) (drop 1 (take count es)))) (sym (segment_fits_lem past (length es) e f g).0) (levels_none depth)
      step true g = sized e.under refl g

  level_fits : (es past : List Entry) (under count : ℕ) → Fits past es → Held past es depth under count
      → Level (Levels depth) under (take count es)
  level_fits [] past under zero fs h = tt
  level_fits [] past under (suc count) fs h = tt
  level_fits (e ∷ es) past under zero fs h = tt
  level_fits (e ∷ es) past zero (suc zero) fs h =
      (entry_lies e past es depth 0 h fs.0 fs.1, held_levels e past es 0 h fs.0 fs.1, tt)
  level_fits (e ∷ es) past zero (suc (suc count)) fs h = (
    entry_lies e past es depth (suc count) h fs.0 fs.1,
    held_levels e past es (suc count) h fs.0 fs.1,
    level_fits es (e ∷ past) e.under (suc count) fs.1 (next_on e past es depth count h fs.0),
  )
  level_fits (e ∷ es) past (suc under) (suc zero) fs h = tt
  level_fits (e ∷ es) past (suc under) (suc (suc count)) fs h =
      level_fits es (e ∷ past) under (suc count) fs.1 (under_on e past es depth under count h fs.0)

levels_fit : (depth : ℕ) → Deeper depth
levels_fit zero d q past es count fs h = absurd (omega arith)
levels_fit (suc depth) d q past es count fs h =
    level_fits depth (levels_fit depth) es past 0 count fs (subst (λ (k : ℕ). Held past es k 0 count) (omega arith) h)

-- the groups of a table lie in one another, at most eight deep
pub nested : (es : List Entry) → Fits [] es → Levels (suc most_depth) es
unfolding rooms rooms_from
nested es fs =
    subst (Levels (suc most_depth)) (take-length es)
    (levels_fit (suc most_depth) most_depth refl [] es (length es) fs
    (record {
      inner = [];
      outer = [];
      are = refl;
      deep = refl;
      inside = λ room m. absurd (Memᴰ.not-nil m);
      last = λ n q. absurd (omega arith);
      reach = λ room m. absurd (Memᴰ.not-nil m);
      tight = λ n q. inl refl;
      fit = omega arith;
    }))
