-- The rooms of the groups that hold an entry, from where they end: opened, passed and ended. Assumes nothing.
use Rattle.std.specs.Prelude.{if◌then◌else◌}
use Prim.Native.Nat.{ℕ, zero, suc, ◌+◌, ◌-◌, ◌≤◌, ◌<◌}
use mathlib.Core.Path.{◌≡◌, refl, ap, ap₂, subst, ◌∙◌}
use mathlib.Core.Bool.{Bool, true, false}
use mathlib.Core.List.{List, [], ◌∷◌, ◌++◌}
use native.Mathlib.Omega.{arith}
use lib.ListN.{length, get_or, set}
use lib.Seq.{get_or-set_same, get_or-set_other}
use lib.Dec.{leb}
use borrow.Author.Tests.{le-leb, lt-leb}
use Rattle.refusals.specs.Refusals.{place_if}
use Rattle.message_table_laws.specs.Scanning.{lower, nearest, Rises}
use Rattle.table_soundness.specs.Fitting.{rooms_in, Nested}

-- one entry on there are not more
pub lower_shorter : (rooms : List ℕ) → length (lower rooms) ≤ length rooms
unfolding place_if
lower_shorter [] = omega arith
lower_shorter (room ∷ rest) = step (leb 1 room) (lower_shorter rest)
  where
    step : (b : Bool) → length (lower rest) ≤ length rest → length ((if b then (room - 1) ∷ [] else []) ++ lower rest) ≤ length (room ∷ rest)
    step true h = omega arith
    step false h = omega arith

module _ (ends : List ℕ) (next : ℕ) where
  pub rooms_count : (depth : ℕ) → length (rooms_in next depth ends) ≡ depth
  unfolding rooms_in
  rooms_count zero = refl
  rooms_count (suc depth) = ap suc (rooms_count depth)

  -- the room of the nearest, or what the table has left
  pub nearest_is : (depth : ℕ) → nearest (get_or ends 0 0 - next) (rooms_in next depth ends) ≡ get_or ends depth 0 - next
  unfolding rooms_in
  nearest_is zero = refl
  nearest_is (suc depth) = refl

  pub rooms_rise : (depth : ℕ) → Nested next depth ends → Rises (get_or ends 0 0 - next) (rooms_in next depth ends)
  unfolding rooms_in
  rooms_rise zero h = tt
  rooms_rise (suc depth) h = (omega (arith, nearest_is depth, h.1), rooms_rise depth h.2)

  pub reaches : (depth : ℕ) → next ≤ get_or ends 0 0 → Nested next depth ends → next ≤ get_or ends depth 0
  reaches zero k h = k
  reaches (suc depth) k h = h.0

  -- ---- one entry on

  -- the nearest has ended
  pub nearest_ends : (depth : ℕ) → get_or ends (suc depth) 0 ≤ next → lower (rooms_in next (suc depth) ends) ≡ lower (rooms_in next depth ends)
  unfolding rooms_in place_if
  nearest_ends depth h = rw (lt-leb 1 (get_or ends (suc depth) 0 - next) (omega arith))

  -- it has not, nor have those around it
  pub nested_on : (depth : ℕ) → next < get_or ends depth 0 → Nested next depth ends → Nested (next + 1) depth ends
  nested_on zero l h = tt
  nested_on (suc depth) l h = (omega arith, h.1, nested_on depth (omega (arith, h.1)) h.2)

  pub rooms_on : (depth : ℕ) → next < get_or ends depth 0 → Nested next depth ends
      → lower (rooms_in next depth ends) ≡ rooms_in (next + 1) depth ends
  unfolding rooms_in place_if
  rooms_on zero l h = refl
  rooms_on (suc depth) l h =
      rw (le-leb 1 (get_or ends (suc depth) 0 - next) (omega arith))
      (ap₂ (λ (n : ℕ) (ns : List ℕ). n ∷ ns) (omega arith) (rooms_on depth (omega (arith, h.1)) h.2))

  -- ---- a group is opened

  module _ (at end : ℕ) where
    -- what is around it stays
    rooms_kept : (depth : ℕ) → depth < at → rooms_in next depth (set ends at end) ≡ rooms_in next depth ends
    unfolding rooms_in
    rooms_kept zero l = refl
    rooms_kept (suc depth) l =
        ap₂ (λ (n : ℕ) (ns : List ℕ). (n - next) ∷ ns) (get_or-set_other ends at (suc depth) end 0 (λ e. omega arith)) (rooms_kept depth (omega arith))

    nested_kept : (depth : ℕ) → depth < at → Nested next depth ends → Nested next depth (set ends at end)
    nested_kept zero l h = tt
    nested_kept (suc depth) l h =
        let own = get_or-set_other ends at (suc depth) end 0 (λ e. omega arith) in
        let around = get_or-set_other ends at depth end 0 (λ e. omega arith) in
        (omega (arith, own, h.0), omega (arith, own, around, h.1), nested_kept depth (omega arith) h.2)

  module _ (depth under : ℕ) (inside : depth + 1 < length ends) where
    abbrev opened : List ℕ
    opened = set ends (depth + 1) (next + under)

    own_end : get_or opened (suc depth) 0 ≡ next + under
    own_end =
        let same : suc depth ≡ depth + 1 = omega arith in
        ap (λ (k : ℕ). get_or opened k 0) same ∙ get_or-set_same ends (depth + 1) (next + under) 0 inside

    pub rooms_open : rooms_in next (depth + 1) opened ≡ under ∷ rooms_in next depth ends
    unfolding rooms_in
    rooms_open =
        let same : depth + 1 ≡ suc depth = omega arith in
        ap (λ (k : ℕ). rooms_in next k opened) same
        ∙ ap₂ (λ (n : ℕ) (ns : List ℕ). n ∷ ns) (omega (arith, own_end)) (rooms_kept (depth + 1) (next + under) depth (omega arith))

    pub nested_open : next + under ≤ get_or ends depth 0 → Nested next depth ends → Nested next (depth + 1) opened
    nested_open l h =
        let same : suc depth ≡ depth + 1 = omega arith in
        let around = get_or-set_other ends (depth + 1) depth (next + under) 0 (λ e. omega arith) in
        subst (λ (k : ℕ). Nested next k opened) same
        (omega (arith, own_end), omega (arith, own_end, around), nested_kept (depth + 1) (next + under) depth (omega arith) h)

    -- the table's end stays
    pub first_kept : get_or opened 0 0 ≡ get_or ends 0 0
    first_kept = get_or-set_other ends (depth + 1) 0 (next + under) 0 (λ e. omega arith)

-- ---- which groups are passed

module _ (ends : List ℕ) (next depth : ℕ) where
  -- of so many groups, those beyond `count` end with the present entry
  abbrev pub Passing : ℕ → Type 0
  Passing count = (lower (rooms_in next depth ends) ≡ lower (rooms_in next count ends)) × Nested next count ends × (count ≤ depth)

  -- what is left of them one entry on
  abbrev pub Passed : ℕ → Type 0
  Passed count = (lower (rooms_in next depth ends) ≡ rooms_in (next + 1) count ends) × Nested (next + 1) count ends × (count ≤ depth)

  pub passing_start : Nested next depth ends → Passing depth
  passing_start h = (refl, h, omega arith)

  module _ (count : ℕ) (p : Passing count) where
    pub passing_open : next < get_or ends count 0 → Passed count
    passing_open l = (p.0 ∙ rooms_on ends next count l p.1, nested_on ends next count l p.1, p.2)

    pub passing_next : 0 < count → get_or ends count 0 ≤ next → Passing (count - 1)
    passing_next k l = step count p k l
      where
        step : (count : ℕ) → Passing count → 0 < count → get_or ends count 0 ≤ next → Passing (count - 1)
        step zero p k l = absurd (omega arith)
        step (suc less) p k l =
            let same : less ≡ suc less - 1 = omega arith in
            subst Passing same (p.0 ∙ nearest_ends ends next less l, p.1.2, omega (arith, p.2))

    pub passing_end : count ≤ 0 → Passed 0
    unfolding rooms_in
    passing_end l =
        let none : count ≡ 0 = omega arith in
        (p.0 ∙ ap (λ (k : ℕ). lower (rooms_in next k ends)) none, tt, omega arith)
