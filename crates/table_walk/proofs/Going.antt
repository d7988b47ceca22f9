-- The loops of the walk: over the repeats of an entry, and over the entries of a level. Assumes nothing.
use Rattle.std.specs.Prelude.{Ok, Err}
use Prim.Native.Nat.{ℕ, zero, suc, ◌-◌, ◌≤◌, ◌<◌}
use mathlib.Core.Path.{◌≡◌, refl, sym, ap, subst, ◌∙◌}
use mathlib.Core.Bool.{Bool, true, false, not, ◌&&◌}
use mathlib.Core.List.{List, []}
use native.Mathlib.Omega.{arith}
use lib.ListN.{drop, take}
use Rattle.lists.specs.Lists.{same}
use Rattle.characters.specs.declared.Characters.{Characters}
use Rattle.values.specs.Tokens.{Segment}
use Rattle.segments.specs.Tags.{tag_of}
use Rattle.message_tables.specs.Entries.{entries_of}
use Rattle.message_tables.specs.Structure.{Structure, level, levels}
use Rattle.message_structures.specs.Walking.{Walked as Told, stopped, through, onward, leads, repeated, walk}
use Rattle.table_rows.specs.Rows.{tag_bytes}
use Rattle.table_walk.specs.declared.Next.{Next}
use Rattle.table_walk.specs.declared.Part.{Part}
use Rattle.table_walk.specs.Walking.{Walked, Tagged, segments_at, Marked, told, standing, within}
use Rattle.table_walk.proofs.Entries.{Opened}
use Rattle.table_walk.proofs.Steps.{onward_stopped, onward_through, repeats_stop, repeats_on, entry_missed, entry_met}
use Rattle.table_walk.proofs.Standing.{lead_known}

-- no level, or no entry
levels_none : (depth : ℕ) (gs : List Segment) → walk tag_of (levels depth []) gs ≡ through gs
unfolding levels level walk
levels_none zero gs = refl
levels_none (suc depth) gs = refl

pub level_zero : (table : List ℕ) (n end depth : ℕ) → depth ≡ 0 → (gs : List Segment)
    → walk tag_of (levels depth (within table n end)) gs ≡ through gs
unfolding levels walk
level_zero table n end depth e gs = ap (λ (d : ℕ). walk tag_of (levels d (within table n end)) gs) e

pub level_ends : (table : List ℕ) (n end depth : ℕ) → end ≤ n → (gs : List Segment)
    → walk tag_of (levels depth (within table n end)) gs ≡ through gs
level_ends table n end depth h gs =
    let none : end - n ≡ 0 = omega arith in
    ap (λ (k : ℕ). walk tag_of (levels depth (take k (drop n (entries_of table)))) gs) none ∙ levels_none depth gs

module _ (c : Characters) (s : List ℕ) where
  -- what the walk answers, where it stands then, and that it does not go back
  abbrev pub Answers : (from : ℕ) → Told Segment → Walked → Type 0
  Answers from w r = (told c s r ≡ w) × (Marked c s (standing r) × (from ≤ (standing r).at))

  -- the walk from one place is the walk from another, later one, at which the tag is known
  abbrev pub Goes : (from : ℕ) → Told Segment → (List Segment → Told Segment) → Next → Type 0
  Goes from w next here = (w ≡ next (segments_at c s here.at)) × Marked c s here × (from ≤ here.at)

  lead_here : (here : Next) (p : Part) → Tagged (tag_bytes p.lead) → Marked c s here
      → same (tag_bytes here.tag) (tag_bytes p.lead) ≡ leads tag_of (tag_bytes p.lead) (segments_at c s here.at)
  lead_here here p t m =
      ap (λ (x : List ℕ). same x (tag_bytes p.lead)) m ∙ lead_known (tag_bytes p.lead) refl t (segments_at c s here.at)

  -- ---- answers

  module _ (from : ℕ) (w : Told Segment) (next : List Segment → Told Segment) (here : Next) (g : Goes from w next here) where
    pub answers_through : next (segments_at c s here.at) ≡ through (segments_at c s here.at) → Answers from w (Ok here)
    answers_through e = (sym (g.0 ∙ e), (g.1, g.2))

    pub answers_stopped : next (segments_at c s here.at) ≡ stopped (segments_at c s here.at) → Answers from w (Err here)
    answers_stopped e = (sym (g.0 ∙ e), (g.1, g.2))

    -- a part of it was walked
    module _ (part : Told Segment) (after : List Segment → Told Segment) (e : next (segments_at c s here.at) ≡ onward tag_of part after)
        (at : ℕ) (l : here.at ≤ at) (r : Walked) (a : Answers at part r) (n : Next) where
      pub part_stopped : r ≡ Err n → Answers from w (Err n)
      part_stopped d =
          let b = subst (Answers at part) d a in
          (onward_stopped tag_of after b.0 ∙ sym (g.0 ∙ e), (b.1.0, omega (arith, b.1.1, g.2)))

      pub part_through : r ≡ Ok n → Goes from w after n
      part_through d =
          let b = subst (Answers at part) d a in
          (g.0 ∙ e ∙ sym (onward_through tag_of after b.0), b.1.0, omega (arith, b.1.1, g.2))

  -- ---- repeats

  module _ (inside : List Segment → Told Segment) (p : Part) (t : Tagged (tag_bytes p.lead)) (left : ℕ) (here : Next) (m : Marked c s here) where
    abbrev now : List Segment
    now = segments_at c s here.at

    pub repeat_other : same (tag_bytes here.tag) (tag_bytes p.lead) ≡ false
        → repeated tag_of inside (tag_bytes p.lead) left now ≡ through now
    repeat_other e = repeats_stop tag_of inside (tag_bytes p.lead) left now (sym (lead_here here p t m) ∙ e)

    pub repeat_one : 0 < left → same (tag_bytes here.tag) (tag_bytes p.lead) ≡ true → (next : ℕ) → segments_at c s next ≡ drop 1 now
        → repeated tag_of inside (tag_bytes p.lead) left now
        ≡ onward tag_of (inside (segments_at c s next)) (repeated tag_of inside (tag_bytes p.lead) (left - 1))
    repeat_one l e next d =
        repeats_on tag_of inside (tag_bytes p.lead) left now l (sym (lead_here here p t m) ∙ e)
        ∙ sym (ap (λ (gs : List Segment). onward tag_of (inside gs) (repeated tag_of inside (tag_bytes p.lead) (left - 1))) d)

  -- ---- entries

  module _ (table : List ℕ) (n end depth : ℕ) (p : Part) (o : Opened table n end depth p) (here : Next) (m : Marked c s here) where
    abbrev gs : List Segment
    gs = segments_at c s here.at

    abbrev missed : Bool
    missed = p.mandatory && not (same (tag_bytes here.tag) (tag_bytes p.lead))

    abbrev inside : Structure
    inside = levels (depth - 1) (within table p.from p.end)

    abbrev following : Structure
    following = levels depth (within table p.end end)

    missed_is : missed ≡ (p.mandatory && not (leads tag_of (tag_bytes p.lead) gs))
    missed_is = ap (λ (b : Bool). p.mandatory && not b) (lead_here here p o.tagged m)

    pub level_missed : missed ≡ true → walk tag_of (levels depth (within table n end)) gs ≡ stopped gs
    level_missed e =
        ap (λ (t : Structure). walk tag_of t gs) o.is
        ∙ entry_missed tag_of p.mandatory p.most (tag_bytes p.lead) inside following gs (sym missed_is ∙ e)

    pub level_met : missed ≡ false
        → walk tag_of (levels depth (within table n end)) gs
        ≡ onward tag_of (repeated tag_of (walk tag_of inside) (tag_bytes p.lead) p.most gs) (walk tag_of following)
    level_met e =
        ap (λ (t : Structure). walk tag_of t gs) o.is
        ∙ entry_met tag_of p.mandatory p.most (tag_bytes p.lead) inside following gs (sym missed_is ∙ e)
