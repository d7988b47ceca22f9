-- The tree of a table whose groups lie in one another: its levels one entry at a time, its tags, and its repeats. Assumes nothing.
use Rattle.std.specs.Prelude.{if◌then◌else◌}
use Prim.Native.Nat.{ℕ, zero, suc, ◌-◌, ◌≤◌}
use mathlib.Core.Path.{◌≡◌, refl, sym, ap, ap₂, ◌∙◌}
use mathlib.Core.Bool.{Bool, true, false}
use mathlib.Core.List.{List, [], ◌∷◌, ◌++◌}
use native.Mathlib.Omega.{arith}
use lib.ListN.{take, drop, take-append-drop}
use lib.Seq.{drop-nil}
use Rattle.lists.specs.Lists.{at, maybe}
use Rattle.message_tables.specs.Entries.{Entry, is_group, is_mandatory}
use Rattle.message_tables.specs.Structure.{Structure, entry, lead_of, held_by, level, levels, tags_in, segment_tags}
use Rattle.message_table_laws.specs.Nesting.{Triggered, Lies, Level, Levels, Able}
use Rattle.message_table_laws.proofs.Fitting.{trigger_segment}

-- ---- one entry at a time

-- what stands under the entry before is passed over
pub level_passes : (f : List Entry → Structure) (under : ℕ) (es : List Entry) → level f under es ≡ level f 0 (drop under es)
unfolding level
level_passes f zero es = refl
level_passes f (suc under) [] = refl
level_passes f (suc under) (e ∷ es) = level_passes f under es

pub level_on : (P : List Entry → Type 0) (under : ℕ) (es : List Entry) → Level P under es → Level P 0 (drop under es)
level_on P zero es h = h
level_on P (suc under) [] h = tt
level_on P (suc under) (e ∷ es) h = level_on P under es h

-- an entry, what its group holds behind its trigger, and the entries of the level that follow
pub levels_next : (n : ℕ) (e : Entry) (es : List Entry)
    → levels (suc n) (e ∷ es)
    ≡ entry (is_mandatory e) e.repeats (lead_of e es) (levels n (held_by e es)) (levels (suc n) (drop e.under es))
unfolding levels level
levels_next n e es =
    ap (entry (is_mandatory e) e.repeats (lead_of e es) (levels n (held_by e es))) (level_passes (levels n) e.under es)

pub levels_on : (n : ℕ) (e : Entry) (es : List Entry) → Levels (suc n) (e ∷ es)
    → Lies e es × Levels n (held_by e es) × Levels (suc n) (drop e.under es)
levels_on n e es h = (h.0, h.1, level_on (Levels n) e.under es h.2)

-- ---- the tags

tags_append : (xs ys : List Entry) → segment_tags (xs ++ ys) ≡ segment_tags xs ++ segment_tags ys
unfolding segment_tags
tags_append [] ys = refl
tags_append (x ∷ xs) ys = step (is_group x) (tags_append xs ys)
  where
    step : (g : Bool) → segment_tags (xs ++ ys) ≡ segment_tags xs ++ segment_tags ys
        → (if g then segment_tags (xs ++ ys) else x.tag ∷ segment_tags (xs ++ ys))
        ≡ (if g then segment_tags xs else x.tag ∷ segment_tags xs) ++ segment_tags ys
    step true h = h
    step false h = ap (λ (ts : List (List ℕ)). x.tag ∷ ts) h

-- the tag of an entry, the tags of what it holds, and those behind it
entry_tags : (e : Entry) (es : List Entry) → Lies e es
    → lead_of e es ∷ (segment_tags (held_by e es) ++ segment_tags (drop e.under es)) ≡ segment_tags (e ∷ es)
unfolding lead_of held_by segment_tags at maybe
entry_tags e es h = step (is_group e) refl
  where
    grouped : (es : List Entry) (u : ℕ) → 1 ≤ u → Triggered es
        → maybe [] (λ (t : Entry). t.tag) (at es 0) ∷ (segment_tags (take (u - 1) (drop 1 es)) ++ segment_tags (drop u es)) ≡ segment_tags es
    grouped [] u k t = absurd t
    grouped (t ∷ ts) zero k g = absurd (omega arith)
    grouped (t ∷ ts) (suc u) k g =
        let less : suc u - 1 ≡ u = omega arith in
        let parts : segment_tags (take (suc u - 1) ts) ++ segment_tags (drop u ts) ≡ segment_tags ts =
        ap (λ (m : ℕ). segment_tags (take m ts) ++ segment_tags (drop u ts)) less
        ∙ sym (tags_append (take u ts) (drop u ts))
        ∙ ap segment_tags (take-append-drop u ts) in
        let own : (if is_group t then segment_tags ts else t.tag ∷ segment_tags ts) ≡ t.tag ∷ segment_tags ts =
        ap (λ (b : Bool). if b then segment_tags ts else t.tag ∷ segment_tags ts) (trigger_segment t g) in
        ap (λ (xs : List (List ℕ)). t.tag ∷ xs) parts ∙ sym own

    step : (g : Bool) → is_group e ≡ g
        → (if g then maybe [] (λ (t : Entry). t.tag) (at es 0) else e.tag)
        ∷ (segment_tags (take (e.under - 1) (drop 1 es)) ++ segment_tags (drop e.under es))
        ≡ (if g then segment_tags es else e.tag ∷ segment_tags es)
    step true g = grouped es e.under (h.group g).0 (h.group g).1
    step false g = ap (λ (u : ℕ). e.tag ∷ (segment_tags (take (u - 1) (drop 1 es)) ++ segment_tags (drop u es))) (h.segment g).0

-- the tags in the tree are those of the table's segments
module _ (n : ℕ) (inner : (es : List Entry) → Levels n es → tags_in (levels n es) ≡ segment_tags es) where
  level_tags : (es : List Entry) (under : ℕ) → Level (Levels n) under es → tags_in (level (levels n) under es) ≡ segment_tags (drop under es)
  unfolding level tags_in segment_tags
  level_tags [] under h = ap segment_tags (sym (drop-nil under))
  level_tags (e ∷ es) (suc under) h = level_tags es under h
  level_tags (e ∷ es) zero h =
      ap₂ (λ (xs ys : List (List ℕ)). lead_of e es ∷ (xs ++ ys)) (inner (held_by e es) h.1) (level_tags es e.under h.2)
      ∙ entry_tags e es h.0

pub levels_tags : (n : ℕ) (es : List Entry) → Levels n es → tags_in (levels n es) ≡ segment_tags es
unfolding levels tags_in segment_tags
levels_tags zero es h = ap segment_tags (sym h)
levels_tags (suc n) es h = level_tags n (levels_tags n) es 0 h

-- ---- the repeats

module _ (n : ℕ) (inner : (es : List Entry) → Levels n es → Able (levels n es)) where
  level_able : (es : List Entry) (under : ℕ) → Level (Levels n) under es → Able (level (levels n) under es)
  unfolding level
  level_able [] under h = tt
  level_able (e ∷ es) (suc under) h = level_able es under h
  level_able (e ∷ es) zero h = (h.0.least, inner (held_by e es) h.1, level_able es e.under h.2)

pub levels_able : (n : ℕ) (es : List Entry) → Levels n es → Able (levels n es)
unfolding levels
levels_able zero es h = tt
levels_able (suc n) es h = level_able n (levels_able n) es 0 h
