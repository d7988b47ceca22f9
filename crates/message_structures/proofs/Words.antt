-- What the definitions say in the request's words: the walk entry by entry, and the language of small tables. Assumes nothing.
use Rattle.std.specs.Prelude.{if◌then◌else◌}
use Prim.Native.Nat.{ℕ, zero, suc, ◌≤◌}
use mathlib.Core.Path.{◌≡◌, refl, sym, ap, ◌∙◌}
use mathlib.Core.Bool.{Bool, true, false, false≢true}
use mathlib.Core.Logic.{◌↔◌}
use mathlib.Core.List.{List, [], ◌∷◌, ◌++◌, append-nil, nil≢cons, head-eq_of_cons-eq}
use mathlib.Core.Option.{none, some}
use native.Mathlib.Omega.{arith}
use lib.ListN.{replicate}
use Rattle.lists.specs.Lists.{all, those}
use Rattle.lists.proofs.Tests.{Says, says_as, says_same}
use Rattle.refusals.specs.declared.Fault.TheVariants.{TooLong, UnusableAdvice, NoOpening, StrayRelease, UnendedSegment, BrokenTag, ForeignLevel, OutsideLevel, MisplacedSegment, BadControl, ReferenceDiffers, CountWrong, NormalTooLong, UnsoundTable, UnmatchedBody}
use Rattle.refusals.specs.Refusals.{met}
use Rattle.stages.specs.Places.{too_long, unusable_advice, no_opening, stray_releases, unended_segment, broken_tags, foreign_level, outside_level, misplaced_segments, bad_controls, differing_references, wrong_counts, normal_too_long}
use Rattle.stages.specs.Stages.{places_of, brackets, brackets_in, bracketed, stages_in}
use Rattle.message_tables.specs.Soundness.{table_faults}
use Rattle.message_tables.specs.Structure.{Structure, done, entry}
use Rattle.message_structures.specs.Walking.{stopped, through, onward, leads, repeated, walk, left_over, unmatched}
use Rattle.message_structures.specs.Language.{Tags, Repeats, Spells}
use Rattle.message_structures.specs.Bodies.{unmatched_bodies}
use Rattle.message_structures.specs.Judging.{structure_stages}

-- ---- the walk

module _ {A : Type 0} (tag_of : A → List ℕ) where
  pub leads_says : (tag : List ℕ) (gs : List A) → Says (leads tag_of tag gs) ((g : A) × (rest : List A) × (gs ≡ g ∷ rest) × (tag_of g ≡ tag))
  unfolding leads
  leads_says tag [] = (λ h. absurd (false≢true h), λ h. absurd (nil≢cons h.2))
  leads_says tag (g ∷ gs) =
      says_as (says_same (tag_of g) tag) (λ h. (g, gs, refl, h)) (λ h. ap tag_of (head-eq_of_cons-eq h.2) ∙ h.3)

  module _ (most : ℕ) (tag : List ℕ) (inside following : Structure) where
    -- "stops at a mandatory entry that can't be met"
    pub walk_unmet : (gs : List A) → leads tag_of tag gs ≡ false → walk tag_of (entry true most tag inside following) gs ≡ stopped gs
    unfolding walk
    walk_unmet gs h = rw h

    -- a conditional entry that stands nowhere is passed over
    pub walk_absent : (gs : List A) → leads tag_of tag gs ≡ false
        → walk tag_of (entry false (suc most) tag inside following) gs ≡ walk tag_of following gs
    unfolding walk repeated onward
    walk_absent gs h = rw h

    -- where its tag stands, a repeat is gone through, "one level deeper"; what stopped there stopped
    pub walk_stuck : (mandatory : Bool) (g : A) (gs left : List A) → tag_of g ≡ tag → walk tag_of inside gs ≡ stopped left
        → walk tag_of (entry mandatory (suc most) tag inside following) (g ∷ gs) ≡ stopped left
    unfolding walk repeated onward leads
    walk_stuck true g gs left e h = rw ((says_same (tag_of g) tag).1 e, h)
    walk_stuck false g gs left e h = rw ((says_same (tag_of g) tag).1 e, h)

    -- and then the entry has its turn again, with one repeat less, "before the next entry has its turn"
    pub walk_again : (mandatory : Bool) (g : A) (gs left : List A) → tag_of g ≡ tag → walk tag_of inside gs ≡ through left
        → walk tag_of (entry mandatory (suc most) tag inside following) (g ∷ gs) ≡ walk tag_of (entry false most tag inside following) left
    unfolding walk repeated onward leads
    walk_again true g gs left e h = rw ((says_same (tag_of g) tag).1 e, h)
    walk_again false g gs left e h = rw ((says_same (tag_of g) tag).1 e, h)

    -- "as many .. as it can", within its largest number
    pub walk_full : (gs : List A) → walk tag_of (entry false 0 tag inside following) gs ≡ walk tag_of following gs
    unfolding walk repeated onward
    walk_full gs = refl

  pub walk_done : (gs : List A) → walk tag_of done gs ≡ through gs
  unfolding walk
  walk_done gs = refl

  -- "or at a segment left over after the last entry"
  pub left_over_lem : (t : Structure) (gs left : List A)
      → (walk tag_of t gs ≡ stopped left → unmatched tag_of t gs ≡ some left)
      × ((g : A) → walk tag_of t gs ≡ through (g ∷ left) → unmatched tag_of t gs ≡ some (g ∷ left))
      × (walk tag_of t gs ≡ through [] → unmatched tag_of t gs ≡ none)
  unfolding unmatched left_over
  left_over_lem t gs left = (λ e. ap (left_over tag_of) e, λ g e. ap (left_over tag_of) e, λ e. ap (left_over tag_of) e)

-- ---- the language

-- so many repeats of a segment
repeats_segment : (tag : List ℕ) (n : ℕ) (own : Tags) → Repeats (Spells done) tag n own ↔ (own ≡ replicate n tag)
unfolding Repeats Spells
repeats_segment tag zero own = (λ h. h, λ h. h)
repeats_segment tag (suc n) own = (
  λ h. h.2 ∙ (λ i. tag ∷ (h.3 i ++ (repeats_segment tag n h.1).0 h.4 i)),
  λ h. ([], replicate n tag, h, refl, (repeats_segment tag n (replicate n tag)).1 refl),
)

-- a segment's entry spells its tag so many times, within its limits, before what the next entries spell
pub segment_spells : (mandatory : Bool) (most : ℕ) (tag : List ℕ) (following : Structure) (tags : Tags)
    → Spells (entry mandatory most tag done following) tags
    ↔ ((n : ℕ) × ((if mandatory then 1 else 0) ≤ n) × (n ≤ most) × (rest : Tags) × (tags ≡ replicate n tag ++ rest) × Spells following rest)
unfolding Spells
segment_spells mandatory most tag following tags = (
  λ h. (
    h.0,
    h.1,
    h.2,
    h.4,
    h.5 ∙ ap (λ (own : Tags). own ++ h.4) ((repeats_segment tag h.0 h.3).0 h.6),
    h.7,
  ),
  λ h. (h.0, h.1, h.2, replicate h.0 tag, h.3, h.4, (repeats_segment tag h.0 (replicate h.0 tag)).1 refl, h.5),
)

-- two repeats of a group: its trigger and what it holds, twice
pub group_twice : (Inside : Tags → Type 0) (tag : List ℕ) (tags : Tags)
    → Repeats Inside tag 2 tags ↔ ((one : Tags) × (two : Tags) × (tags ≡ tag ∷ (one ++ tag ∷ two)) × Inside one × Inside two)
unfolding Repeats
group_twice Inside tag tags = (
  λ h.
      let second = h.4 in
      let last : second.0 ++ second.1 ≡ second.0 = ap (λ (xs : Tags). second.0 ++ xs) second.4 ∙ append-nil second.0 in (
        h.0,
        second.0,
        h.2 ∙ (λ i. tag ∷ (h.0 ++ (second.2 ∙ ap (λ (xs : Tags). tag ∷ xs) last) i)),
        h.3,
        second.3,
      ),
  λ h. (
    h.0,
    tag ∷ h.1,
    h.2,
    h.3,
    (h.1, [], ap (λ (xs : Tags). tag ∷ xs) (sym (append-nil h.1)), h.4, refl),
  ),
)

-- a group that stands once
pub group_spells : (tag : List ℕ) (inside : Structure) (tags : Tags)
    → Spells (entry true 1 tag inside done) tags ↔ ((one : Tags) × (tags ≡ tag ∷ one) × Spells inside one)
unfolding Spells Repeats
group_spells tag inside tags = (λ h. there h.0 h.3 h.4 h.1 h.2 h.5 h.6 h.7, back)
  where
    there : (n : ℕ) (own rest : Tags) → 1 ≤ n → n ≤ 1 → tags ≡ own ++ rest → Repeats (Spells inside) tag n own → rest ≡ []
        → (one : Tags) × (tags ≡ tag ∷ one) × Spells inside one
    there zero own rest low high e r d = absurd (omega arith)
    there (suc (suc n)) own rest low high e r d = absurd (omega arith)
    there (suc zero) own rest low high e r d = (
      r.0,
      e
          ∙ ap (λ (xs : Tags). own ++ xs) d
          ∙ append-nil own
          ∙ r.2
          ∙ ap (λ (xs : Tags). tag ∷ (r.0 ++ xs)) r.4
          ∙ ap (λ (xs : Tags). tag ∷ xs) (append-nil r.0),
      r.3,
    )

    back : (one : Tags) × (tags ≡ tag ∷ one) × Spells inside one
        → (n : ℕ) × (1 ≤ n) × (n ≤ 1) × (own : Tags) × (rest : Tags) × (tags ≡ own ++ rest) × Repeats (Spells inside) tag n own × (rest ≡ [])
    back (one, e, s) = (
      1,
      omega arith,
      omega arith,
      tag ∷ one,
      [],
      e ∙ sym (append-nil (tag ∷ one)),
      (one, [], ap (λ (xs : Tags). tag ∷ xs) (sym (append-nil one)), s, refl),
      refl,
    )

-- ---- the stages

-- "before all else 21 ..; after 12 and before 13, 22"
pub stages_are : (table s : List ℕ)
    → structure_stages table s
    ≡ met UnsoundTable (table_faults table)
    ∷ met TooLong (too_long s)
    ∷ met UnusableAdvice (unusable_advice s)
    ∷ met NoOpening (no_opening s)
    ∷ (met StrayRelease (stray_releases s) ++ (met UnendedSegment (unended_segment s) ++ met BrokenTag (broken_tags s)))
    ∷ met ForeignLevel (foreign_level s)
    ∷ met OutsideLevel (outside_level s)
    ∷ met MisplacedSegment (misplaced_segments s)
    ∷ (met BadControl (bad_controls s) ++ (met ReferenceDiffers (differing_references s) ++ met CountWrong (wrong_counts s)))
    ∷ met UnmatchedBody (unmatched_bodies table s)
    ∷ met NormalTooLong (normal_too_long s)
    ∷ []
unfolding structure_stages stages_in brackets_in brackets those all bracketed places_of
stages_are table s = refl
