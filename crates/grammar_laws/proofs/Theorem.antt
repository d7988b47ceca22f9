-- The theorems of this crate. Refusal 9 is not met exactly where the order of the segments and of the sections is right; none of 9 to 12 is met
-- exactly where the segments are an interchange. Assumes nothing.
use Prim.Native.Nat.{ℕ}
use native.Mathlib.Omega.{arith}
use mathlib.Core.Path.{◌≡◌, refl, sym, ap, ◌∙◌}
use mathlib.Core.Logic.{◌↔◌, inl, inr, ⊎_elim}
use mathlib.Core.Bool.{Bool, true, false, not, ◌&&◌}
use mathlib.Core.List.{List, [], ◌∷◌, ◌++◌, map, reverse, cons-ne-nil}
use lib.ListN.{length}
use lib.Dec.{eqb}
use borrow.Author.Tests.{eq-eqb, ne_eqb, not-false}
use Rattle.lists.specs.Lists.{maybe}
use Rattle.lists.proofs.Texts.{and_left, and_right, and_both, if_true, if_false}
use Rattle.refusals.specs.Refusals.{place_if}
use Rattle.values.specs.Tokens.{Segment}
use Rattle.segments.specs.Tags.{kind_of}
use Rattle.segments.specs.Order.{messages_in, groups_in, allowed, is_complete}
use Rattle.control_elements.specs.Control.{reference_differs, count_wrong, count_of, decimal}
use Rattle.control_elements.specs.Sections.{section_rule}
use Rattle.stages.specs.Contents.{segments_of, kinds_of}
use Rattle.stages.specs.Places.{starts_where, misplaced_segments, bad_controls, differing_references, wrong_counts, misplaced, bad_control}
use Rattle.grammar_laws.specs.Grammar.{size, interchange_count, Asking, Group, Content, Whole, Ordered, Agrees, Interchange, InOrder, InControl}
use Rattle.grammar_laws.proofs.Trail.{◌▸◌, ▸-map, Each, none_yet, each_map, each_both}
use Rattle.grammar_laws.proofs.Order.{standing_complete}
use Rattle.grammar_laws.proofs.Pieces.{kinds, messages_groups, some_groups, messages_size, groups_size}
use Rattle.grammar_laws.proofs.Passing.{Saying, Passes, Rules, each_clear, clear_each}
use Rattle.grammar_laws.proofs.Control.{passes-iff, agreeing}
use Rattle.grammar_laws.proofs.Begun.{whole}
use Rattle.grammar_laws.proofs.Gone.{gone}

-- ---- of a list of segments

-- complete segments pass exactly where they are a whole interchange, under any rules
walked : {asked : Asking} {Says : Saying} (rules : Rules asked Says) (gs : List Segment)
    → Each (Passes Says) ([] ▸ gs) × (is_complete (reverse (map kind_of gs)) ≡ true) ↔ Whole asked gs
walked {asked} {Says} rules gs = (
  λ h. whole asked Says rules gs h.0 (ap is_complete (▸-map kind_of [] gs) ∙ h.1),
  λ f.
      let walk = gone asked Says rules gs f in
      (walk.0, ap is_complete (sym (▸-map kind_of [] gs)) ∙ standing_complete (kinds ([] ▸ gs)) walk.1),
)

-- nothing is asked of segments but their order
ordering : Rules (λ count head middle tail. Unit {0}) (λ kind past g. Unit {0})
ordering =
    record {
      user = λ past g. tt;
      section = λ past g. tt;
      message = λ head outer middle tail opening others. (λ says. tt, λ asked. (tt, tt));
      group = λ head outer middle tail opening others. (λ says. tt, λ asked. (tt, tt));
      interchange = λ head middle tail opening others. (λ says. tt, λ asked. (tt, tt));
    }

module _ (gs : List Segment) where
  clear : (fails : List Segment → Segment → Bool) → starts_where fails [] gs ≡ []
      → Each (λ past g. fails past g ≡ false) ([] ▸ gs)
  clear fails none = each_clear fails [] gs none none_yet

  -- refusal 9
  pub order_theorem : InOrder gs ↔ Ordered gs
  order_theorem = (
    λ h.
        (walked ordering gs).0 (
          each_map (λ past g fits.
              let both = not-false (allowed (kinds past) (kind_of g) && section_rule past g) fits in
              record {
                place = and_left (allowed (kinds past) (kind_of g)) (section_rule past g) both;
                marks = and_right (allowed (kinds past) (kind_of g)) (section_rule past g) both;
                says = tt;
              })
              (clear misplaced h.0),
          h.1,
        ),
    λ f.
        let walk = (walked ordering gs).1 f in (
          clear_each misplaced [] gs
              (each_map (λ past g passes. ap not (and_both (allowed (kinds past) (kind_of g)) (section_rule past g) passes.place passes.marks))
              walk.0),
          walk.1,
        ),
  )

  -- refusals 9 to 12
  pub interchange_theorem : InOrder gs × InControl gs ↔ Interchange gs
  interchange_theorem = (
    λ h.
        (walked agreeing gs).0 (
          each_map (λ past g fits. (passes-iff past g).0 (fits.0.0, fits.0.1, fits.1.0, fits.1.1))
              (each_both (each_both (clear misplaced h.0.0) (clear bad_control h.1.0))
              (each_both (clear reference_differs h.1.1) (clear count_wrong h.1.2))),
          h.0.1,
        ),
    λ f.
        let walk = (walked agreeing gs).1 f in (
          (clear_each misplaced [] gs (each_map (λ past g passes. ((passes-iff past g).1 passes).0) walk.0), walk.1),
          (
            clear_each bad_control [] gs (each_map (λ past g passes. ((passes-iff past g).1 passes).1) walk.0),
            clear_each reference_differs [] gs (each_map (λ past g passes. ((passes-iff past g).1 passes).2) walk.0),
            clear_each count_wrong [] gs (each_map (λ past g passes. ((passes-iff past g).1 passes).3) walk.0),
          ),
        ),
  )

-- ---- of an input

ends_nothing : (complete : Bool) (place : ℕ) → place_if (not complete) place ≡ [] → complete ≡ true
unfolding place_if
ends_nothing true place h = refl
ends_nothing false place h = absurd (cons-ne-nil place [] h)

both_empty : (xs ys : List ℕ) → xs ++ ys ≡ [] → (xs ≡ []) × (ys ≡ [])
both_empty [] ys h = (refl, h)
both_empty (x ∷ xs) ys h = absurd (cons-ne-nil x (xs ++ ys) h)

module _ (s : List ℕ) where
  in_order : (misplaced_segments s ≡ []) ↔ InOrder (segments_of s)
  unfolding misplaced_segments kinds_of place_if
  in_order = (
    λ h.
        let none = both_empty (starts_where misplaced [] (segments_of s)) (place_if (not (is_complete (kinds_of s))) (length s)) h in
        (none.0, ends_nothing (is_complete (kinds_of s)) (length s) none.1),
    λ h.
        ap (λ (l : List ℕ). l ++ place_if (not (is_complete (kinds_of s))) (length s)) h.0
        ∙ ap (λ (b : Bool). place_if (not b) (length s)) h.1,
  )

  -- refusal 9 is not met exactly where the order of the input's segments is right
  pub input_order : (misplaced_segments s ≡ []) ↔ Ordered (segments_of s)
  input_order = (
    λ h. (order_theorem (segments_of s)).0 (in_order.0 h),
    λ f. in_order.1 ((order_theorem (segments_of s)).1 f),
  )

  -- none of the refusals 9 to 12 is met exactly where the input's segments are an interchange
  pub input-interchange :
      (misplaced_segments s ≡ []) × (bad_controls s ≡ []) × (differing_references s ≡ []) × (wrong_counts s ≡ [])
      ↔ Interchange (segments_of s)
  unfolding bad_controls differing_references wrong_counts
  input-interchange = (
    λ h. (interchange_theorem (segments_of s)).0 (in_order.0 h.0, (h.1, h.2, h.3)),
    λ f.
        let h = (interchange_theorem (segments_of s)).1 f in
        (in_order.1 h.0, h.1.0, h.1.1, h.1.2),
  )

-- ---- what the counts are

-- "UNE's is the messages of the group"
pub group_counts : {gs : List Segment} (f : Group Agrees gs) → maybe 0 decimal (count_of f.tail) ≡ size f.inside
unfolding messages_in
group_counts f = f.asked.right_count ∙ messages_size Agrees f.inside

-- "UNZ's is the groups, or the messages where there are no groups."
content_counts : (gs : List Segment) (h : Content Agrees gs) → interchange_count gs ≡ ⊎_elim size size h
unfolding messages_in groups_in
content_counts gs (inl h) =
    if_false (eqb (groups_in (kinds gs)) 0) (messages_in (kinds gs)) (groups_in (kinds gs))
    (ne_eqb (groups_in (kinds gs)) 0 (λ e. omega (arith, some_groups Agrees gs h, e)))
    ∙ groups_size Agrees h
content_counts gs (inr h) =
    if_true (eqb (groups_in (kinds gs)) 0) (messages_in (kinds gs)) (groups_in (kinds gs))
    (eq-eqb (groups_in (kinds gs)) 0 (messages_groups Agrees gs h))
    ∙ messages_size Agrees h

pub interchange_counts : {gs : List Segment} (f : Interchange gs)
    → maybe 0 decimal (count_of f.tail) ≡ ⊎_elim size size f.inside
interchange_counts f = f.asked.right_count ∙ content_counts f.middle f.inside
