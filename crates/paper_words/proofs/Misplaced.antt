-- 9: the first segment with which no interchange begins, or the end. What passed is a list of segments, the nearest first. Assumes nothing.
use Rattle.std.specs.Prelude.{if◌then◌else◌}
use Prim.Native.Nat.{ℕ, ◌<◌}
use mathlib.Core.Path.{◌≡◌, refl, sym, ap, subst, ◌∙◌}
use mathlib.Core.Bool.{Bool, true, false, not, ◌&&◌, true≢false}
use mathlib.Core.Logic.{◌⊎◌, inl, inr, ⊎_elim}
use mathlib.Core.List.Memᴰ
use mathlib.Core.List.{List, [], ◌∷◌, ◌++◌, map, reverse, reverse_aux, append_assoc, cons-ne-nil, nil≢cons, head-eq_of_cons-eq, tail-eq_of_cons-eq, Memᴰ}
use mathlib.Core.Option.{Option, none}
use native.Mathlib.Omega.{arith}
use lib.ListN.{length}
use Rattle.lists.specs.Lists.{all, those}
use Rattle.refusals.specs.declared.Fault.TheVariants.{MisplacedSegment}
use Rattle.refusals.specs.declared.Refusal.{Refusal}
use Rattle.refusals.specs.Refusals.{met, place_if, lowest, or_else, answering}
use Rattle.refusals.proofs.Stages.{or_else_none}
use Rattle.values.specs.Tokens.{Segment, start}
use Rattle.segments.specs.Tags.{kind_of}
use Rattle.segments.specs.Order.{allowed, is_complete}
use Rattle.control_elements.specs.Sections.{section_rule}
use Rattle.stages.specs.Contents.{body_tokens, segments_of}
use Rattle.stages.specs.Places.{starts_where, misplaced, misplaced_segments}
use Rattle.stages.specs.Stages.{places_of, brackets, brackets_in, bracketed, stages_in}
use Rattle.stage_walks.specs.Walks.{refuse, first_in, ordered_segment, ordered}
use Rattle.stage_walks.proofs.Rows.{Climbs, end, on, climbs_up}
use Rattle.stage_walks.proofs.Rising.{Spans, segments_rise}
use Rattle.stage_walks.proofs.Walks.{ordered_answers}
use Rattle.grammar_laws.proofs.Theorem.{order_theorem}
use Rattle.paper_words.specs.PaperWords.{Interchange, Meets}
use Rattle.paper_words.proofs.Answering.{Settled}
use Rattle.paper_words.proofs.Meanings.{OrderFails, Somewhere, Meant, meant, meets}
use Rattle.paper_words.proofs.Grammar.{ordered_is, begins_one, begun_clear}

-- ---- the first that is misplaced

no_place : (b : Bool) (place : ℕ) (rest : List ℕ) → place_if b place ++ rest ≡ [] → (b ≡ false) × (rest ≡ [])
unfolding place_if
no_place true place rest h = absurd (cons-ne-nil place rest h)
no_place false place rest h = (refl, h)

-- none of them is misplaced
abbrev Clear : List Segment → List Segment → Type 0
Clear past gs = starts_where misplaced past gs ≡ []

clear_next : (past : List Segment) (g : Segment) (gs : List Segment) → Clear past (g ∷ gs) → (misplaced past g ≡ false) × Clear (g ∷ past) gs
unfolding starts_where
clear_next past g gs h = no_place (misplaced past g) (start g) (starts_where misplaced (g ∷ past) gs) h

clear_cons : (past : List Segment) (g : Segment) (gs : List Segment) → misplaced past g ≡ false → Clear (g ∷ past) gs → Clear past (g ∷ gs)
unfolding starts_where place_if
clear_cons past g gs e h = ap (λ (b : Bool). place_if b (start g) ++ starts_where misplaced (g ∷ past) gs) e ∙ h

-- among them
clear_at : (past before : List Segment) (g : Segment) (after : List Segment) → Clear past (before ++ g ∷ after)
    → misplaced (reverse_aux before past) g ≡ false
clear_at past [] g after h = (clear_next past g after h).0
clear_at past (b ∷ before) g after h = clear_at (b ∷ past) before g after (clear_next past b (before ++ g ∷ after) h).1

-- one more
clear_more : (past before : List Segment) (g : Segment) → Clear past before → misplaced (reverse_aux before past) g ≡ false
    → Clear past (before ++ g ∷ [])
unfolding starts_where
clear_more past [] g h e = clear_cons past g [] e refl
clear_more past (b ∷ before) g h e =
    let (own, rest) = clear_next past b before h in clear_cons past b (before ++ g ∷ []) own (clear_more (b ∷ past) before g rest e)

-- the segment after these is the first that is misplaced
record FirstAt (past gs before : List Segment) (g : Segment) (after : List Segment) : Type 0 where
  split : gs ≡ before ++ g ∷ after
  clear : Clear past before
  fails : misplaced (reverse_aux before past) g ≡ true

-- there is only one
only_first : (past gs before : List Segment) (g : Segment) (after others : List Segment) (h : Segment) (more : List Segment)
    → FirstAt past gs before g after → FirstAt past gs others h more → g ≡ h
only_first past gs [] g after [] h more x y = head-eq_of_cons-eq (sym x.split ∙ y.split)
only_first past gs [] g after (o ∷ others) h more x y =
    let same : g ≡ o = head-eq_of_cons-eq (sym x.split ∙ y.split) in
    absurd (true≢false (sym x.fails ∙ ap (misplaced past) same ∙ (clear_next past o others y.clear).0))
only_first past gs (b ∷ before) g after [] h more x y =
    let same : b ≡ h = head-eq_of_cons-eq (sym x.split ∙ y.split) in
    absurd (true≢false (sym y.fails ∙ ap (misplaced past) (sym same) ∙ (clear_next past b before x.clear).0))
only_first past gs (b ∷ before) g after (o ∷ others) h more x y =
    let both : b ∷ (before ++ g ∷ after) ≡ o ∷ (others ++ h ∷ more) = sym x.split ∙ y.split in
    let same : o ≡ b = sym (head-eq_of_cons-eq both) in
    only_first (b ∷ past) (before ++ g ∷ after) before g after others h more
    (record { split = refl; clear = (clear_next past b before x.clear).1; fails = x.fails })
    (record {
      split = tail-eq_of_cons-eq both;
      clear = subst (λ (k : Segment). Clear (k ∷ past) others) same (clear_next past o others y.clear).1;
      fails = subst (λ (k : Segment). misplaced (reverse_aux others (k ∷ past)) h ≡ true) same y.fails;
    })

-- what the walk that stops at it finds
abbrev Walk : List Segment → List Segment → Type 0
Walk past gs =
    (Clear past gs × (first_in ordered_segment past gs ≡ none))
    ⊎ ((before : List Segment)
    × (g : Segment)
    × (after : List Segment)
    × FirstAt past gs before g after
    × (first_in ordered_segment past gs ≡ refuse MisplacedSegment (start g)))

walk : (past gs : List Segment) → Walk past gs
unfolding first_in starts_where ordered_segment or_else
walk past [] = inl (refl, refl)
walk past (g ∷ gs) = step (allowed (map kind_of past) (kind_of g) && section_rule past g) refl (walk (g ∷ past) gs)
  where
    asked : (t : Bool) → (allowed (map kind_of past) (kind_of g) && section_rule past g) ≡ t
        → first_in ordered_segment past (g ∷ gs)
        ≡ or_else (if t then none else refuse MisplacedSegment (start g)) (first_in ordered_segment (g ∷ past) gs)
    asked t e =
        ap (λ (b : Bool). or_else (if b then none else refuse MisplacedSegment (start g)) (first_in ordered_segment (g ∷ past) gs)) e

    step : (t : Bool) → (allowed (map kind_of past) (kind_of g) && section_rule past g) ≡ t → Walk (g ∷ past) gs → Walk past (g ∷ gs)
    step true e (inl (clear, f)) = inl (clear_cons past g gs (ap not e) clear, asked true e ∙ f)
    step true e (inr (before, h, after, first, f)) =
        inr (
          g ∷ before,
          h,
          after,
          record {
            split = ap (λ (l : List Segment). g ∷ l) first.split;
            clear = clear_cons past g before (ap not e) first.clear;
            fails = first.fails;
          },
          asked true e ∙ f,
        )
    step false e rest = inr ([], g, gs, record { split = refl; clear = refl; fails = ap not e }, asked false e)

-- ---- a start lies below the input's length

start_below : {low high : ℕ} {gs : List Segment} → Climbs Spans low high gs → (before : List Segment) (g : Segment) (after : List Segment)
    → gs ≡ before ++ g ∷ after → start g < high
start_below (end h) [] g after e = absurd (nil≢cons e)
start_below (end h) (b ∷ before) g after e = absurd (nil≢cons e)
start_below (on low next x l (from, to, rises) rest) [] g after e =
    let up = climbs_up rest in omega (arith, ap start (head-eq_of_cons-eq e))
start_below (on low next x l spans rest) (b ∷ before) g after e = start_below rest before g after (tail-eq_of_cons-eq e)

-- ---- the stage

module _ (s : List ℕ) where
  answered : lowest (met MisplacedSegment (misplaced_segments s)) ≡ ordered (length s) (body_tokens s)
  unfolding stages_in brackets_in brackets those all bracketed places_of answering
  answered = sym (or_else_none (lowest (met MisplacedSegment (misplaced_segments s)))) ∙ ordered_answers s

  -- a segment with which no interchange begins is the first that is misplaced
  first_at : (before : List Segment) (g : Segment) (after : List Segment) → segments_of s ≡ before ++ g ∷ after → OrderFails before g
      → FirstAt [] (segments_of s) before g after
  first_at before g after e ((rest, i), no_more) = by (misplaced (reverse before) g) refl
    where
      clear : Clear [] before
      clear = begun_clear before rest i

      by : (t : Bool) → misplaced (reverse before) g ≡ t → FirstAt [] (segments_of s) before g after
      by true h = record { split = e; clear = clear; fails = h }
      by false h =
          let (more, k) = begins_one (before ++ g ∷ []) (clear_more [] before g clear h) in
          absurd (no_more more (subst Interchange (append_assoc before (g ∷ []) more) k))

  -- and the other way round
  at_first : (before : List Segment) (g : Segment) (after : List Segment) → FirstAt [] (segments_of s) before g after → OrderFails before g
  at_first before g after first = (
    begins_one before first.clear,
    λ more i.
        let clear = begun_clear (before ++ g ∷ []) more (subst Interchange (sym (append_assoc before (g ∷ []) more)) i) in
        true≢false (sym first.fails ∙ clear_at [] before g [] clear),
  )

  pub nine_settled : Settled (Meets s) (9 ∷ []) (lowest (met MisplacedSegment (misplaced_segments s)))
  unfolding ordered segments_of or_else
  nine_settled = subst (Settled (Meets s) (9 ∷ [])) (sym answered) (by (walk [] (segments_of s)))
    where
      -- what is met with 9
      nine : {m q : ℕ} → Memᴰ m (9 ∷ []) → Meets s m q → Meant s MisplacedSegment q
      nine {m} {q} k h = meant s MisplacedSegment (subst (λ (x : ℕ). Meets s x q) (Memᴰ.eq_of_singleton k) h)

      complete : Bool
      complete = is_complete (reverse (map kind_of (segments_of s)))

      by : Walk [] (segments_of s) → Settled (Meets s) (9 ∷ []) (ordered (length s) (body_tokens s))
      by (inr (before, g, after, first, f)) =
          subst (λ (o : Option Refusal). Settled (Meets s) (9 ∷ []) (or_else o (if complete then none else refuse MisplacedSegment (length s))))
          (sym f) (
            Memᴰ.head refl,
            meets s MisplacedSegment (inl (before, g, after, first.split, at_first before g after first, refl)),
            λ m q k h.
                ⊎_elim
                (λ (others, x, rest, e, fails, p).
                let same : g ≡ x = only_first [] (segments_of s) before g after others x rest first (first_at others x rest e fails) in
                inr (ap start same ∙ sym p, omega (arith, Memᴰ.eq_of_singleton k)))
                (λ (n, p). inl (omega (arith, start_below (segments_rise s) before g after first.split)))
                (nine k h),
          )
      by (inl (clear, f)) =
          subst (λ (o : Option Refusal). Settled (Meets s) (9 ∷ []) (or_else o (if complete then none else refuse MisplacedSegment (length s))))
          (sym f) (ended complete refl)
        where
          -- no segment is the first with which none begins
          nowhere : {q : ℕ} → Somewhere s OrderFails q → ⊥
          nowhere (before, g, after, e, fails, p) =
              let first = first_at before g after e fails in
              true≢false (sym first.fails ∙ clear_at [] before g after (subst (Clear []) e clear))

          ended : (c : Bool) → complete ≡ c → Settled (Meets s) (9 ∷ []) (if c then none else refuse MisplacedSegment (length s))
          ended true e =
              λ m q k h.
              ⊎_elim nowhere (λ (n, p). n ((ordered_is (segments_of s)).1 ((order_theorem (segments_of s)).0 (clear, e)))) (nine k h)
          ended false e = (
            Memᴰ.head refl,
            meets s MisplacedSegment
                (inr (λ i. true≢false (sym ((order_theorem (segments_of s)).1 ((ordered_is (segments_of s)).0 i)).1 ∙ e), refl)),
            λ m q k h. ⊎_elim (λ x. absurd (nowhere x)) (λ (n, p). inr (sym p, omega (arith, Memᴰ.eq_of_singleton k))) (nine k h),
          )
