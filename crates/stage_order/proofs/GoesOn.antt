-- The walk from its beginning over all segments answers as stage 9 does. Assumes nothing.
use Rattle.std.specs.Prelude.{if◌then◌else◌, Ok}
use Prim.Native.Nat.{ℕ, ◌≤◌, ◌<◌}
use mathlib.Core.Path.{◌≡◌, refl, sym, ap, ◌∙◌}
use mathlib.Core.Bool.{Bool, true, false, ◌&&◌}
use mathlib.Core.List.{List, [], ◌∷◌, map, reverse_aux}
use mathlib.Core.Option.{Option, none}
use lib.ListN.{length}
use Rattle.lists.specs.Lists.{those, through, at, beyond, maybe}
use Rattle.lists.proofs.Texts.{and_left, and_right, and_both, if_true, if_false}
use Rattle.characters.specs.declared.Characters.{Characters}
use Rattle.refusals.specs.declared.Fault.TheVariants.{MisplacedSegment}
use Rattle.refusals.specs.declared.Refusal.{Refusal}
use Rattle.refusals.specs.Refusals.{or_else}
use Rattle.values.specs.Tokens.{Token, Segment, ends, segments, start, tokens_at}
use Rattle.scanner.specs.Scan.{segment_at, Skips}
use Rattle.scanner.proofs.Segments.{segments_end, segments_first, segment_start_lem}
use Rattle.segments.specs.declared.Kind.{Kind}
use Rattle.segments.specs.declared.Section.{Section}
use Rattle.segments.specs.declared.Section.TheVariants.{None}
use Rattle.segments.specs.declared.Walk.{Walk}
use Rattle.segments.specs.Tags.{kind_of}
use Rattle.segments.specs.Order.{allowed, is_complete, walk_over}
use Rattle.control_elements.specs.Sections.{markers_in, section_rule, last_section}
use Rattle.stage_walks.specs.Walks.{refuse, first_in, ordered_segment, ordered}
use Rattle.walk_laws.specs.Walking.{walked, marked, section_begun, fits_by, stepped_by, begun_by}
use Rattle.walk_laws.proofs.Walks.{complete_over}
use Rattle.walk_laws.proofs.Sections.{fits_over, passed_over}
use Rattle.stage_order.specs.Ordering.{ordered_by, ordered_as, misplaced_at, completed, goes_on, Ordered}

-- the walk over segments that passed
abbrev walk_after : List Segment → Walk
walk_after past = walk_over (last_section past) (map kind_of past)

-- what stage 9 answers where some segments passed and others are left
abbrev answer_from : ℕ → List Segment → List Segment → Ordered
answer_from size past gs =
    ordered_by (walk_over (last_section (reverse_aux gs past)) (reverse_aux (map kind_of gs) (map kind_of past)))
    (or_else
    (first_in ordered_segment past gs)
    (if is_complete (reverse_aux (map kind_of gs) (map kind_of past)) then none else refuse MisplacedSegment size))

ends_with : (size : ℕ) (section : Section) (past : List Kind)
    → completed size (walk_over section past)
    ≡ ordered_by (walk_over section past) (if is_complete past then none else refuse MisplacedSegment size)
unfolding completed
ends_with size section past =
    ap (λ (b : Bool). if b then Ok (walk_over section past) else misplaced_at size) (complete_over section past) ∙ step (is_complete past)
  where
    step : (b : Bool) → (if b then Ok (walk_over section past) else misplaced_at size)
        ≡ ordered_by (walk_over section past) (if b then none else refuse MisplacedSegment size)
    step true = refl
    step false = refl

-- the walk over what is left answers as stage 9 does from there on
goes_on_lem : (size : ℕ) (past gs : List Segment) → walked (map kind_of past) ≡ true → marked past ≡ true
    → goes_on size (walk_after past) gs ≡ answer_from size past gs
unfolding goes_on first_in ordered_segment or_else walked marked
goes_on_lem size past [] h m = ends_with size (last_section past) (map kind_of past)
goes_on_lem size past (g ∷ gs) h m =
    ap (λ (b : Bool). if b then goes_on size next gs else misplaced_at (start g)) (fits_over past g m)
    ∙ step (fits && marks) refl (goes_on_lem size (g ∷ past) gs)
  where
    fits : Bool
    fits = allowed (map kind_of past) (kind_of g)

    marks : Bool
    marks = section_rule past g

    next : Walk
    next = begun_by (stepped_by (walk_after past) (kind_of g)) (section_begun (kind_of g) g)

    last : Option Refusal
    last =
        if is_complete (reverse_aux (map kind_of gs) (map kind_of (g ∷ past))) then none else refuse MisplacedSegment size

    step : (b : Bool) → (fits && marks) ≡ b
        → (walked (map kind_of (g ∷ past)) ≡ true → marked (g ∷ past) ≡ true → goes_on size (walk_after (g ∷ past)) gs ≡ answer_from size (g ∷ past) gs)
        → (if b then goes_on size next gs else misplaced_at (start g))
        ≡ ordered_by (walk_over (last_section (reverse_aux gs (g ∷ past))) (reverse_aux (map kind_of gs) (map kind_of (g ∷ past))))
        (or_else
        (or_else (if b then none else refuse MisplacedSegment (start g)) (first_in ordered_segment (g ∷ past) gs))
        last)
    step true e rest =
        let a = and_left fits marks e in
        let b = and_right fits marks e in
        ap (λ (w : Walk). goes_on size w gs) (passed_over past g h a b)
        ∙ rest (and_both fits (walked (map kind_of past)) a h) (and_both marks (marked past) b m)
    step false e rest = refl

-- from the beginning it answers as stage 9 does
pub goes_over : (size : ℕ) (ts : List Token) → goes_on size (walk_over None []) (segments ts) ≡ ordered_as size ts
unfolding ordered_as ordered walked marked last_section markers_in through those at maybe
goes_over size ts = goes_on_lem size [] (segments ts) refl refl

-- ---- the walk at a place of the input

module _ (c : Characters) (s : List ℕ) where
  -- what it answers from there on
  abbrev pub goes_at : Walk → ℕ → Ordered
  goes_at walk at = goes_on (length s) walk (segments (tokens_at c s at))

  module _ (walk : Walk) (at : ℕ) where
    -- after the last byte it ends
    pub goes_end : length s ≤ at → goes_at walk at ≡ completed (length s) walk
    unfolding goes_on
    goes_end h = ap (goes_on (length s) walk) (segments_end c s at h)

    module _ {kind : Kind} (k : kind ≡ kind_of (segment_at c s at)) {section : Section} (b : section ≡ section_begun kind (segment_at c s at))
        (h : at < length s) where
      -- what it answers after that segment, of a kind, with the section that it begins
      abbrev after : Kind → Section → Ordered
      after of next = goes_on (length s) (begun_by (stepped_by walk of) next) (segments (beyond (ends 0) (tokens_at c s at)))

      -- elsewhere it goes by the segment that begins there
      goes_first : goes_at walk at ≡ (if fits_by walk kind section then after kind section else misplaced_at at)
      unfolding goes_on
      goes_first =
          let g = segment_at c s at in
          ap (goes_on (length s) walk) (segments_first c s at h)
          ∙ (λ i. if fits_by walk (sym k i) (section_begun (sym k i) g)
          then after (sym k i) (section_begun (sym k i) g)
          else misplaced_at (segment_start_lem c s at h i))
          ∙ ap (λ (next : Section). if fits_by walk kind next then after kind next else misplaced_at at) (sym b)

      -- which is misplaced where it does not fit
      pub goes_wrong : fits_by walk kind section ≡ false → goes_at walk at ≡ misplaced_at at
      goes_wrong e = goes_first ∙ if_false (fits_by walk kind section) (after kind section) (misplaced_at at) e

      -- and is passed where it does
      pub goes_next : {stepped after : Walk} (next : ℕ) → fits_by walk kind section ≡ true → stepped ≡ stepped_by walk kind
          → after ≡ begun_by stepped section → Skips (ends 0) c s at next → goes_at walk at ≡ goes_at after next
      goes_next next e w a n =
          goes_first
          ∙ if_true (fits_by walk kind section) (after kind section) (misplaced_at at) e
          ∙ λ i. goes_on (length s) (sym (a ∙ ap (λ (v : Walk). begun_by v section) w) i) (segments (sym n.0 i))
