-- The section that began last in the message tells which section may begin, where each UNS that passed kept the rule; and it is what the
-- walk keeps. What passed is a list of segments, the nearest first. Assumes nothing.
use Rattle.std.specs.Prelude.{if◌then◌else◌}
use mathlib.Core.Path.{◌≡◌, refl, sym, ap, ap₂, ◌∙◌}
use mathlib.Core.Bool.{Bool, true, not, ◌&&◌, ◌||◌, false≢true, and-false}
use mathlib.Core.List.{List, [], ◌∷◌, map}
use native.Mathlib.Omega.{arith}
use borrow.Author.Tests.{le-ltb}
use Rattle.lists.specs.Lists.{any, those, through, at, maybe}
use Rattle.lists.proofs.Texts.{and_left, and_right}
use Rattle.values.specs.Tokens.{Segment}
use Rattle.segments.specs.declared.Kind.{Kind}
use Rattle.segments.specs.declared.Kind.TheVariants.{Unb, Ung, Unh, Uns, Unt, Une, Unz, User}
use Rattle.segments.specs.declared.Section.{Section}
use Rattle.segments.specs.declared.Section.TheVariants.{None, Detail, Summary}
use Rattle.segments.specs.declared.Walk.{Walk}
use Rattle.segments.specs.Kinds.{is}
use Rattle.segments.specs.Tags.{kind_of}
use Rattle.segments.specs.Order.{allowed, walk_over}
use Rattle.control_elements.specs.Sections.{section_of, turn, is_section, markers_in, has_section, may_begin, section_rule, last_section}
use Rattle.walk_laws.specs.Walking.{walked, marked, follows, section_begun, marks_by, fits_by, section_kept, stepped_by, later_section, begun_by}
use Rattle.walk_laws.proofs.Places.{each}
use Rattle.walk_laws.proofs.Walks.{allowed_over, stepped_over, begun_over}

-- ---- one segment more

-- the UNS segments of the message after a segment of a kind
abbrev pub markers_after : Kind → Segment → List Segment → List Segment
markers_after Unb g markers = markers
markers_after Ung g markers = markers
markers_after Unh g markers = []
markers_after Uns g markers = g ∷ markers
markers_after Unt g markers = markers
markers_after Une g markers = markers
markers_after Unz g markers = markers
markers_after User g markers = markers

pub markers_step : (g : Segment) (past : List Segment) → markers_in (g ∷ past) ≡ markers_after (kind_of g) g (markers_in past)
unfolding markers_in those through is
markers_step g past = each At refl refl refl refl refl refl refl refl (kind_of g)
  where
    since : List Segment
    since = through (λ h. is Unh (kind_of h)) past

    At : Kind → Type 0
    At kind =
        (if is Uns kind then g ∷ those (λ h. is Uns (kind_of h)) (if is Unh kind then [] else since)
        else those (λ h. is Uns (kind_of h)) (if is Unh kind then [] else since))
        ≡ markers_after kind g (those (λ h. is Uns (kind_of h)) since)

-- ---- what the last section tells

-- by the UNS segments of the message: the one that began last tells which may begin
abbrev Tells : List Segment → Type 0
Tells markers =
    let last = maybe None section_of (at markers 0) in
    let has : Section → Bool = λ section. any (λ g. is_section section (section_of g)) markers in
    ((not (has Detail) && not (has Summary)) ≡ follows last Detail) × (not (has Summary) ≡ follows last Summary)

tells_none : Tells []
unfolding any at maybe
tells_none = (refl, refl)

tells_more : (g : Segment) (past : List Segment) → may_begin past (section_of g) ≡ true → Tells (g ∷ markers_in past)
unfolding may_begin has_section is_section any at maybe
tells_more g past h = step (section_of g) h
  where
    detail : Bool
    detail = any (λ x. is_section Detail (section_of x)) (markers_in past)

    summary : Bool
    summary = any (λ x. is_section Summary (section_of x)) (markers_in past)

    step : (section : Section) → may_begin past section ≡ true
        → ((not (is_section Detail section || detail) && not (is_section Summary section || summary)) ≡ follows section Detail)
        × (not (is_section Summary section || summary) ≡ follows section Summary)
    step None k = absurd (false≢true k)
    step Detail k = (refl, and_right (not detail) (not summary) k)
    step Summary k = (and-false (not detail), refl)

-- where each UNS that passed kept the rule
tells : (past : List Segment) → marked past ≡ true → Tells (markers_in past)
unfolding marked section_rule markers_in through those is
tells [] h = tells_none
tells (g ∷ past) h =
    let rule = and_left (section_rule past g) (marked past) h in
    let before = tells past (and_right (section_rule past g) (marked past) h) in
    rw (markers_step g past) (step (kind_of g) rule before)
  where
    step : (kind : Kind) → (not (is Uns kind) || may_begin past (section_of g)) ≡ true → Tells (markers_in past)
        → Tells (markers_after kind g (markers_in past))
    step Unb r before = before
    step Ung r before = before
    step Unh r before = tells_none
    step Uns r before = tells_more g past r
    step Unt r before = before
    step Une r before = before
    step Unz r before = before
    step User r before = before

begins_after : (past : List Segment) → marked past ≡ true → (section : Section) → follows (last_section past) section ≡ may_begin past section
unfolding may_begin has_section last_section
begins_after past h None = le-ltb (turn (last_section past)) 0 (omega arith)
begins_after past h Detail = sym (tells past h).0
begins_after past h Summary = sym (tells past h).1

-- ---- the walk

-- the walk knows whether a segment keeps the rule
marks_over : (past : List Segment) (kinds : List Kind) (g : Segment) → marked past ≡ true
    → marks_by (walk_over (last_section past) kinds) (kind_of g) (section_begun (kind_of g) g) ≡ section_rule past g
unfolding section_rule is walk_over
marks_over past kinds g h = each At refl refl refl (begins_after past h (section_of g)) refl refl refl refl (kind_of g)
  where
    At : Kind → Type 0
    At kind = marks_by (walk_over (last_section past) kinds) kind (section_begun kind g) ≡ (not (is Uns kind) || may_begin past (section_of g))

-- and whether the segment fits
pub fits_over : (past : List Segment) (g : Segment) → marked past ≡ true
    → fits_by (walk_over (last_section past) (map kind_of past)) (kind_of g) (section_begun (kind_of g) g)
    ≡ (allowed (map kind_of past) (kind_of g) && section_rule past g)
fits_over past g h =
    ap₂ ◌&&◌ (allowed_over (last_section past) (map kind_of past) (kind_of g)) (marks_over past (map kind_of past) g h)

-- the section after one segment more, which kept the rule
section_step : (past : List Segment) (g : Segment) → section_rule past g ≡ true
    → later_section (section_kept (kind_of g) (last_section past)) (section_begun (kind_of g) g) ≡ last_section (g ∷ past)
unfolding section_rule is last_section maybe at may_begin
section_step past g h = step (kind_of g) h ∙ sym (ap (λ (markers : List Segment). maybe None section_of (at markers 0)) (markers_step g past))
  where
    begun : (section : Section) → may_begin past section ≡ true → later_section (last_section past) section ≡ section
    begun None r = absurd (false≢true r)
    begun Detail r = refl
    begun Summary r = refl

    step : (kind : Kind) → (not (is Uns kind) || may_begin past (section_of g)) ≡ true
        → later_section (section_kept kind (last_section past)) (section_begun kind g)
        ≡ maybe None section_of (at (markers_after kind g (markers_in past)) 0)
    step Unb r = refl
    step Ung r = refl
    step Unh r = refl
    step Uns r = begun (section_of g) r
    step Unt r = refl
    step Une r = refl
    step Unz r = refl
    step User r = refl

-- the walk after one segment more, where each was allowed and kept the rule where it stood
pub passed_over : (past : List Segment) (g : Segment) → walked (map kind_of past) ≡ true → allowed (map kind_of past) (kind_of g) ≡ true
    → section_rule past g ≡ true
    → begun_by (stepped_by (walk_over (last_section past) (map kind_of past)) (kind_of g)) (section_begun (kind_of g) g)
    ≡ walk_over (last_section (g ∷ past)) (map kind_of (g ∷ past))
passed_over past g h a r =
    ap (λ (w : Walk). begun_by w (section_begun (kind_of g) g)) (stepped_over (last_section past) (map kind_of past) (kind_of g) h a)
    ∙ begun_over (section_kept (kind_of g) (last_section past)) (section_begun (kind_of g) g) (map kind_of (g ∷ past))
    ∙ ap (λ (section : Section). walk_over section (map kind_of (g ∷ past))) (section_step past g r)
