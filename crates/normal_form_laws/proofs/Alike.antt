-- Two rows of segments with equal contents: what a test that goes by contents does not refuse in one row, it does not refuse in
-- the other. Assumes nothing.
use Rattle.std.specs.Prelude.{if◌then◌else◌}
use Prim.Native.Nat.{ℕ}
use mathlib.Core.Path.{◌≡◌, refl, sym, ap, ap₂, fun_ext, ◌∙◌}
use mathlib.Core.Bool.{Bool, true, false, not, ◌&&◌, ◌||◌}
use mathlib.Core.List.{List, [], ◌∷◌, map, map-map, append-eq-nil_iff, nil≢cons, cons≢nil, head-eq_of_cons-eq, tail-eq_of_cons-eq}
use mathlib.Core.Option.{Option, none, some}
use lib.Dec.{eqb}
use Rattle.lists.specs.Lists.{any, those, through, first, at, maybe}
use Rattle.refusals.specs.Refusals.{place_if}
use Rattle.refusals.proofs.Stages.{place_none}
use Rattle.values.specs.Tokens.{Segment, start}
use Rattle.values.specs.Trimming.{contents_of}
use Rattle.segments.specs.declared.Kind.{Kind}
use Rattle.segments.specs.declared.Kind.TheVariants.{Unh, Uns}
use Rattle.segments.specs.declared.Section.{Section}
use Rattle.segments.specs.declared.Section.TheVariants.{None, Detail, Summary}
use Rattle.segments.specs.Kinds.{is, kind_named}
use Rattle.segments.specs.Tags.{kind_of}
use Rattle.segments.specs.Order.{allowed}
use Rattle.control_elements.specs.Positions.{positions_of}
use Rattle.control_elements.specs.Control.{control_element, stands_well, control_rule, header_of, reference_of, same_value, reference_differs, decimal, true_count, count_of, count_wrong}
use Rattle.control_elements.specs.Sections.{section_named, section_of, is_section, markers_in, has_section, may_begin, section_rule}
use Rattle.stages.specs.Places.{starts_where, misplaced, bad_control}
use Rattle.normal_form_laws.proofs.Tags.{first_value, tag_first}

-- the segments have equal contents, one by one
abbrev pub Alike : List Segment → List Segment → Type 0
Alike gs hs = map contents_of gs ≡ map contents_of hs

-- ---- what goes by contents

module _ (g h : Segment) (e : contents_of g ≡ contents_of h) where
  pub kind_alike : kind_of g ≡ kind_of h
  unfolding kind_of
  kind_alike = ap kind_named (tag_first g ∙ ap first_value e ∙ sym (tag_first h))

  element_alike : (position : ℕ) → control_element g position ≡ control_element h position
  unfolding control_element
  element_alike position = rw e

  pub control_alike : control_rule g ≡ control_rule h
  unfolding control_rule stands_well
  control_alike =
      let positions = positions_of (kind_of h) in
      rw (kind_alike, element_alike positions.count, element_alike positions.reference)

  section_alike : section_of g ≡ section_of h
  unfolding section_of
  section_alike = ap (maybe None section_named) (element_alike 1)

  reference_alike : reference_of g ≡ reference_of h
  unfolding reference_of
  reference_alike = rw kind_alike (element_alike (positions_of (kind_of h)).reference)

  count_alike : count_of g ≡ count_of h
  unfolding count_of
  count_alike = rw kind_alike (element_alike (positions_of (kind_of h)).count)

pub kinds_alike : (gs hs : List Segment) → Alike gs hs → map kind_of gs ≡ map kind_of hs
unfolding kind_of
kinds_alike gs hs e = by_contents gs ∙ ap (map (λ k. kind_named (first_value k))) e ∙ sym (by_contents hs)
  where
    by_contents : (xs : List Segment) → map kind_of xs ≡ map (λ k. kind_named (first_value k)) (map contents_of xs)
    by_contents xs =
        ap (λ (f : Segment → Kind). map f xs) (fun_ext (λ x. ap kind_named (tag_first x)))
        ∙ sym (map-map (λ k. kind_named (first_value k)) contents_of xs)

-- what is related for two segments with equal contents is related for the first of two such rows, if there is one
pub first_alike : (R : Option Segment → Option Segment → Type 0) → R none none
    → ((g h : Segment) → contents_of g ≡ contents_of h → R (some g) (some h))
    → (gs hs : List Segment) → Alike gs hs → R (at gs 0) (at hs 0)
unfolding at
first_alike R n r [] [] e = n
first_alike R n r [] (h ∷ hs) e = absurd (nil≢cons e)
first_alike R n r (g ∷ gs) [] e = absurd (cons≢nil e)
first_alike R n r (g ∷ gs) (h ∷ hs) e = r g h (head-eq_of_cons-eq e)

-- the reference of the nearest segment of a kind
nearest_alike : (kind : Kind) (gs hs : List Segment) → Alike gs hs
    → maybe none reference_of (first (λ g. is kind (kind_of g)) gs) ≡ maybe none reference_of (first (λ g. is kind (kind_of g)) hs)
unfolding first maybe
nearest_alike kind [] [] e = refl
nearest_alike kind [] (h ∷ hs) e = absurd (nil≢cons e)
nearest_alike kind (g ∷ gs) [] e = absurd (cons≢nil e)
nearest_alike kind (g ∷ gs) (h ∷ hs) e =
    let same : contents_of g ≡ contents_of h = head-eq_of_cons-eq e in
    rw (kind_alike g h same) (step (is kind (kind_of h)) (reference_alike g h same) (nearest_alike kind gs hs (tail-eq_of_cons-eq e)))
  where
    step : (b : Bool) → reference_of g ≡ reference_of h
        → maybe none reference_of (first (λ x. is kind (kind_of x)) gs) ≡ maybe none reference_of (first (λ x. is kind (kind_of x)) hs)
        → maybe none reference_of (if b then some g else first (λ x. is kind (kind_of x)) gs)
        ≡ maybe none reference_of (if b then some h else first (λ x. is kind (kind_of x)) hs)
    step true r ih = r
    step false r ih = ih

-- whether a section has begun in the message
section_begun_lem : (section : Section) (gs hs : List Segment) → Alike gs hs → has_section section gs ≡ has_section section hs
unfolding has_section markers_in those through any
section_begun_lem section [] [] e = refl
section_begun_lem section [] (h ∷ hs) e = absurd (nil≢cons e)
section_begun_lem section (g ∷ gs) [] e = absurd (cons≢nil e)
section_begun_lem section (g ∷ gs) (h ∷ hs) e =
    let same : contents_of g ≡ contents_of h = head-eq_of_cons-eq e in
    rw (kind_alike g h same) (step (is Uns (kind_of h)) (is Unh (kind_of h)) (ap (is_section section) (section_alike g h same)) (section_begun_lem section gs hs (tail-eq_of_cons-eq e)))
  where
    -- the UNS segments since UNH
    since : List Segment → List Segment
    since xs = through (λ x. is Unh (kind_of x)) xs

    step : (marker header : Bool) → is_section section (section_of g) ≡ is_section section (section_of h)
        → has_section section gs ≡ has_section section hs
        → any (λ x. is_section section (section_of x))
        (if marker then g ∷ those (λ x. is Uns (kind_of x)) (if header then [] else since gs)
        else those (λ x. is Uns (kind_of x)) (if header then [] else since gs))
        ≡ any (λ x. is_section section (section_of x))
        (if marker then h ∷ those (λ x. is Uns (kind_of x)) (if header then [] else since hs)
        else those (λ x. is Uns (kind_of x)) (if header then [] else since hs))
    step true true s ih = ap (λ (b : Bool). b || false) s
    step true false s ih = ap₂ ◌||◌ s ih
    step false true s ih = refl
    step false false s ih = ih

-- the rule of sections
pub section_rule_lem : (past past' : List Segment) (g h : Segment) → Alike past past' → contents_of g ≡ contents_of h
    → section_rule past g ≡ section_rule past' h
unfolding section_rule may_begin
section_rule_lem past past' g h p e =
    rw (kind_alike g h e, section_alike g h e) (ap (λ (b : Bool). not (is Uns (kind_of h)) || b) (step (section_of h)))
  where
    step : (section : Section) → may_begin past section ≡ may_begin past' section
    step None = refl
    step Detail = rw (section_begun_lem Detail past past' p, section_begun_lem Summary past past' p)
    step Summary = rw (section_begun_lem Summary past past' p)

-- ---- tests that go by contents

-- the test has the same answer for segments with equal contents after segments with equal contents
abbrev pub ByContents : (List Segment → Segment → Bool) → Type 0
ByContents fails =
    (past past' : List Segment) (g h : Segment) → Alike past past' → contents_of g ≡ contents_of h → fails past g ≡ fails past' h

-- such a test that refuses nothing in one row refuses nothing in the other
pub starts_alike : (fails : List Segment → Segment → Bool) → ByContents fails → (past past' gs hs : List Segment)
    → Alike past past' → Alike gs hs → starts_where fails past gs ≡ [] → starts_where fails past' hs ≡ []
unfolding starts_where
starts_alike fails by past past' [] [] p e k = refl
starts_alike fails by past past' [] (h ∷ hs) p e k = absurd (nil≢cons e)
starts_alike fails by past past' (g ∷ gs) [] p e k = absurd (cons≢nil e)
starts_alike fails by past past' (g ∷ gs) (h ∷ hs) p e k =
    let same : contents_of g ≡ contents_of h = head-eq_of_cons-eq e in
    let parts = (append-eq-nil_iff {p = place_if (fails past g) (start g)} {q = starts_where fails (g ∷ past) gs}).0 k in
    (append-eq-nil_iff {p = place_if (fails past' h) (start h)} {q = starts_where fails (h ∷ past') hs}).1 (
      (place_none (fails past' h) (start h)).1
          (sym (by past past' g h p same) ∙ (place_none (fails past g) (start g)).0 parts.0),
      starts_alike fails by (g ∷ past) (h ∷ past') gs hs (ap₂ ◌∷◌ same p) (tail-eq_of_cons-eq e) parts.1,
    )

pub order_by_contents : ByContents misplaced
order_by_contents past past' g h p e =
    ap₂ (λ (a b : Bool). not (a && b))
    (ap₂ allowed (kinds_alike past past' p) (kind_alike g h e))
    (section_rule_lem past past' g h p e)

pub controls_by_contents : ByContents bad_control
controls_by_contents past past' g h p e = ap not (control_alike g h e)

pub references_by_contents : ByContents reference_differs
unfolding reference_differs
references_by_contents past past' g h p e =
    ap₂ (λ (f : Kind → Bool) (o : Option Kind). maybe false f o)
    (fun_ext (λ header.
    ap₂ (λ (r q : Option (List ℕ)). not (same_value r q)) (reference_alike g h e) (nearest_alike header past past' p)))
    (ap header_of (kind_alike g h e))

pub counts_by_contents : ByContents count_wrong
unfolding count_wrong
counts_by_contents past past' g h p e =
    ap₂ (λ (o : Option (List ℕ)) (n : Option ℕ). maybe false (λ count. not (eqb (maybe 0 decimal o) count)) n)
    (count_alike g h e)
    (ap₂ true_count (kind_alike g h e) (kinds_alike past past' p))
