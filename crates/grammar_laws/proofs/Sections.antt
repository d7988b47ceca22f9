-- The rule that a UNS keeps where it stands, and the sections of a message as the grammar has them, each from the other. What passed is a
-- list of segments, the nearest first. Assumes nothing.
use Rattle.std.specs.Prelude.{if◌then◌else◌}
use mathlib.Core.Path.{◌≡◌, refl, sym, ap, ◌∙◌}
use mathlib.Core.Bool.{Bool, true, false, not, ◌&&◌, ◌||◌, false≢true}
use mathlib.Core.List.{List, [], ◌∷◌, ◌++◌, map, nil≢cons, head-eq_of_cons-eq, tail-eq_of_cons-eq}
use Rattle.lists.specs.Lists.{any, those}
use Rattle.values.specs.Tokens.{Segment}
use Rattle.segments.specs.declared.Kind.{Kind}
use Rattle.segments.specs.declared.Kind.TheVariants.{Unh, Uns, User}
use Rattle.segments.specs.declared.Section.{Section}
use Rattle.segments.specs.declared.Section.TheVariants.{None, Detail, Summary}
use Rattle.segments.specs.Kinds.{is}
use Rattle.segments.specs.Tags.{kind_of}
use Rattle.control_elements.specs.Sections.{section_of, is_section, markers_in, has_section, may_begin, section_rule}
use Rattle.walk_laws.proofs.Places.{each}
use Rattle.walk_laws.proofs.Sections.{markers_after, markers_step}
use Rattle.grammar_laws.specs.Grammar.{sections_in, Sections, no_section, detail_alone, summary_alone, detail_summary}
use Rattle.grammar_laws.proofs.Trail.{◌▸◌, ▸-map}
use Rattle.grammar_laws.proofs.Pieces.{number, passed_over}

-- ---- the sections that have begun in the message

-- the nearest first
abbrev pub begun_in : List Segment → List Section
begun_in past = map section_of (markers_in past)

-- by kind of segment: a message begins without one, and a UNS begins one
pub begun_header : (g : Segment) (past : List Segment) → kind_of g ≡ Unh → begun_in (g ∷ past) ≡ []
begun_header g past e = ap (map section_of) (markers_step g past ∙ ap (λ (k : Kind). markers_after k g (markers_in past)) e)

pub begun_marker : (g : Segment) (past : List Segment) → kind_of g ≡ Uns → begun_in (g ∷ past) ≡ section_of g ∷ begun_in past
begun_marker g past e = ap (map section_of) (markers_step g past ∙ ap (λ (k : Kind). markers_after k g (markers_in past)) e)

pub begun_user : (g : Segment) (past : List Segment) → kind_of g ≡ User → begun_in (g ∷ past) ≡ begun_in past
begun_user g past e = ap (map section_of) (markers_step g past ∙ ap (λ (k : Kind). markers_after k g (markers_in past)) e)

-- a segment of any kind but UNH
begun_other : (g : Segment) (past : List Segment) → is Unh (kind_of g) ≡ false
    → markers_in (g ∷ past) ≡ (if is Uns (kind_of g) then g ∷ markers_in past else markers_in past)
unfolding is
begun_other g past n = markers_step g past ∙ each At (λ h. refl) (λ h. refl) (λ h. absurd (false≢true (sym h))) (λ h. refl) (λ h. refl) (λ h. refl) (λ h. refl) (λ h. refl) (kind_of g) n
  where
    At : Kind → Type 0
    At kind = is Unh kind ≡ false → markers_after kind g (markers_in past) ≡ (if is Uns kind then g ∷ markers_in past else markers_in past)

-- those of segments that went by without a UNH among them
markers-▸ : (past gs : List Segment) → number Unh gs ≡ 0
    → markers_in (past ▸ gs) ≡ markers_in past ▸ those (λ g. is Uns (kind_of g)) gs
unfolding those
markers-▸ past [] h = refl
markers-▸ past (g ∷ gs) h =
    let other = passed_over Unh g gs h in
    markers-▸ (g ∷ past) gs other.1
    ∙ ap (λ (l : List Segment). l ▸ those (λ x. is Uns (kind_of x)) gs) (begun_other g past other.0)
    ∙ step (is Uns (kind_of g))
  where
    step : (b : Bool) → (if b then g ∷ markers_in past else markers_in past) ▸ those (λ x. is Uns (kind_of x)) gs
        ≡ markers_in past ▸ (if b then g ∷ those (λ x. is Uns (kind_of x)) gs else those (λ x. is Uns (kind_of x)) gs)
    step true = refl
    step false = refl

-- since an open UNH, the sections are those of the middle
pub begun_own : (head : Segment) (outer middle : List Segment) → kind_of head ≡ Unh → number Unh middle ≡ 0
    → begun_in (head ∷ outer ▸ middle) ≡ [] ▸ sections_in middle
begun_own head outer middle opening others =
    ap (map section_of) (markers-▸ (head ∷ outer) middle others)
    ∙ ▸-map section_of (markers_in (head ∷ outer)) (those (λ g. is Uns (kind_of g)) middle)
    ∙ ap (λ (l : List Section). l ▸ sections_in middle) (begun_header head outer opening)

-- ---- the rule, by the sections that have begun

has : List Section → Section → Bool
has sections section = any (is_section section) sections

may_follow : List Section → Section → Bool
may_follow sections None = false
may_follow sections Detail = not (has sections Detail) && not (has sections Summary)
may_follow sections Summary = not (has sections Summary)

has_begun : (section : Section) (past : List Segment) → has_section section past ≡ has (begun_in past) section
unfolding has_section has any
has_begun section past = step (markers_in past)
  where
    step : (gs : List Segment) → any (λ g. is_section section (section_of g)) gs ≡ any (is_section section) (map section_of gs)
    step [] = refl
    step (g ∷ gs) = ap (λ (b : Bool). is_section section (section_of g) || b) (step gs)

may_begin_lem : (past : List Segment) (section : Section) → may_begin past section ≡ may_follow (begun_in past) section
unfolding may_begin may_follow
may_begin_lem past None = refl
may_begin_lem past Detail = rw (has_begun Detail past, has_begun Summary past)
may_begin_lem past Summary = rw (has_begun Summary past)

-- no segment but UNS is asked
pub unmarked : (past : List Segment) (g : Segment) {kind : Kind} → kind_of g ≡ kind → is Uns kind ≡ false → section_rule past g ≡ true
unfolding section_rule
unmarked past g {kind} e h = ap (λ (b : Bool). not b || may_begin past (section_of g)) (ap (is Uns) e ∙ h)

marker_rule : (past : List Segment) (g : Segment) → kind_of g ≡ Uns → section_rule past g ≡ may_follow (begun_in past) (section_of g)
unfolding section_rule is
marker_rule past g e = ap (λ (k : Kind). not (is Uns k) || may_begin past (section_of g)) e ∙ may_begin_lem past (section_of g)

-- ---- from the rule to the grammar, and back

-- sections in order, and one more that may follow
more_sections : {sections : List Section} → Sections sections → (section : Section) → may_follow ([] ▸ sections) section ≡ true
    → Sections (sections ++ section ∷ [])
unfolding may_follow has any is_section
more_sections s None h = absurd (false≢true h)
more_sections no_section Detail h = detail_alone
more_sections no_section Summary h = summary_alone
more_sections detail_alone Detail h = absurd (false≢true h)
more_sections detail_alone Summary h = detail_summary
more_sections summary_alone Detail h = absurd (false≢true h)
more_sections summary_alone Summary h = absurd (false≢true h)
more_sections detail_summary Detail h = absurd (false≢true h)
more_sections detail_summary Summary h = absurd (false≢true h)

-- a UNS that keeps the rule is one section more
pub marker_more : (past : List Segment) (g : Segment) (sections : List Section) → kind_of g ≡ Uns → section_rule past g ≡ true
    → begun_in past ≡ [] ▸ sections → Sections sections → Sections (sections ++ section_of g ∷ [])
marker_more past g sections e r b s =
    more_sections s (section_of g) (ap (λ (l : List Section). may_follow l (section_of g)) (sym b) ∙ sym (marker_rule past g e) ∙ r)

no_more : (before : List Section) (section : Section) (after : List Section) → [] ≡ before ++ section ∷ after → ⊥
no_more [] section after e = nil≢cons e
no_more (x ∷ xs) section after e = nil≢cons e

-- each of sections in order may follow those before it
next_section : {sections : List Section} → Sections sections → (before : List Section) (section : Section) (after : List Section)
    → sections ≡ before ++ section ∷ after → may_follow ([] ▸ before) section ≡ true
unfolding may_follow has any is_section
next_section no_section before section after e = absurd (no_more before section after e)
next_section detail_alone [] section after e = ap (may_follow []) (sym (head-eq_of_cons-eq e))
next_section detail_alone (x ∷ xs) section after e = absurd (no_more xs section after (tail-eq_of_cons-eq e))
next_section summary_alone [] section after e = ap (may_follow []) (sym (head-eq_of_cons-eq e))
next_section summary_alone (x ∷ xs) section after e = absurd (no_more xs section after (tail-eq_of_cons-eq e))
next_section detail_summary [] section after e = ap (may_follow []) (sym (head-eq_of_cons-eq e))
next_section detail_summary (x ∷ []) section after e =
    λ i. may_follow (sym (head-eq_of_cons-eq e) i ∷ []) (sym (head-eq_of_cons-eq (tail-eq_of_cons-eq e)) i)
next_section detail_summary (x ∷ y ∷ ys) section after e =
    absurd (no_more ys section after (tail-eq_of_cons-eq (tail-eq_of_cons-eq e)))

-- a UNS of a message whose sections are in order keeps the rule
pub marker_next : (past : List Segment) (g : Segment) (before after : List Section) → kind_of g ≡ Uns
    → begun_in past ≡ [] ▸ before → Sections (before ++ section_of g ∷ after) → section_rule past g ≡ true
marker_next past g before after e b s =
    marker_rule past g e ∙ ap (λ (l : List Section). may_follow l (section_of g)) b ∙ next_section s before (section_of g) after refl

-- ---- the sections of a middle, one segment more at either end

pub sections_append : (xs ys : List Segment) → sections_in (xs ++ ys) ≡ sections_in xs ++ sections_in ys
unfolding those
sections_append [] ys = refl
sections_append (x ∷ xs) ys = step (is Uns (kind_of x)) (sections_append xs ys)
  where
    step : (b : Bool) → sections_in (xs ++ ys) ≡ sections_in xs ++ sections_in ys
        → map section_of (if b then x ∷ those (λ g. is Uns (kind_of g)) (xs ++ ys) else those (λ g. is Uns (kind_of g)) (xs ++ ys))
        ≡ map section_of (if b then x ∷ those (λ g. is Uns (kind_of g)) xs else those (λ g. is Uns (kind_of g)) xs) ++ sections_in ys
    step true ih = ap (λ (l : List Section). section_of x ∷ l) ih
    step false ih = ih

pub sections_marker : (g : Segment) (gs : List Segment) → kind_of g ≡ Uns → sections_in (g ∷ gs) ≡ section_of g ∷ sections_in gs
unfolding those is
sections_marker g gs e =
    ap (λ (k : Kind). map section_of (if is Uns k then g ∷ those (λ x. is Uns (kind_of x)) gs else those (λ x. is Uns (kind_of x)) gs)) e

pub sections_user : (g : Segment) (gs : List Segment) → kind_of g ≡ User → sections_in (g ∷ gs) ≡ sections_in gs
unfolding those is
sections_user g gs e =
    ap (λ (k : Kind). map section_of (if is Uns k then g ∷ those (λ x. is Uns (kind_of x)) gs else those (λ x. is Uns (kind_of x)) gs)) e
