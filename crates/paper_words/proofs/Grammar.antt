-- The record's grammar of segments is that of `grammar_laws`, and what has been allowed so far begins an interchange. What passed is a list of
-- segments, the nearest first. Assumes nothing.
use Prim.Native.Nat.{ℕ, ◌<◌}
use mathlib.Core.Path.{◌≡◌, refl, sym, ap, subst, ◌∙◌}
use mathlib.Core.Bool.{Bool, true, false, not, ◌&&◌, false≢true}
use mathlib.Core.Logic.{◌⊎◌, inl, inr, ⊎_elim, ◌↔◌}
use mathlib.Core.List.{List, [], ◌∷◌, ◌++◌, cons≢nil, head-eq_of_cons-eq, tail-eq_of_cons-eq}
use mathlib.Core.Option.{some}
use native.Mathlib.Omega.{arith}
use lib.Dec.{ltb}
use borrow.Author.Tests.{ltb-true, ltb-false, not-false}
use Rattle.lists.specs.Lists.{same, all, those, through, at, gather}
use Rattle.lists.proofs.Texts.{and_left, and_right, and_both}
use Rattle.lists.proofs.Tests.{says_either}
use Rattle.values.specs.Tokens.{byte, separator, Segment, ends}
use Rattle.values.specs.Values.{byte_of, bytes_of}
use Rattle.values.specs.Trimming.{contents_of}
use Rattle.segments.specs.declared.Kind.{Kind}
use Rattle.segments.specs.declared.Kind.TheVariants.{Unb, Ung, Unh, Uns, Unt, Une, Unz, User}
use Rattle.segments.specs.declared.Standing.{Standing}
use Rattle.segments.specs.declared.Standing.TheVariants.{BeforeInterchange, BetweenGroups, InGroup, InGroupMessage, InMessage, AfterInterchange}
use Rattle.segments.specs.declared.Section.{Section}
use Rattle.segments.specs.declared.Section.TheVariants.{None, Detail, Summary}
use Rattle.segments.specs.Kinds.{is, kind_named}
use Rattle.segments.specs.Tags.{tag_piece, tag_of, kind_of}
use Rattle.segments.specs.Order.{messages_in, groups_in, messages_since_group, standing, allowed_at, allowed, is_complete}
use Rattle.segments.proofs.Words.{is_says}
use Rattle.control_elements.specs.Sections.{section_of, is_section, section_rule}
use Rattle.control_elements.proofs.Sections.{detail_says, summary_says}
use Rattle.stages.specs.Places.{starts_where, misplaced}
use Rattle.walk_laws.specs.Walking.{walked, stands_after}
use Rattle.walk_laws.proofs.Places.{stands_step}
use Rattle.grammar_laws.specs.Grammar.{Frame, OneOrMore, one, more, is_inner, Inner, sections_in, Sections, no_section, detail_alone, summary_alone, detail_summary, Sectioned, Ordered}
use Rattle.grammar_laws.proofs.Trail.{◌▸◌, ▸-append, ▸-map, Each, none_yet, passed, each_map, each_before}
use Rattle.grammar_laws.proofs.Order.{close_message, Allowed, open_interchange, open_group, open_message, close_interchange, open_group_message, close_group, in_group_message, in_message_lem, allowed_test, standing_complete}
use Rattle.grammar_laws.proofs.Pieces.{kinds}
use Rattle.grammar_laws.proofs.Sections.{unmarked, sections_marker, sections_user}
use Rattle.grammar_laws.proofs.Passing.{walks, each_clear, clear_each}
use Rattle.grammar_laws.proofs.Theorem.{order_theorem}
use Rattle.paper_words.specs.PaperWords.{Framed, Inside, Message, Group, Interchange}

-- ---- the sections of a message

-- the section that a UNS names, by its letter
detail : (g : Segment) → (at (contents_of g) 1 ≡ some (((68 ∷ []) ∷ []) ∷ [])) ↔ (section_of g ≡ Detail)
unfolding is_section
detail g = (λ e. named (section_of g) ((detail_says g).1 e), λ e. (detail_says g).0 (ap (is_section Detail) e))
  where
    named : (section : Section) → is_section Detail section ≡ true → section ≡ Detail
    named None h = absurd (false≢true h)
    named Detail h = refl
    named Summary h = absurd (false≢true h)

summary : (g : Segment) → (at (contents_of g) 1 ≡ some (((83 ∷ []) ∷ []) ∷ [])) ↔ (section_of g ≡ Summary)
unfolding is_section
summary g = (λ e. named (section_of g) ((summary_says g).1 e), λ e. (summary_says g).0 (ap (is_section Summary) e))
  where
    named : (section : Section) → is_section Summary section ≡ true → section ≡ Summary
    named None h = absurd (false≢true h)
    named Detail h = absurd (false≢true h)
    named Summary h = refl

-- one segment more inside a message
inner_kind : (g : Segment) → (is_inner g ≡ true) ↔ ((kind_of g ≡ User) ⊎ (kind_of g ≡ Uns))
unfolding is_inner
inner_kind g = says_either (is User (kind_of g)) (is Uns (kind_of g)) (is_says User (kind_of g)) (is_says Uns (kind_of g))

inner_more : (g : Segment) (gs : List Segment) → (kind_of g ≡ User) ⊎ (kind_of g ≡ Uns) → Inner gs → Inner (g ∷ gs)
unfolding all
inner_more g gs k i = and_both (is_inner g) (all is_inner gs) ((inner_kind g).1 k) i

inner_apart : (g : Segment) (gs : List Segment) → Inner (g ∷ gs) → ((kind_of g ≡ User) ⊎ (kind_of g ≡ Uns)) × Inner gs
unfolding all
inner_apart g gs i = ((inner_kind g).0 (and_left (is_inner g) (all is_inner gs) i), and_right (is_inner g) (all is_inner gs) i)

marked_so : (g : Segment) (gs : List Segment) (section : Section) (rest : List Section) → kind_of g ≡ Uns → section_of g ≡ section
    → sections_in gs ≡ rest → sections_in (g ∷ gs) ≡ section ∷ rest
marked_so g gs section rest k e r = sections_marker g gs k ∙ ap (λ (x : Section). x ∷ sections_in gs) e ∙ ap (λ (l : List Section). section ∷ l) r

-- with no letter to come, with S to come, with D and S to come
none_there : {gs : List Segment} → Inside [] gs → Inner gs × (sections_in gs ≡ [])
unfolding all those
none_there (Inside.end letters) = (refl, refl)
none_there (Inside.user letters g gs k i) =
    let (inner, none) = none_there i in (inner_more g gs (inl k) inner, sections_user g gs k ∙ none)

one_there : {gs : List Segment} → Inside (83 ∷ []) gs → Inner gs × ((sections_in gs ≡ []) ⊎ (sections_in gs ≡ Summary ∷ []))
unfolding all those
one_there (Inside.end letters) = (refl, inl refl)
one_there (Inside.user letters g gs k i) =
    let (inner, found) = one_there i in
    (inner_more g gs (inl k) inner, ⊎_elim (λ e. inl (sections_user g gs k ∙ e)) (λ e. inr (sections_user g gs k ∙ e)) found)
one_there (Inside.marker letter letters g gs k s i) =
    let (inner, none) = none_there i in (inner_more g gs (inr k) inner, inr (marked_so g gs Summary [] k ((summary g).0 s) none))
one_there (Inside.without letter letters gs i) = let (inner, none) = none_there i in (inner, inl none)

two_there : {gs : List Segment} → Inside (68 ∷ 83 ∷ []) gs → Sectioned gs
unfolding all those
two_there (Inside.end letters) = (refl, no_section)
two_there (Inside.user letters g gs k i) =
    let (inner, found) = two_there i in (inner_more g gs (inl k) inner, subst Sections (sym (sections_user g gs k)) found)
two_there (Inside.marker letter letters g gs k d i) =
    let (inner, found) = one_there i in (
      inner_more g gs (inr k) inner,
      ⊎_elim
          (λ e. subst Sections (sym (marked_so g gs Detail [] k ((detail g).0 d) e)) detail_alone)
          (λ e. subst Sections (sym (marked_so g gs Detail (Summary ∷ []) k ((detail g).0 d) e)) detail_summary)
          found,
    )
two_there (Inside.without letter letters gs i) =
    let (inner, found) = one_there i in
    (inner, ⊎_elim (λ e. subst Sections (sym e) no_section) (λ e. subst Sections (sym e) summary_alone) found)

none_back : (gs : List Segment) → Inner gs → sections_in gs ≡ [] → Inside [] gs
none_back [] i e = Inside.end []
none_back (g ∷ gs) i e = step (inner_apart g gs i).0 (none_back gs (inner_apart g gs i).1)
  where
    step : (kind_of g ≡ User) ⊎ (kind_of g ≡ Uns) → (sections_in gs ≡ [] → Inside [] gs) → Inside [] (g ∷ gs)
    step (inl k) rest = Inside.user [] g gs k (rest (sym (sections_user g gs k) ∙ e))
    step (inr k) rest = absurd (cons≢nil (sym (sections_marker g gs k) ∙ e))

one_back : (gs : List Segment) → Inner gs → (sections_in gs ≡ []) ⊎ (sections_in gs ≡ Summary ∷ []) → Inside (83 ∷ []) gs
one_back [] i e = Inside.end (83 ∷ [])
one_back (g ∷ gs) i e = step (inner_apart g gs i).0 e (one_back gs (inner_apart g gs i).1)
  where
    step : (kind_of g ≡ User) ⊎ (kind_of g ≡ Uns) → (sections_in (g ∷ gs) ≡ []) ⊎ (sections_in (g ∷ gs) ≡ Summary ∷ [])
        → ((sections_in gs ≡ []) ⊎ (sections_in gs ≡ Summary ∷ []) → Inside (83 ∷ []) gs) → Inside (83 ∷ []) (g ∷ gs)
    step (inl k) e rest =
        let same = sym (sections_user g gs k) in
        Inside.user (83 ∷ []) g gs k (rest (⊎_elim (λ q. inl (same ∙ q)) (λ q. inr (same ∙ q)) e))
    step (inr k) (inl e) rest = absurd (cons≢nil (sym (sections_marker g gs k) ∙ e))
    step (inr k) (inr e) rest =
        let both = sym (sections_marker g gs k) ∙ e in
        Inside.marker 83 [] g gs k ((summary g).1 (head-eq_of_cons-eq both)) (none_back gs (inner_apart g gs i).1 (tail-eq_of_cons-eq both))

two_back : (gs : List Segment) → Inner gs → Sections (sections_in gs) → Inside (68 ∷ 83 ∷ []) gs
two_back [] i e = Inside.end (68 ∷ 83 ∷ [])
two_back (g ∷ gs) i s = step (inner_apart g gs i).0 (sections_in (g ∷ gs)) refl s (two_back gs inner)
  where
    inner : Inner gs
    inner = (inner_apart g gs i).1

    step : (kind_of g ≡ User) ⊎ (kind_of g ≡ Uns) → (sections : List Section) → sections_in (g ∷ gs) ≡ sections → Sections sections
        → (Sections (sections_in gs) → Inside (68 ∷ 83 ∷ []) gs) → Inside (68 ∷ 83 ∷ []) (g ∷ gs)
    step (inl k) sections e s rest =
        Inside.user (68 ∷ 83 ∷ []) g gs k (rest (subst Sections (sym e ∙ sections_user g gs k) s))
    step (inr k) sections e s rest = by (sym (sections_marker g gs k) ∙ e) s
      where
        by : {sections : List Section} → section_of g ∷ sections_in gs ≡ sections → Sections sections → Inside (68 ∷ 83 ∷ []) (g ∷ gs)
        by q no_section = absurd (cons≢nil q)
        by q detail_alone =
            Inside.marker 68 (83 ∷ []) g gs k ((detail g).1 (head-eq_of_cons-eq q)) (one_back gs inner (inl (tail-eq_of_cons-eq q)))
        by q summary_alone =
            Inside.without 68 (83 ∷ []) (g ∷ gs)
            (Inside.marker 83 [] g gs k ((summary g).1 (head-eq_of_cons-eq q)) (none_back gs inner (tail-eq_of_cons-eq q)))
        by q detail_summary =
            Inside.marker 68 (83 ∷ []) g gs k ((detail g).1 (head-eq_of_cons-eq q)) (one_back gs inner (inr (tail-eq_of_cons-eq q)))

-- ---- frames

module _ {header trailer : Kind} {Within Middle : List Segment → Type 0} where
  frame_there : ((gs : List Segment) → Within gs → Middle gs) → {gs : List Segment} → Framed header trailer Within gs
      → Frame header trailer Middle (λ head middle tail. Unit {0}) gs
  frame_there f (Framed.framed head tail inside o w c) =
      record { head = head; middle = inside; tail = tail; shape = refl; opening = o; closing = c; inside = f inside w; asked = tt }

  frame_back : ((gs : List Segment) → Middle gs → Within gs) → {gs : List Segment}
      → Frame header trailer Middle (λ head middle tail. Unit {0}) gs → Framed header trailer Within gs
  frame_back f r =
      subst (Framed header trailer Within) (sym r.shape)
      (Framed.framed r.head r.tail r.middle r.opening (f r.middle r.inside) r.closing)

runs : {P Q : List Segment → Type 0} → ((gs : List Segment) → P gs → Q gs) → {gs : List Segment} → OneOrMore P gs → OneOrMore Q gs
runs f (one {piece} h) = one (f piece h)
runs f (more {before} {piece} hs h) = more (runs f hs) (f piece h)

pub ordered_is : (gs : List Segment) → Interchange gs ↔ Ordered gs
ordered_is gs = (
  frame_there (λ inside. ⊎_elim (λ g. inl (runs group_there g)) (λ m. inr (runs message_there m))),
  frame_back (λ inside. ⊎_elim (λ g. inl (runs group_back g)) (λ m. inr (runs message_back m))),
)
  where
    message_there : (xs : List Segment) → Message xs → Frame Unh Unt Sectioned (λ head middle tail. Unit {0}) xs
    message_there xs m = frame_there (λ ys. two_there) m

    message_back : (xs : List Segment) → Frame Unh Unt Sectioned (λ head middle tail. Unit {0}) xs → Message xs
    message_back xs f = frame_back (λ ys s. two_back ys s.0 s.1) f

    group_there : (xs : List Segment) → Group xs
        → Frame Ung Une (OneOrMore (Frame Unh Unt Sectioned (λ head middle tail. Unit {0}))) (λ head middle tail. Unit {0}) xs
    group_there xs g = frame_there (λ ys. runs message_there) g

    group_back : (xs : List Segment)
        → Frame Ung Une (OneOrMore (Frame Unh Unt Sectioned (λ head middle tail. Unit {0}))) (λ head middle tail. Unit {0}) xs → Group xs
    group_back xs f = frame_back (λ ys. runs message_back) f

-- ---- what was allowed so far begins an interchange

-- each segment is allowed where it stands
abbrev Clear : List Segment → Segment → Type 0
Clear past g = misplaced past g ≡ false

walked_clear : {past : List Segment} → Each Clear past → walked (kinds past) ≡ true
walked_clear h =
    walks {Says = λ kind past g. Unit {0}}
    (each_map (λ past g fits.
    let both = not-false (allowed (kinds past) (kind_of g) && section_rule past g) fits in
    record {
      place = and_left (allowed (kinds past) (kind_of g)) (section_rule past g) both;
      marks = and_right (allowed (kinds past) (kind_of g)) (section_rule past g) both;
      says = tt;
    })
    h)

-- a service segment of nothing but its tag, by the tag's last letter
tag_alone : ℕ → Segment
tag_alone letter = byte 85 0 0 ∷ byte 78 0 0 ∷ byte letter 0 0 ∷ separator 0 0 ∷ []

alone_kinds : (kind_of (tag_alone 66) ≡ Unb)
    × (kind_of (tag_alone 71) ≡ Ung)
    × (kind_of (tag_alone 72) ≡ Unh)
    × (kind_of (tag_alone 84) ≡ Unt)
    × (kind_of (tag_alone 69) ≡ Une)
    × (kind_of (tag_alone 90) ≡ Unz)
unfolding tag_alone kind_of tag_of tag_piece through ends bytes_of gather byte_of kind_named same
alone_kinds = (refl, refl, refl, refl, refl, refl)

-- after segments of these kinds, each of which was allowed, the check stands there
record Standing-after (past : List Segment) (ks : List Kind) (place : Standing) : Type 0 where
  kinds_are : kinds past ≡ ks
  clear : Each Clear past
  stands : standing ks ≡ place

-- one more that is allowed
step : {past : List Segment} {ks : List Kind} {place : Standing} (g : Segment) {kind : Kind} → kind_of g ≡ kind → is Uns kind ≡ false
    → Standing-after past ks place → Allowed ks place kind → Standing-after (g ∷ past) (kind ∷ ks) (stands_after place kind)
unfolding allowed
step {past} {ks} {place} g {kind} e other here h =
    let fits : allowed ks kind ≡ true = ap (λ (s : Standing). allowed_at s ks kind) here.stands ∙ allowed_test ks h in
    let own : allowed (kinds past) (kind_of g) ≡ true =
    ap (λ (l : List Kind). allowed l (kind_of g)) here.kinds_are ∙ ap (allowed ks) e ∙ fits
    in
    record {
      kinds_are = ap (λ (k : Kind). k ∷ kinds past) e ∙ ap (λ (l : List Kind). kind ∷ l) here.kinds_are;
      clear = passed (ap not (and_both (allowed (kinds past) (kind_of g)) (section_rule past g) own (unmarked past g e other))) here.clear;
      stands =
          sym (stands_step ks kind (ap walked (sym here.kinds_are) ∙ walked_clear here.clear) fits)
          ∙ ap (λ (s : Standing). stands_after s kind) here.stands;
    }

-- and then a whole interchange has passed
abbrev Ends : List Segment → Type 0
Ends past = (rest : List Segment) × Each Clear (past ▸ rest) × (is_complete (kinds (past ▸ rest)) ≡ true)

onward : {past : List Segment} (g : Segment) → Ends (g ∷ past) → Ends past
onward g (rest, clear, complete) = (g ∷ rest, clear, complete)

after_ends : {past : List Segment} {ks : List Kind} → Standing-after past ks AfterInterchange → Ends past
after_ends {past} here =
    ([], here.clear, standing_complete (kinds past) (ap standing here.kinds_are ∙ here.stands))

between_ends : {past : List Segment} {ks : List Kind} → Standing-after past ks BetweenGroups → Ends past
unfolding messages_in groups_in messages_since_group through those is
between_ends {past} {ks} here = by (ltb 0 (groups_in ks)) refl
  where
    messages : groups_in ks ≡ 0 → Ends past
    messages z =
        let (b, g, h, t, e, u) = alone_kinds in
        let one = step (tag_alone 72) h refl here (open_message z) in
        let two = step (tag_alone 84) t refl one (in_message_lem close_message) in
        let three = step (tag_alone 90) u refl two (close_interchange (omega arith)) in
        onward (tag_alone 72) (onward (tag_alone 84) (onward (tag_alone 90) (after_ends three)))

    groups : 0 < groups_in ks → Ends past
    groups n =
        let (b, g, h, t, e, u) = alone_kinds in
        let one = step (tag_alone 71) g refl here (open_group (inl n)) in
        let two = step (tag_alone 72) h refl one open_group_message in
        let three = step (tag_alone 84) t refl two (in_group_message close_message) in
        let four = step (tag_alone 69) e refl three (close_group (omega arith)) in
        let five = step (tag_alone 90) u refl four (close_interchange (omega arith)) in
        onward (tag_alone 71) (onward (tag_alone 72) (onward (tag_alone 84) (onward (tag_alone 69) (onward (tag_alone 90) (after_ends five)))))

    by : (b : Bool) → ltb 0 (groups_in ks) ≡ b → Ends past
    by true k = groups (ltb-true 0 (groups_in ks) k)
    by false k = messages (omega (arith, ltb-false 0 (groups_in ks) k))

message_ends : {past : List Segment} {ks : List Kind} → Standing-after past ks InMessage → Ends past
unfolding is
message_ends here =
    let (b, g, h, t, e, u) = alone_kinds in onward (tag_alone 84) (between_ends (step (tag_alone 84) t refl here (in_message_lem close_message)))

group_ends : {past : List Segment} {ks : List Kind} → Standing-after past ks InGroup → Ends past
unfolding messages_in messages_since_group through those is
group_ends here =
    let (b, g, h, t, e, u) = alone_kinds in
    let one = step (tag_alone 72) h refl here open_group_message in
    let two = step (tag_alone 84) t refl one (in_group_message close_message) in
    let three = step (tag_alone 69) e refl two (close_group (omega arith)) in
    onward (tag_alone 72) (onward (tag_alone 84) (onward (tag_alone 69) (between_ends three)))

group_message_ends : {past : List Segment} {ks : List Kind} → Standing-after past ks InGroupMessage → Ends past
unfolding is
group_message_ends here =
    let (b, g, h, t, e, u) = alone_kinds in
    onward (tag_alone 84) (group_ends (step (tag_alone 84) t refl here (in_group_message close_message)))

before_ends : {past : List Segment} {ks : List Kind} → Standing-after past ks BeforeInterchange → Ends past
unfolding is
before_ends here =
    let (b, g, h, t, e, u) = alone_kinds in onward (tag_alone 66) (between_ends (step (tag_alone 66) b refl here open_interchange))

ends_so : (past : List Segment) → Each Clear past → Ends past
ends_so past clear = by (standing (kinds past)) refl
  where
    by : (place : Standing) → standing (kinds past) ≡ place → Ends past
    by BeforeInterchange e = before_ends {ks = kinds past} (record { kinds_are = refl; clear = clear; stands = e })
    by BetweenGroups e = between_ends {ks = kinds past} (record { kinds_are = refl; clear = clear; stands = e })
    by InGroup e = group_ends {ks = kinds past} (record { kinds_are = refl; clear = clear; stands = e })
    by InGroupMessage e = group_message_ends {ks = kinds past} (record { kinds_are = refl; clear = clear; stands = e })
    by InMessage e = message_ends {ks = kinds past} (record { kinds_are = refl; clear = clear; stands = e })
    by AfterInterchange e = after_ends {ks = kinds past} (record { kinds_are = refl; clear = clear; stands = e })

-- of segments that are all allowed an interchange begins,
pub begins_one : (before : List Segment) → starts_where misplaced [] before ≡ [] → (rest : List Segment) × Interchange (before ++ rest)
begins_one before none =
    let (rest, clear, complete) = ends_so ([] ▸ before) (each_clear misplaced [] before none none_yet) in
    let gs : List Segment = before ++ rest in
    let all-clear : Each Clear ([] ▸ gs) = subst (Each Clear) (sym (▸-append [] before rest)) clear in (
      rest,
      (ordered_is gs).1 ((order_theorem gs).0 (
        clear_each misplaced [] gs all-clear,
        ap is_complete (sym (▸-map kind_of [] gs) ∙ ap kinds (▸-append [] before rest)) ∙ complete,
      )),
    )

-- and in one that has begun so all are
pub begun_clear : (before rest : List Segment) → Interchange (before ++ rest) → starts_where misplaced [] before ≡ []
begun_clear before rest i =
    clear_each misplaced [] before
    (each_before ([] ▸ before) rest
    (subst (Each Clear) (▸-append [] before rest)
    (each_clear misplaced [] (before ++ rest) ((order_theorem (before ++ rest)).1 ((ordered_is (before ++ rest)).0 i)).0 none_yet)))
