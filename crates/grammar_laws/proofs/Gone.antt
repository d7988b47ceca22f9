-- From the grammar to the tests: each segment of a whole interchange passes, frame by frame. What passed is a list of segments,
-- the nearest first. Assumes nothing.
use Prim.Native.Nat.{◌<◌}
use native.Mathlib.Omega.{arith}
use mathlib.Core.Path.{◌≡◌, refl, sym, ap, ◌∙◌, subst}
use mathlib.Core.Logic.{◌⊎◌, inl, inr, ⊎_elim}
use mathlib.Core.Bool.{true, false}
use mathlib.Core.List.{List, [], ◌∷◌, ◌++◌, append_assoc}
use Rattle.lists.specs.Lists.{all, those}
use Rattle.lists.proofs.Texts.{and_left, and_right, or_cases}
use Rattle.values.specs.Tokens.{Segment}
use Rattle.segments.specs.declared.Kind.{Kind}
use Rattle.segments.specs.declared.Kind.TheVariants.{Unb, Ung, Unh, Uns, Unt, User}
use Rattle.segments.specs.declared.Standing.{Standing}
use Rattle.segments.specs.declared.Standing.TheVariants.{BetweenGroups, InGroup, AfterInterchange}
use Rattle.segments.specs.declared.Section.{Section}
use Rattle.segments.specs.Kinds.{is}
use Rattle.segments.specs.Tags.{kind_of}
use Rattle.segments.specs.Order.{messages_in, groups_in, is_open, standing, allowed_at, allowed}
use Rattle.control_elements.specs.Sections.{section_of, section_rule}
use Rattle.walk_laws.specs.Walking.{stands_after}
use Rattle.walk_laws.proofs.Places.{stands_step}
use Rattle.grammar_laws.specs.Grammar.{Frame, OneOrMore, one, more, is_inner, Inner, sections_in, Sections, Asking, Message, Group, Content, Whole}
use Rattle.grammar_laws.proofs.Trail.{◌▸◌, ▸-append, Each, none_yet, passed}
use Rattle.grammar_laws.proofs.Order.{is_eq, Inside, user, section, close_message, Allowed, open_interchange, open_group, open_message, close_interchange, open_group_message, close_group, in_group_message, in_message_lem, allowed_test}
use Rattle.grammar_laws.proofs.Pieces.{kinds, number-▸, inner_headers, messages_groups, content_interchanges, some_messages, some_groups, some_content, group_count_lem, all_messages, all_groups}
use Rattle.grammar_laws.proofs.Sections.{begun_in, begun_header, begun_marker, begun_user, unmarked, marker_next, sections_marker, sections_user}
use Rattle.grammar_laws.proofs.Passing.{Saying, Passes, Rules, walks}

-- each one passed, and the check stands there
abbrev pub Gone : Saying → Standing → List Segment → Type 0
Gone Says s past = Each (Passes Says) past × (standing (kinds past) ≡ s)

-- pieces go by, and leave what each of them leaves
pieces : {Piece : List Segment → Type 0} (Holds : List Segment → Type 0)
    → ((past piece : List Segment) → Piece piece → Holds past → Holds (past ▸ piece))
    → {gs : List Segment} → OneOrMore Piece gs → (past : List Segment) → Holds past → Holds (past ▸ gs)
pieces Holds leaves (one {piece} p) past h = leaves past piece p h
pieces Holds leaves (more {before} {piece} ps p) past h =
    subst Holds (sym (▸-append past before piece)) (leaves (past ▸ before) piece p (pieces Holds leaves ps past h))

module _ (asked : Asking) (Says : Saying) (rules : Rules asked Says) where
  -- a segment goes by
  step : {s : Standing} {kind : Kind} (past : List Segment) (g : Segment) → Gone Says s past → kind_of g ≡ kind
      → Allowed (kinds past) s kind → section_rule past g ≡ true → Says kind past g → Gone Says (stands_after s kind) (g ∷ past)
  unfolding allowed
  step past g h e a rule says = (
    passed (record { place = place; marks = rule; says = subst (λ (k : Kind). Says k past g) (sym e) says }) h.0,
    sym (stands_step (kinds past) (kind_of g) (walks h.0) place) ∙ (λ i. stands_after (h.1 i) (e i)),
  )
    where
      place : allowed (kinds past) (kind_of g) ≡ true
      place = (λ i. allowed_at (h.1 i) (kinds past) (e i)) ∙ allowed_test (kinds past) a

  -- a frame goes by: its header, its middle and its trailer, of which no UNS is one
  frame : {header trailer : Kind} {Middle : List Segment → Type 0} {Asked : Segment → List Segment → Segment → Type 0}
      {gs : List Segment} {s inner : Standing} (past : List Segment) (f : Frame header trailer Middle Asked gs)
      → is Uns header ≡ false → is Uns trailer ≡ false → Says header past f.head × Says trailer (f.head ∷ past ▸ f.middle) f.tail
      → Gone Says s past → Allowed (kinds past) s header
      → (Gone Says (stands_after s header) (f.head ∷ past) → Gone Says inner (f.head ∷ past ▸ f.middle))
      → Allowed (kinds (f.head ∷ past ▸ f.middle)) inner trailer → Gone Says (stands_after inner trailer) (past ▸ gs)
  frame {trailer} {inner} past f other last says h a middle b =
      subst (Gone Says (stands_after inner trailer))
      (sym (ap (λ (l : List Segment). past ▸ l) f.shape ∙ ▸-append (f.head ∷ past) f.middle (f.tail ∷ [])))
      (step (f.head ∷ past ▸ f.middle) f.tail
      (middle (step past f.head h f.opening a (unmarked past f.head f.opening other) says.0))
      f.closing b (unmarked (f.head ∷ past ▸ f.middle) f.tail f.closing last) says.1)

  -- ---- a message, where the check stands in a group or in none

  module _ (s : Standing) (holds : (past : List Kind) (kind : Kind) → Inside kind → Allowed past (stands_after s Unh) kind)
      (back : stands_after (stands_after s Unh) Unt ≡ s) where
    -- the sections before these segments and those in them are in order
    inner : (past gs : List Segment) (before : List Section) → Inner gs → begun_in past ≡ [] ▸ before → Sections (before ++ sections_in gs)
        → Gone Says (stands_after s Unh) past → Gone Says (stands_after s Unh) (past ▸ gs)
    unfolding all is_inner is
    inner past [] before i b t h = h
    inner past (g ∷ gs) before i b t h =
        let rest = and_right (is_inner g) (all is_inner gs) i in
        ⊎_elim
        (λ k.
        let e = is_eq User (kind_of g) k in
        inner (g ∷ past) gs before rest (begun_user g past e ∙ b)
        (subst (λ (l : List Section). Sections (before ++ l)) (sections_user g gs e) t)
        (step past g h e (holds (kinds past) User user) (unmarked past g e refl) (rules.user past g)))
        (λ k.
        let e = is_eq Uns (kind_of g) k in
        let those-left = subst (λ (l : List Section). Sections (before ++ l)) (sections_marker g gs e) t in
        inner (g ∷ past) gs (before ++ section_of g ∷ []) rest
        (begun_marker g past e ∙ ap (λ (l : List Section). section_of g ∷ l) b ∙ sym (▸-append [] before (section_of g ∷ [])))
        (subst Sections (sym (append_assoc before (section_of g ∷ []) (sections_in gs))) those-left)
        (step past g h e (holds (kinds past) Uns section) (marker_next past g before (sections_in gs) e b those-left) (rules.section past g)))
        (or_cases (is User (kind_of g)) (is Uns (kind_of g)) (and_left (is_inner g) (all is_inner gs) i))

    message : (past gs : List Segment) → Message asked gs → Allowed (kinds past) s Unh
        → Gone Says s past → Gone Says s (past ▸ gs)
    unfolding is
    message past gs f a h =
        let others = inner_headers f.middle f.inside.0 in
        subst (λ (o : Standing). Gone Says o (past ▸ gs)) back
        (frame past f refl refl ((rules.message f.head past f.middle f.tail f.opening others).1 f.asked) h a
        (inner (f.head ∷ past) f.middle [] f.inside.0 (begun_header f.head past f.opening) f.inside.1) (holds (kinds (f.head ∷ past ▸ f.middle)) Unt close_message))

  -- ---- messages outside groups

  abbrev Ungrouped : List Segment → Type 0
  Ungrouped past = Gone Says BetweenGroups past × (groups_in (kinds past) ≡ 0)

  messages : {gs : List Segment} → OneOrMore (Message asked) gs → (past : List Segment) → Ungrouped past → Ungrouped (past ▸ gs)
  unfolding groups_in
  messages =
      pieces Ungrouped
      (λ past piece m h. (
        message BetweenGroups (λ before kind. in_message_lem) refl past piece m (open_message h.1) h.0,
        omega (arith, number-▸ Ung past piece, messages_groups asked piece (one m), h.1),
      ))

  -- ---- groups

  group_messages : {gs : List Segment} → OneOrMore (Message asked) gs
      → (past : List Segment) → Gone Says InGroup past → Gone Says InGroup (past ▸ gs)
  group_messages =
      pieces (Gone Says InGroup)
      (λ past piece m. message InGroup (λ before kind. in_group_message) refl past piece m open_group_message)

  abbrev Grouped : List Segment → Type 0
  Grouped past = Gone Says BetweenGroups past × ((0 < groups_in (kinds past)) ⊎ (messages_in (kinds past) ≡ 0))

  group : (past gs : List Segment) → Group asked gs → Grouped past → Gone Says BetweenGroups (past ▸ gs)
  unfolding messages_in is
  group past gs f h =
      let others = messages_groups asked f.middle f.inside in
      let count = group_count_lem f.head past f.middle f.opening others in
      frame past f refl refl ((rules.group f.head past f.middle f.tail f.opening others).1 f.asked) h.0
      (open_group h.1) (group_messages f.inside (f.head ∷ past))
      (close_group (omega (arith, count, some_messages asked f.middle f.inside)))

  groups : {gs : List Segment} → OneOrMore (Group asked) gs → (past : List Segment) → Grouped past → Grouped (past ▸ gs)
  unfolding groups_in
  groups =
      pieces Grouped
      (λ past piece f h. (
        group past piece f h,
        inl (omega (arith, number-▸ Ung past piece, some_groups asked piece (one f))),
      ))

  -- ---- the whole

  content : (head : Segment) (middle : List Segment) → kind_of head ≡ Unb → Content asked middle
      → Gone Says BetweenGroups (head ∷ []) → Gone Says BetweenGroups (head ∷ [] ▸ middle)
  unfolding messages_in groups_in those
  content head middle e (inl gs) h = (groups gs (head ∷ []) (h, inr (all_messages head [] e))).0
  content head middle e (inr ms) h = (messages ms (head ∷ []) (h, all_groups head [] e)).0

  -- each segment of a whole interchange passes, and then the check stands after it
  pub gone : (gs : List Segment) → Whole asked gs → Gone Says AfterInterchange ([] ▸ gs)
  unfolding standing is_open messages_in is
  gone gs f =
      let others = content_interchanges asked f.middle f.inside in
      frame [] f refl refl ((rules.interchange f.head f.middle f.tail f.opening others).1 f.asked) (none_yet, refl)
      open_interchange (content f.head f.middle f.opening f.inside)
      (close_interchange
      (omega (arith, all_messages f.head f.middle f.opening, some_content asked f.middle f.inside)))
