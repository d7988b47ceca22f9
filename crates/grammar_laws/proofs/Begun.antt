-- From the tests to the grammar: what has passed is an interchange that has begun, with the headers that are still open, and
-- after UNZ it is a whole one. What passed is a list of segments, the nearest first. Assumes nothing.
use Prim.Native.Nat.{◌<◌}
use native.Mathlib.Omega.{arith}
use mathlib.Core.Path.{◌≡◌, refl, sym, ap, ◌∙◌, subst}
use mathlib.Core.Logic.{◌⊎◌, inl, inr}
use mathlib.Core.Bool.{true, ◌&&◌, ◌||◌}
use mathlib.Core.List.{List, [], ◌∷◌, ◌++◌, append-nil}
use Rattle.lists.specs.Lists.{all, those}
use Rattle.lists.proofs.Texts.{and_both, all_append}
use Rattle.values.specs.Tokens.{Segment}
use Rattle.segments.specs.declared.Kind.{Kind}
use Rattle.segments.specs.declared.Kind.TheVariants.{Unb, Ung, Unh, Uns, Unt, Une, Unz, User}
use Rattle.segments.specs.declared.Standing.{Standing}
use Rattle.segments.specs.declared.Standing.TheVariants.{BeforeInterchange, BetweenGroups, InGroup, InGroupMessage, InMessage, AfterInterchange}
use Rattle.segments.specs.declared.Section.{Section}
use Rattle.segments.specs.Kinds.{is}
use Rattle.segments.specs.Tags.{kind_of}
use Rattle.segments.specs.Order.{messages_since_group, messages_in, groups_in, is_open, allowed, standing, is_complete}
use Rattle.control_elements.specs.Sections.{section_of, section_rule}
use Rattle.walk_laws.specs.Walking.{stands_after}
use Rattle.walk_laws.proofs.Places.{stands_step}
use Rattle.grammar_laws.specs.Grammar.{Frame, OneOrMore, one, more, is_inner, Inner, sections_in, Sections, no_section, Sectioned, Asking, Message, Group, Content, Whole}
use Rattle.grammar_laws.proofs.Trail.{◌▸◌, ▸-append, ▸-back, Each, none_yet, passed}
use Rattle.grammar_laws.proofs.Order.{user, section, close_message, Allowed, open_interchange, open_group, open_message, close_interchange, open_group_message, close_group, in_group_message, in_message_lem, allowed_from_lem, complete_standing}
use Rattle.grammar_laws.proofs.Pieces.{kinds, inner_headers, messages_groups, content_interchanges, some_messages, some_groups, group_count_lem, all_messages, all_groups}
use Rattle.grammar_laws.proofs.Sections.{begun_own, marker_more, sections_append, sections_marker, sections_user}
use Rattle.grammar_laws.proofs.Passing.{Saying, Passes, Rules, walks}

-- ---- what has begun

data Nothing : List Segment → Type 0 where
  nothing : Nothing []

-- nothing yet, or what is named
data Perhaps (Middle : List Segment → Type 0) : List Segment → Type 0 where
  empty : Perhaps Middle []
  full : {gs : List Segment} → Middle gs → Perhaps Middle gs

-- any number of pieces
abbrev Run : (List Segment → Type 0) → List Segment → Type 0
Run Piece = Perhaps (OneOrMore Piece)

run_and : {Piece : List Segment → Type 0} {before piece : List Segment}
    → Run Piece before → Piece piece → OneOrMore Piece (before ++ piece)
run_and empty h = one h
run_and (full hs) h = more hs h

-- an open header after what is outside it, and what has passed since
data Opened (Says : Saying) (header : Kind) (Outer Middle : List Segment → Type 0) : List Segment → Type 0 where
  opened : (head : Segment) {outer middle : List Segment} → kind_of head ≡ header → Says header outer head
      → Outer outer → Middle middle → Opened Says header Outer Middle (head ∷ outer ▸ middle)

module _ {Says : Saying} {header : Kind} {Outer Middle Other : List Segment → Type 0} where
  widen : ((middle : List Segment) → Middle middle → Other middle)
      → {past : List Segment} → Opened Says header Outer Middle past → Opened Says header Outer Other past
  widen f (opened head {middle} e r o m) = opened head e r o (f middle m)

  -- a piece went by
  grow : (piece : List Segment) → ((middle : List Segment) → Middle middle → Other (middle ++ piece))
      → {past : List Segment} → Opened Says header Outer Middle past → Opened Says header Outer Other (past ▸ piece)
  grow piece f (opened head {outer} {middle} e r o m) =
      subst (Opened Says header Outer Other) (▸-append (head ∷ outer) middle piece) (opened head e r o (f middle m))

-- one segment more may stand between UNH and UNT
inner_more : (middle : List Segment) (g : Segment) → Inner middle → is_inner g ≡ true → Inner (middle ++ g ∷ [])
unfolding all
inner_more middle g i h =
    all_append is_inner middle (g ∷ [])
    ∙ and_both (all is_inner middle) (is_inner g && true) i (and_both (is_inner g) true h refl)

-- a user segment went by
user_inside : {Says : Saying} {Outer : List Segment → Type 0} {past : List Segment} (g : Segment) → kind_of g ≡ User
    → Opened Says Unh Outer Sectioned past → Opened Says Unh Outer Sectioned (g ∷ past)
unfolding is_inner is those
user_inside g k =
    grow (g ∷ [])
    (λ middle m.
    let same : sections_in (middle ++ g ∷ []) ≡ sections_in middle =
    sections_append middle (g ∷ [])
    ∙ ap (λ (l : List Section). sections_in middle ++ l) (sections_user g [] k)
    ∙ append-nil (sections_in middle)
    in
    (inner_more middle g m.0 (ap (λ (kind : Kind). is User kind || is Uns kind) k), subst Sections (sym same) m.1))

-- a UNS that keeps the rule went by
marker_inside : {Says : Saying} {Outer : List Segment → Type 0} {past : List Segment} (g : Segment) → kind_of g ≡ Uns
    → section_rule past g ≡ true → Opened Says Unh Outer Sectioned past → Opened Says Unh Outer Sectioned (g ∷ past)
unfolding is_inner is those
marker_inside {Says} {Outer} g k rule (opened head {outer} {middle} e r o (i, s)) =
    let more : sections_in (middle ++ g ∷ []) ≡ sections_in middle ++ section_of g ∷ [] =
    sections_append middle (g ∷ []) ∙ ap (λ (l : List Section). sections_in middle ++ l) (sections_marker g [] k)
    in
    subst (Opened Says Unh Outer Sectioned) (▸-append (head ∷ outer) middle (g ∷ []))
    (opened head e r o (
      inner_more middle g i (ap (λ (kind : Kind). is User kind || is Uns kind) k),
      subst Sections (sym more)
          (marker_more (head ∷ outer ▸ middle) g (sections_in middle) k rule (begun_own head outer middle e (inner_headers middle i)) s),
    ))

-- a header, a middle and a trailer are a frame
framed : {header trailer : Kind} {Middle : List Segment → Type 0} {Asked : Segment → List Segment → Segment → Type 0}
    (head : Segment) (middle : List Segment) (tail : Segment) → kind_of head ≡ header → kind_of tail ≡ trailer
    → Middle middle → Asked head middle tail → Frame header trailer Middle Asked (head ∷ (middle ++ tail ∷ []))
framed head middle tail opening closing inside asked =
    record {
      head = head;
      middle = middle;
      tail = tail;
      shape = refl;
      opening = opening;
      closing = closing;
      inside = inside;
      asked = asked;
    }

module _ (asked : Asking) (Says : Saying) (rules : Rules asked Says) where
  -- an open group, after any number of groups
  abbrev OpenGroup : List Segment → Type 0
  OpenGroup = Opened Says Ung (Opened Says Unb Nothing (Run (Group asked))) (Run (Message asked))

  -- what has passed where the check stands there
  abbrev Begun : Standing → List Segment → Type 0
  Begun BeforeInterchange = Nothing
  Begun BetweenGroups = Opened Says Unb Nothing (Perhaps (Content asked))
  Begun InGroup = OpenGroup
  Begun InGroupMessage = Opened Says Unh OpenGroup Sectioned
  Begun InMessage = Opened Says Unh (Opened Says Unb Nothing (Run (Message asked))) Sectioned
  Begun AfterInterchange = λ past. Whole asked ([] ▸ past)

  -- ---- a trailer closes its frame

  module _ {header : Kind} {Outer : List Segment → Type 0} where
    -- the frame is one piece more of what stands around it
    close : {Piece : List Segment → Type 0} {outer : List Segment} (head : Segment) (middle : List Segment) (tail : Segment)
        → Piece (head ∷ (middle ++ tail ∷ [])) → Opened Says header Outer (Run Piece) outer
        → Opened Says header Outer (OneOrMore Piece) (tail ∷ (head ∷ outer ▸ middle))
    close {Piece} {outer} head middle tail piece o =
        subst (Opened Says header Outer (OneOrMore Piece)) (▸-append (head ∷ outer) middle (tail ∷ []))
        (grow (head ∷ (middle ++ tail ∷ [])) (λ before run. run_and run piece) o)

    message_closed_lem : {past : List Segment} (g : Segment) → kind_of g ≡ Unt → Says Unt past g
        → Opened Says Unh (Opened Says header Outer (Run (Message asked))) Sectioned past
        → Opened Says header Outer (OneOrMore (Message asked)) (g ∷ past)
    message_closed_lem g closing says (opened head {outer} {middle} e r o i) =
        close head middle g
        (framed head middle g e closing i ((rules.message head outer middle g e (inner_headers middle i.0)).0 (r, says))) o

    group_closed : {past : List Segment} (g : Segment) → kind_of g ≡ Une → Says Une past g → 0 < messages_since_group (kinds past)
        → Opened Says Ung (Opened Says header Outer (Run (Group asked))) (Run (Message asked)) past
        → Opened Says header Outer (OneOrMore (Group asked)) (g ∷ past)
    unfolding messages_in those
    group_closed g closing says h (opened head {outer} e r o empty) = absurd (omega (arith, group_count_lem head outer [] e refl))
    group_closed g closing says h (opened head {outer} {middle} e r o (full m)) =
        close head middle g
        (framed head middle g e closing m ((rules.group head outer middle g e (messages_groups asked middle m)).0 (r, says))) o

  interchange_closed : {past : List Segment} (g : Segment) → kind_of g ≡ Unz → Says Unz past g → 0 < messages_in (kinds past)
      → Begun BetweenGroups past → Whole asked ([] ▸ (g ∷ past))
  unfolding messages_in those
  interchange_closed g closing says h (opened head e r nothing empty) = absurd (omega (arith, all_messages head [] e))
  interchange_closed g closing says h (opened head {middle} e r nothing (full m)) =
      subst (Whole asked) (sym (▸-back middle (head ∷ []) (g ∷ [])))
      (framed head middle g e closing m
      ((rules.interchange head middle g e (content_interchanges asked middle m)).0 (r, says)))

  -- ---- "not both"

  -- where a group may follow there are no messages outside groups
  groups_only : {past : List Segment} → (0 < groups_in (kinds past)) ⊎ (messages_in (kinds past) ≡ 0)
      → Begun BetweenGroups past → Opened Says Unb Nothing (Run (Group asked)) past
  unfolding messages_in groups_in
  groups_only h (opened head e r nothing empty) = opened head e r nothing empty
  groups_only h (opened head e r nothing (full (inl m))) = opened head e r nothing (full m)
  groups_only (inl h) (opened head {middle} e r nothing (full (inr m))) =
      absurd (omega (arith, all_groups head middle e, messages_groups asked middle m))
  groups_only (inr h) (opened head {middle} e r nothing (full (inr m))) =
      absurd (omega (arith, all_messages head middle e, some_messages asked middle m))

  -- where a message outside groups may follow there are no groups
  messages_only : {past : List Segment} → groups_in (kinds past) ≡ 0
      → Begun BetweenGroups past → Opened Says Unb Nothing (Run (Message asked)) past
  unfolding groups_in
  messages_only h (opened head e r nothing empty) = opened head e r nothing empty
  messages_only h (opened head {middle} e r nothing (full (inl m))) =
      absurd (omega (arith, all_groups head middle e, some_groups asked middle m))
  messages_only h (opened head e r nothing (full (inr m))) = opened head e r nothing (full m)

  -- ---- the walk

  -- a segment that passes takes what has begun one step on
  advance : {s : Standing} {kind : Kind} (past : List Segment) (g : Segment) → kind_of g ≡ kind → Allowed (kinds past) s kind
      → section_rule past g ≡ true → Says kind past g → Begun s past → Begun (stands_after s kind) (g ∷ past)
  unfolding all those
  advance past g e open_interchange rule says b = opened g e says b empty
  advance past g e (open_group h) rule says b = opened g e says (groups_only h b) empty
  advance past g e (open_message h) rule says b = opened g {middle = []} e says (messages_only h b) (refl, no_section)
  advance past g e (close_interchange h) rule says b = interchange_closed g e says h b
  advance past g e open_group_message rule says b = opened g {middle = []} e says b (refl, no_section)
  advance past g e (close_group h) rule says b = widen (λ middle m. full (inl m)) (group_closed g e says h b)
  advance past g e (in_group_message user) rule says b = user_inside g e b
  advance past g e (in_group_message section) rule says b = marker_inside g e rule b
  advance past g e (in_group_message close_message) rule says b = widen (λ middle m. full m) (message_closed_lem g e says b)
  advance past g e (in_message_lem user) rule says b = user_inside g e b
  advance past g e (in_message_lem section) rule says b = marker_inside g e rule b
  advance past g e (in_message_lem close_message) rule says b = widen (λ middle m. full (inr m)) (message_closed_lem g e says b)

  -- what has passed has begun so
  begun : {past : List Segment} → Each (Passes Says) past → Begun (standing (kinds past)) past
  unfolding standing is_open allowed
  begun none_yet = nothing
  begun (passed {past} {x} h hs) =
      subst (λ (s : Standing). Begun s (x ∷ past)) (stands_step (kinds past) (kind_of x) (walks hs) h.place)
      (advance past x refl (allowed_from_lem (kinds past) (standing (kinds past)) (kind_of x) h.place) h.marks h.says (begun hs))

  -- complete segments that passed are a whole interchange
  pub whole : (gs : List Segment) → Each (Passes Says) ([] ▸ gs) → is_complete (kinds ([] ▸ gs)) ≡ true → Whole asked gs
  whole gs h c =
      subst (Whole asked) (▸-back gs [] [] ∙ append-nil gs)
      (subst (λ (s : Standing). Begun s ([] ▸ gs)) (complete_standing (kinds ([] ▸ gs)) c) (begun h))
