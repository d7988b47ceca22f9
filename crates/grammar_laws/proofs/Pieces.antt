-- How many segments of a kind are in the grammar's pieces, and how many messages are counted after an open header.
-- What passed is a list of segments, the nearest first. Assumes nothing.
use Rattle.std.specs.Prelude.{if◌then◌else◌}
use Prim.Native.Nat.{ℕ, ◌+◌, ◌<◌}
use native.Mathlib.Omega.{arith}
use mathlib.Core.Path.{◌≡◌, refl, sym, ap, ◌∙◌}
use mathlib.Core.Logic.{inl, inr, ⊎_elim}
use mathlib.Core.Bool.{Bool, true, false}
use mathlib.Core.List.{List, [], ◌∷◌, ◌++◌, map}
use lib.ListN.{length}
use borrow.Author.Tests.{eq-eqb}
use Rattle.lists.specs.Lists.{all, those, through}
use Rattle.lists.proofs.Texts.{and_left, and_right, or_cases, if_true, if_false}
use Rattle.values.specs.Tokens.{Segment}
use Rattle.segments.specs.declared.Kind.{Kind}
use Rattle.segments.specs.declared.Kind.TheVariants.{Unb, Ung, Unh, Uns, Unt, User}
use Rattle.segments.specs.Kinds.{index, is}
use Rattle.segments.specs.Tags.{kind_of}
use Rattle.segments.specs.Order.{messages_in, groups_in, messages_since_group}
use Rattle.grammar_laws.specs.Grammar.{Frame, OneOrMore, one, more, size, Inner, is_inner, Asking, Message, Group, Content}
use Rattle.grammar_laws.proofs.Trail.{◌▸◌, ▸-append, ▸-map}
use Rattle.grammar_laws.proofs.Order.{is_eq}

abbrev pub kinds : List Segment → List Kind
kinds gs = map kind_of gs

-- ---- how many segments of a kind

-- whether a kind is this one, as a number
abbrev alone : Kind → Kind → ℕ
alone kind other = length (those (is kind) (other ∷ []))

-- the number of segments of a kind
abbrev pub number : Kind → List Segment → ℕ
number kind gs = length (those (is kind) (kinds gs))

module _ (kind : Kind) where
  -- they add up, however the lists are joined
  pub number-▸ : (past gs : List Segment) → number kind (past ▸ gs) ≡ number kind past + number kind gs
  unfolding those
  number-▸ past [] = omega arith
  number-▸ past (g ∷ gs) =
      number-▸ (g ∷ past) gs ∙ step (is kind (kind_of g)) (those (is kind) (kinds past)) (those (is kind) (kinds gs))
    where
      step : (b : Bool) (xs ys : List Kind)
          → length (if b then kind_of g ∷ xs else xs) + length ys ≡ length xs + length (if b then kind_of g ∷ ys else ys)
      step true xs ys = omega arith
      step false xs ys = refl

  pub number_append : (xs ys : List Segment) → number kind (xs ++ ys) ≡ number kind xs + number kind ys
  unfolding those
  number_append xs ys =
      omega (arith, number-▸ [] (xs ++ ys), ap (number kind) (▸-append [] xs ys), number-▸ ([] ▸ xs) ys, number-▸ [] xs)

  -- a frame has those of its middle, and its header and trailer
  pub number_frame : {header trailer : Kind} {Middle : List Segment → Type 0} {Asked : Segment → List Segment → Segment → Type 0}
      {gs : List Segment} (f : Frame header trailer Middle Asked gs)
      → number kind gs ≡ alone kind header + (number kind f.middle + alone kind trailer)
  number_frame f =
      omega (
        arith,
        ap (number kind) f.shape,
        number_append (f.head ∷ []) (f.middle ++ f.tail ∷ []),
        number_append f.middle (f.tail ∷ []),
        ap (alone kind) f.opening,
        ap (alone kind) f.closing,
      )

  -- what no piece has, and what each piece has
  none_in_pieces : {Piece : List Segment → Type 0} {gs : List Segment}
      → ((piece : List Segment) → Piece piece → number kind piece ≡ 0) → OneOrMore Piece gs → number kind gs ≡ 0
  none_in_pieces none_in (one {piece} h) = none_in piece h
  none_in_pieces none_in (more {before} {piece} hs h) =
      omega (arith, number_append before piece, none_in_pieces none_in hs, none_in piece h)

  some_in_pieces : {Piece : List Segment → Type 0} {gs : List Segment}
      → ((piece : List Segment) → Piece piece → 0 < number kind piece) → OneOrMore Piece gs → 0 < number kind gs
  some_in_pieces some_in (one {piece} h) = some_in piece h
  some_in_pieces some_in (more {before} {piece} hs h) = omega (arith, number_append before piece, some_in piece h)

  -- where each piece has just one, they are as many as the pieces
  one_in_pieces : {Piece : List Segment → Type 0} {gs : List Segment}
      → ((piece : List Segment) → Piece piece → number kind piece ≡ 1) → (hs : OneOrMore Piece gs) → number kind gs ≡ size hs
  unfolding size
  one_in_pieces one_in (one {piece} h) = one_in piece h
  one_in_pieces one_in (more {before} {piece} hs h) =
      omega (arith, number_append before piece, one_in_pieces one_in hs, one_in piece h)

  -- between UNH and UNT there are only user segments and UNS
  none_in_inner : alone kind User ≡ 0 → alone kind Uns ≡ 0 → (gs : List Segment) → Inner gs → number kind gs ≡ 0
  unfolding all those is_inner
  none_in_inner u s [] i = refl
  none_in_inner u s (g ∷ gs) i =
      omega (arith, number_append (g ∷ []) gs, here, none_in_inner u s gs (and_right (is_inner g) (all is_inner gs) i))
    where
      here : alone kind (kind_of g) ≡ 0
      here =
          ⊎_elim (λ e. ap (alone kind) (is_eq User (kind_of g) e) ∙ u) (λ e. ap (alone kind) (is_eq Uns (kind_of g) e) ∙ s)
          (or_cases (is User (kind_of g)) (is Uns (kind_of g)) (and_left (is_inner g) (all is_inner gs) i))

-- ---- what is in the pieces, and what is not

pub inner_headers : (gs : List Segment) → Inner gs → number Unh gs ≡ 0
unfolding those is
inner_headers = none_in_inner Unh refl refl

module _ (asked : Asking) where
  messages_lack : (kind : Kind) → alone kind User ≡ 0 → alone kind Uns ≡ 0 → alone kind Unh + alone kind Unt ≡ 0
      → (gs : List Segment) → OneOrMore (Message asked) gs → number kind gs ≡ 0
  messages_lack kind u s h gs =
      none_in_pieces kind (λ piece f. omega (arith, number_frame kind f, none_in_inner kind u s f.middle f.inside.0))

  pub messages_groups : (gs : List Segment) → OneOrMore (Message asked) gs → number Ung gs ≡ 0
  unfolding those is
  messages_groups = messages_lack Ung refl refl refl

  pub content_interchanges : (gs : List Segment) → Content asked gs → number Unb gs ≡ 0
  unfolding those is
  content_interchanges gs (inl h) =
      none_in_pieces Unb
      (λ piece f. omega (arith, number_frame Unb f, messages_lack Unb refl refl refl f.middle f.inside)) h
  content_interchanges gs (inr h) = messages_lack Unb refl refl refl gs h

  -- each message has one UNH, each group one UNG
  pub messages_size : {gs : List Segment} (hs : OneOrMore (Message asked) gs) → number Unh gs ≡ size hs
  unfolding those is
  messages_size =
      one_in_pieces Unh (λ piece f. omega (arith, number_frame Unh f, inner_headers f.middle f.inside.0))

  pub groups_size : {gs : List Segment} (hs : OneOrMore (Group asked) gs) → number Ung gs ≡ size hs
  unfolding those is
  groups_size =
      one_in_pieces Ung (λ piece f. omega (arith, number_frame Ung f, messages_groups f.middle f.inside))

  pub some_messages : (gs : List Segment) → OneOrMore (Message asked) gs → 0 < number Unh gs
  unfolding those is
  some_messages gs = some_in_pieces Unh (λ piece f. omega (arith, number_frame Unh f))

  pub some_groups : (gs : List Segment) → OneOrMore (Group asked) gs → 0 < number Ung gs
  unfolding those is
  some_groups gs = some_in_pieces Ung (λ piece f. omega (arith, number_frame Ung f))

  pub some_content : (gs : List Segment) → Content asked gs → 0 < number Unh gs
  some_content gs (inl h) =
      some_in_pieces Unh (λ piece f. omega (arith, number_frame Unh f, some_messages f.middle f.inside)) h
  some_content gs (inr h) = some_messages gs h

-- ---- after an open header

module _ (kind : Kind) where
  -- where a kind is missing, the first segment is of another, and it is missing in the rest
  pub passed_over : (g : Segment) (gs : List Segment) → number kind (g ∷ gs) ≡ 0
      → (is kind (kind_of g) ≡ false) × (number kind gs ≡ 0)
  unfolding those
  passed_over g gs = step (is kind (kind_of g))
    where
      step : (b : Bool) → length (if b then kind_of g ∷ those (is kind) (kinds gs) else those (is kind) (kinds gs)) ≡ 0
          → (b ≡ false) × (number kind gs ≡ 0)
      step true h = absurd (omega arith)
      step false h = (refl, h)

  -- segments of other kinds make no difference
  through-▸ : (past gs : List Segment) → number kind gs ≡ 0
      → through (is kind) (kinds (past ▸ gs)) ≡ through (is kind) (kinds past) ▸ kinds gs
  unfolding through
  through-▸ past [] h = refl
  through-▸ past (g ∷ gs) h =
      let other = passed_over g gs h in
      through-▸ (g ∷ past) gs other.1
      ∙ ap (λ (l : List Kind). kind_of g ∷ l ▸ kinds gs)
      (if_false (is kind (kind_of g)) [] (through (is kind) (kinds past)) other.0)

pub own : (header : Kind) (head : Segment) → kind_of head ≡ header → is header (kind_of head) ≡ true
unfolding is
own header head opening = ap (is header) opening ∙ eq-eqb (index header) (index header) refl

-- since an open header, only its middle has passed
pub through_own : (header : Kind) (head : Segment) (outer middle : List Segment) → kind_of head ≡ header
    → number header middle ≡ 0 → through (is header) (kinds (head ∷ outer ▸ middle)) ≡ header ∷ [] ▸ kinds middle
unfolding through
through_own header head outer middle opening others =
    through-▸ header (head ∷ outer) middle others
    ∙ ap (λ (l : List Kind). kind_of head ∷ l ▸ kinds middle)
    (if_true (is header (kind_of head)) [] (through (is header) (kinds outer)) (own header head opening))
    ∙ ap (λ (k : Kind). k ∷ [] ▸ kinds middle) opening

-- since UNG, the messages are those of the middle
pub group_count_lem : (head : Segment) (outer middle : List Segment) → kind_of head ≡ Ung → number Ung middle ≡ 0
    → messages_since_group (kinds (head ∷ outer ▸ middle)) ≡ messages_in (kinds middle)
unfolding messages_since_group messages_in those is
group_count_lem head outer middle opening others =
    ap messages_in
    (through_own Ung head outer middle opening others
    ∙ ap (λ (k : Kind). k ∷ [] ▸ kinds middle) (sym opening)
    ∙ sym (▸-map kind_of (head ∷ []) middle))
    ∙ omega (arith, number-▸ Unh (head ∷ []) middle, ap (alone Unh) opening)

-- after UNB, all messages and groups are those of the middle
module _ (head : Segment) (middle : List Segment) (opening : kind_of head ≡ Unb) where
  pub all_messages : messages_in (kinds (head ∷ [] ▸ middle)) ≡ messages_in (kinds middle)
  unfolding messages_in those is
  all_messages = omega (arith, number-▸ Unh (head ∷ []) middle, ap (alone Unh) opening)

  pub all_groups : groups_in (kinds (head ∷ [] ▸ middle)) ≡ groups_in (kinds middle)
  unfolding groups_in those is
  all_groups = omega (arith, number-▸ Ung (head ∷ []) middle, ap (alone Ung) opening)
