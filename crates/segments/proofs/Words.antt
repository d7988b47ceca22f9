-- What the definitions say in the paper's letters: the tags by their bytes, what is counted, and where the check stands. Assumes nothing.
use Rattle.std.specs.Prelude.{if◌then◌else◌}
use Prim.Native.Nat.{ℕ, ◌+◌, ◌≤◌, ◌<◌}
use mathlib.Core.Path.{◌≡◌, refl, sym, ap, ◌∙◌}
use mathlib.Core.Bool.{Bool, true, false, not, ◌&&◌, ◌||◌, false≢true}
use mathlib.Core.List.Memᴰ
use mathlib.Core.List.{List, [], ◌∷◌, ◌++◌, Memᴰ, nil≢cons, head-eq_of_cons-eq, tail-eq_of_cons-eq}
use mathlib.Core.Logic.{◌⊎◌}
use native.Mathlib.Omega.{arith}
use lib.Dec.{eqb, ltb}
use lib.ListN.{length, get_or, length-append}
use borrow.Author.Tests.{eqb-true, eq-eqb}
use Rattle.lists.specs.Lists.{text, same, begins, all, those, through}
use Rattle.lists.proofs.Tests.{Says, says_eq, says_lt, says_both, says_either, says_not, says_same, says_begins, says_all, says_as, fails, through_is}
use Rattle.characters.specs.Characters.{upper, digit}
use Rattle.characters.proofs.Words.{upper_says, digit_says}
use Rattle.values.specs.Tokens.{Token, separator, Segment, ends}
use Rattle.values.specs.Values.{bytes_of, ended_by}
use Rattle.values.proofs.Words.{ends_says, ended_says}
use Rattle.segments.specs.declared.Kind.{Kind}
use Rattle.segments.specs.declared.Kind.TheVariants.{Unb, Ung, Unh, Uns, Unt, Une, Unz, User}
use Rattle.segments.specs.declared.Standing.TheVariants.{BeforeInterchange, BetweenGroups, InGroup, InGroupMessage, InMessage, AfterInterchange}
use Rattle.segments.specs.declared.Section.{Section}
use Rattle.segments.specs.Kinds.{index, is, kind_named}
use Rattle.segments.specs.Tags.{tag_piece, tag_repeat, tag_of, kind_of, is_tag, tag_rule}
use Rattle.segments.specs.Order.{segments_in, messages_in, groups_in, segments_since_header, messages_since_group, is_open, standing, allowed_at, walk_over}
pub use Rattle.segments.specs.Notions.{Open}

-- ---- tags

pub kinds_are : (kind_named (85 ∷ 78 ∷ 66 ∷ []) ≡ Unb)
    × (kind_named (85 ∷ 78 ∷ 71 ∷ []) ≡ Ung)
    × (kind_named (85 ∷ 78 ∷ 72 ∷ []) ≡ Unh)
    × (kind_named (85 ∷ 78 ∷ 83 ∷ []) ≡ Uns)
    × (kind_named (85 ∷ 78 ∷ 84 ∷ []) ≡ Unt)
    × (kind_named (85 ∷ 78 ∷ 69 ∷ []) ≡ Une)
    × (kind_named (85 ∷ 78 ∷ 90 ∷ []) ≡ Unz)
unfolding kind_named same
kinds_are = (refl, refl, refl, refl, refl, refl, refl)

-- any other tag names a user segment
pub user_kind : (tag : List ℕ)
    → ((last : ℕ) → Memᴰ last (66 ∷ 71 ∷ 72 ∷ 83 ∷ 84 ∷ 69 ∷ 90 ∷ []) → tag ≡ 85 ∷ 78 ∷ last ∷ [] → ⊥) → kind_named tag ≡ User
unfolding kind_named
user_kind tag h =
    rw (
      none 66 (Memᴰ.head refl),
      none 71 (Memᴰ.tail (Memᴰ.head refl)),
      none 72 (Memᴰ.tail (Memᴰ.tail (Memᴰ.head refl))),
      none 83 (Memᴰ.tail (Memᴰ.tail (Memᴰ.tail (Memᴰ.head refl)))),
      none 84 (Memᴰ.tail (Memᴰ.tail (Memᴰ.tail (Memᴰ.tail (Memᴰ.head refl))))),
      none 69 (Memᴰ.tail (Memᴰ.tail (Memᴰ.tail (Memᴰ.tail (Memᴰ.tail (Memᴰ.head refl)))))),
      none 90 (Memᴰ.tail (Memᴰ.tail (Memᴰ.tail (Memᴰ.tail (Memᴰ.tail (Memᴰ.tail (Memᴰ.head refl))))))),
    )
  where
    none : (last : ℕ) → Memᴰ last (66 ∷ 71 ∷ 72 ∷ 83 ∷ 84 ∷ 69 ∷ 90 ∷ []) → same tag (85 ∷ 78 ∷ last ∷ []) ≡ false
    none last m = (fails (same tag (85 ∷ 78 ∷ last ∷ [])) (says_same tag (85 ∷ 78 ∷ last ∷ []))).1 (h last m)

-- a kind is itself and no other
pub is_says : (kind other : Kind) → Says (is kind other) (other ≡ kind)
unfolding is
is_says kind other = (λ e. tells other kind (eqb-true (index other) (index kind) e), λ e. eq-eqb (index other) (index kind) (ap index e))
  where
    kinds : List Kind
    kinds = Unb ∷ Ung ∷ Unh ∷ Uns ∷ Unt ∷ Une ∷ Unz ∷ User ∷ []

    placed : (k : Kind) → get_or kinds (index k) User ≡ k
    placed Unb = refl
    placed Ung = refl
    placed Unh = refl
    placed Uns = refl
    placed Unt = refl
    placed Une = refl
    placed Unz = refl
    placed User = refl

    tells : (k j : Kind) → index k ≡ index j → k ≡ j
    tells k j e = sym (placed k) ∙ ap (λ (n : ℕ). get_or kinds n User) e ∙ placed j

-- "three bytes, each `A`-`Z` or `0`-`9`"
pub tag_says : (tag : List ℕ)
    → Says (is_tag tag)
    ((length tag ≡ 3) × ((b : ℕ) → Memᴰ b tag → ((65 ≤ b) × (b ≤ 90)) ⊎ ((48 ≤ b) × (b ≤ 57))))
unfolding is_tag
tag_says tag =
    says_both (eqb (length tag) 3) (all (λ b. upper b || digit b) tag) (says_eq (length tag) 3)
    (says_all (λ b. upper b || digit b) (λ b. says_either (upper b) (digit b) (upper_says b) (digit_says b)) tag)

-- a piece ends with the first separator that ends it
module _ (rank : ℕ) (inside : List Token) (kind place : ℕ) (rest : List Token) (low : kind ≤ rank)
    (none : (k q : ℕ) → Memᴰ (separator k q) inside → k ≤ rank → ⊥) where
  piece_is : through (ends rank) (inside ++ separator kind place ∷ rest) ≡ inside ++ separator kind place ∷ []
  piece_is =
      through_is (ends rank) inside (separator kind place) rest
      (λ t m. (fails (ends rank t) (ends_says rank t)).1 (λ h. none h.0 h.1 (Memᴰ.cast (sym h.2) m) h.3))
      ((ends_says rank (separator kind place)).1 (kind, place, refl, low))

-- the tag is the bytes before the first separator of any kind, and its piece ends with that
pub tag_is : (inside : List Token) (kind place : ℕ) (rest : List Token) → kind ≤ 3
    → ((k q : ℕ) → Memᴰ (separator k q) inside → k ≤ 3 → ⊥)
    → (tag_piece (inside ++ separator kind place ∷ rest) ≡ inside ++ separator kind place ∷ [])
    × (tag_of (inside ++ separator kind place ∷ rest) ≡ bytes_of (inside ++ separator kind place ∷ []))
unfolding tag_of tag_piece
tag_is inside kind place rest low none =
    let piece = piece_is 3 inside kind place rest low none in
    (piece, ap bytes_of piece)

-- the first repeat of the tag element ends with the first separator that is no component separator
pub tag_repeat_is : (inside : List Token) (kind place : ℕ) (rest : List Token) → kind ≤ 2
    → ((k q : ℕ) → Memᴰ (separator k q) inside → k ≤ 2 → ⊥)
    → tag_repeat (inside ++ separator kind place ∷ rest) ≡ inside ++ separator kind place ∷ []
unfolding tag_repeat
tag_repeat_is inside kind place rest low none = piece_is 2 inside kind place rest low none

-- "A tag beginning `UN` must be UNB, UNG, UNH, UNS, UNT, UNE or UNZ, and no component separator may follow it."; "6 also when a repetition
-- separator follows within a tag element"
pub rule_says : (g : Segment)
    → Says (tag_rule g)
    ((is_tag (tag_of g) ≡ true)
    × ((before : List Token) × (k : ℕ) × (q : ℕ) × (tag_repeat g ≡ before ++ separator k q ∷ []) × (k ≤ 1))
    × (((rest : List ℕ) × (tag_of g ≡ 85 ∷ 78 ∷ rest) → ⊥)
    ⊎ ((kind_of g ≡ User → ⊥) × ((before : List Token) × (k : ℕ) × (q : ℕ) × (tag_piece g ≡ before ++ separator k q ∷ []) × (k ≤ 2)))))
unfolding tag_rule
rule_says g =
    let un : Bool = begins (text "UN") (tag_of g) in
    let service : Bool = not (is User (kind_of g)) in
    let alone : Bool = ended_by 2 (tag_piece g) in
    let first : Bool = is_tag (tag_of g) && ended_by 1 (tag_repeat g) in
    says_as
    (says_both first (not un || (service && alone))
    (says_both (is_tag (tag_of g)) (ended_by 1 (tag_repeat g)) (λ h. h, λ h. h) (ended_says 1 (tag_repeat g)))
    (says_either (not un) (service && alone) (says_not un (says_begins (text "UN") (tag_of g)))
    (says_both service alone (says_not (is User (kind_of g)) (is_says User (kind_of g))) (ended_says 2 (tag_piece g)))))
    (λ h. (h.0.0, h.0.1, h.1))
    (λ h. ((h.0, h.1), h.2))

-- ---- counts

module _ (kind : Kind) (past : List Kind) where
  -- every segment counts, and is a message's or a group's where it is its header
  pub counted : (segments_in [] ≡ 0)
      × (messages_in [] ≡ 0)
      × (groups_in [] ≡ 0)
      × (segments_in (kind ∷ past) ≡ segments_in past + 1)
      × (messages_in (Unh ∷ past) ≡ messages_in past + 1)
      × ((kind ≡ Unh → ⊥) → messages_in (kind ∷ past) ≡ messages_in past)
      × (groups_in (Ung ∷ past) ≡ groups_in past + 1)
      × ((kind ≡ Ung → ⊥) → groups_in (kind ∷ past) ≡ groups_in past)
  unfolding segments_in messages_in groups_in those is
  counted = (
    refl,
    refl,
    refl,
    omega arith,
    omega arith,
    λ n. rw ((fails (is Unh kind) (is_says Unh kind)).1 n),
    omega arith,
    λ n. rw ((fails (is Ung kind) (is_says Ung kind)).1 n),
  )

-- what passed since a header, which is the nearest of its kind
module _ (nearer farther : List Kind) where
  pub since_header : ((kind : Kind) → Memᴰ kind nearer → kind ≡ Unh → ⊥) → segments_since_header (nearer ++ Unh ∷ farther) ≡ length nearer + 1
  unfolding segments_since_header segments_in
  since_header n =
      ap length (through_is (is Unh) nearer Unh farther (λ k m. (fails (is Unh k) (is_says Unh k)).1 (n k m)) ((is_says Unh Unh).1 refl))
      ∙ length-append nearer (Unh ∷ [])

  pub since_group : ((kind : Kind) → Memᴰ kind nearer → kind ≡ Ung → ⊥) → messages_since_group (nearer ++ Ung ∷ farther) ≡ messages_in nearer
  unfolding messages_since_group messages_in those is
  since_group n =
      ap messages_in (through_is (is Ung) nearer Ung farther (λ k m. (fails (is Ung k) (is_says Ung k)).1 (n k m)) ((is_says Ung Ung).1 refl))
      ∙ trailing nearer
    where
      trailing : (ks : List Kind) → messages_in (ks ++ Ung ∷ []) ≡ messages_in ks
      trailing [] = refl
      trailing (k ∷ ks) = step (is Unh k) (trailing ks)
        where
          step : (t : Bool) → messages_in (ks ++ Ung ∷ []) ≡ messages_in ks
              → length (if t then k ∷ those (is Unh) (ks ++ Ung ∷ []) else those (is Unh) (ks ++ Ung ∷ []))
              ≡ length (if t then k ∷ those (is Unh) ks else those (is Unh) ks)
          step true e = omega arith
          step false e = e

-- ---- where the check stands

pub open_says : (header trailer : Kind) (past : List Kind) → Says (is_open header trailer past) (Open header trailer past)
unfolding is_open
open_says header trailer [] = (λ h. absurd (false≢true h), λ h. absurd (nothing h.0 h.1 h.2))
  where
    nothing : (nearer farther : List Kind) → [] ≡ nearer ++ header ∷ farther → ⊥
    nothing [] farther e = nil≢cons e
    nothing (k ∷ nearer) farther e = nil≢cons e
open_says header trailer (kind ∷ past) =
    step (is header kind) (is_says header kind) (is trailer kind) (is_says trailer kind) (open_says header trailer past)
  where
    -- the nearest is another one
    onward : (kind ≡ header → ⊥) → Open header trailer (kind ∷ past) → (kind ≡ trailer → ⊥) × Open header trailer past
    onward other ([], farther, e, h) = absurd (other (head-eq_of_cons-eq e))
    onward other (k ∷ nearer, farther, e, h) =
        let same : kind ≡ k = head-eq_of_cons-eq e in (
          λ q. (h k (Memᴰ.head refl)).1 (sym same ∙ q),
          (nearer, farther, tail-eq_of_cons-eq e, λ j m. h j (Memᴰ.tail m)),
        )

    step : (b : Bool) → Says b (kind ≡ header) → (d : Bool) → Says d (kind ≡ trailer)
        → Says (is_open header trailer past) (Open header trailer past)
        → Says (if b then true else (if d then false else is_open header trailer past)) (Open header trailer (kind ∷ past))
    step true b d t rest = (
      λ e. ([], past, ap (λ (k : Kind). k ∷ past) (b.0 refl), λ k m. absurd (Memᴰ.not-nil m)),
      λ h. refl,
    )
    step false b true t rest =
        (λ e. absurd (false≢true e), λ h. absurd ((onward ((fails false b).0 refl) h).0 (t.0 refl)))
    step false b false t rest = (
      λ e.
          let (nearer, farther, parts, h) = rest.0 e in
          (kind ∷ nearer, farther, ap (λ (l : List Kind). kind ∷ l) parts, closer nearer h),
      λ h. rest.1 (onward ((fails false b).0 refl) h).1,
    )
      where
        closer : (nearer : List Kind) → ((k : Kind) → Memᴰ k nearer → (k ≡ header → ⊥) × (k ≡ trailer → ⊥))
            → (k : Kind) → Memᴰ k (kind ∷ nearer) → (k ≡ header → ⊥) × (k ≡ trailer → ⊥)
        closer nearer h k (Memᴰ.head e) = (λ q. (fails false b).0 refl (sym e ∙ q), λ q. (fails false t).0 refl (sym e ∙ q))
        closer nearer h k (Memᴰ.tail m) = h k m

-- "before UNB, between groups, inside a group, or inside a message of a group or of none"; or after UNZ
module _ (past : List Kind) where
  opened : (header trailer : Kind) → Open header trailer past → is_open header trailer past ≡ true
  opened header trailer = (open_says header trailer past).1

  unopened : (header trailer : Kind) → (Open header trailer past → ⊥) → is_open header trailer past ≡ false
  unopened header trailer = (fails (is_open header trailer past) (open_says header trailer past)).1

  pub after_interchange : Open Unz Unb past → standing past ≡ AfterInterchange
  unfolding standing
  after_interchange z = rw (opened Unz Unb z)

  module _ (z : Open Unz Unb past → ⊥) where
    pub in_group_message : Open Unh Unt past → Open Ung Une past → standing past ≡ InGroupMessage
    unfolding standing
    in_group_message h g = rw (unopened Unz Unb z, opened Unh Unt h, opened Ung Une g)

    pub in_message_lem : Open Unh Unt past → (Open Ung Une past → ⊥) → standing past ≡ InMessage
    unfolding standing
    in_message_lem h g = rw (unopened Unz Unb z, opened Unh Unt h, unopened Ung Une g)

    module _ (h : Open Unh Unt past → ⊥) where
      pub in_group : Open Ung Une past → standing past ≡ InGroup
      unfolding standing
      in_group g = rw (unopened Unz Unb z, unopened Unh Unt h, opened Ung Une g)

      module _ (g : Open Ung Une past → ⊥) where
        pub between_groups : Open Unb Unz past → standing past ≡ BetweenGroups
        unfolding standing
        between_groups b = rw (unopened Unz Unb z, unopened Unh Unt h, unopened Ung Une g, opened Unb Unz b)

        pub before_interchange : (Open Unb Unz past → ⊥) → standing past ≡ BeforeInterchange
        unfolding standing
        before_interchange b = rw (unopened Unz Unb z, unopened Unh Unt h, unopened Ung Une g, unopened Unb Unz b)

-- what the walk's struct holds
pub walk_is : (section : Section) (past : List Kind) → let walk = walk_over section past in
    (walk.standing ≡ standing past)
    × (walk.section ≡ section)
    × (walk.segments.0 ≡ segments_in past)
    × (walk.messages.0 ≡ messages_in past)
    × (walk.groups.0 ≡ groups_in past)
    × (walk.in_message.0 ≡ segments_since_header past)
    × (walk.in_group.0 ≡ messages_since_group past)
unfolding walk_over
walk_is section past = (refl, refl, refl, refl, refl, refl, refl)

-- "A group is UNG, one or more messages, UNE.": in a group a message may begin, and UNE is allowed once there was one
pub group_allows : (past : List Kind)
    → (allowed_at InGroup past Unh ≡ true) × (allowed_at InGroup past Une ≡ ltb 0 (messages_since_group past)) × (allowed_at InGroup past Unz ≡ false)
unfolding allowed_at is
group_allows past = (refl, refl, refl)

-- "then one or more groups, or one or more messages, not both; then UNZ": however many passed
pub between_allows : (past : List Kind)
    → Says (allowed_at BetweenGroups past Unz) (0 < messages_in past)
    × Says (allowed_at BetweenGroups past Unh) (groups_in past ≡ 0)
    × Says (allowed_at BetweenGroups past Ung) ((0 < groups_in past) ⊎ (messages_in past ≡ 0))
unfolding allowed_at is
between_allows past =
    let started : Bool = ltb 0 (groups_in past) || eqb (messages_in past) 0 in (
      says_lt 0 (messages_in past),
      alone (eqb (groups_in past) 0) (says_eq (groups_in past) 0),
      alone (started || false) (alone started
          (says_either (ltb 0 (groups_in past)) (eqb (messages_in past) 0) (says_lt 0 (groups_in past)) (says_eq (messages_in past) 0))),
    )
  where
    alone : (b : Bool) {P : Type 0} → Says b P → Says (b || false) P
    alone true h = h
    alone false h = h

-- outside of every message, UNS, UNT and user segments are never allowed, and UNE outside of every group is not; after UNZ nothing is
pub outside_allows : (past : List Kind)
    → (allowed_at BetweenGroups past Uns ≡ false)
    × (allowed_at BetweenGroups past Unt ≡ false)
    × (allowed_at BetweenGroups past Une ≡ false)
    × (allowed_at BetweenGroups past User ≡ false)
    × (allowed_at InGroup past Uns ≡ false)
    × (allowed_at InGroup past Unt ≡ false)
    × (allowed_at InGroup past User ≡ false)
unfolding allowed_at is
outside_allows past = (refl, refl, refl, refl, refl, refl, refl)

pub after_allows : (past : List Kind) (kind : Kind) → allowed_at AfterInterchange past kind ≡ false
unfolding allowed_at
after_allows past kind = refl

-- a segment's kind is the one that its tag names
pub kind_is : (g : Segment) → kind_of g ≡ kind_named (tag_of g)
unfolding kind_of
kind_is g = refl
