-- What the definitions say in numbers: where a count and a reference stand in each service segment, what each must be, and what a trailer
-- must say of what it closes. What passed is a list of segments, the nearest first. Assumes nothing.
use Prim.Native.Nat.{ℕ, ◌+◌, ◌*◌, ◌-◌}
use mathlib.Core.Path.{◌≡◌, refl, sym, ap, ◌∙◌}
use mathlib.Core.Bool.{true, false, ◌&&◌}
use mathlib.Core.List.{List, [], ◌∷◌, ◌++◌, map, map-append, Memᴰ}
use mathlib.Core.Option.{Option, none, some, none-ne-some, some-injective}
use mathlib.Core.Logic.{◌⊎◌, inl, inr, ◌↔◌}
use native.Mathlib.Omega.{arith}
use lib.Dec.{eqb}
use borrow.Author.Tests.{eq-eqb, ne_eqb}
use lib.ListN.{length, length-map}
use Rattle.lists.specs.Lists.{same, all, first, at, single, maybe}
use Rattle.lists.proofs.Tests.{Says, says_eq, says_both, says_not, says_same, says_as, says_all, says_maybe, fails, first_is}
use Rattle.characters.specs.Characters.{between, digit}
use Rattle.characters.proofs.Words.{between_says, digit_says}
use Rattle.values.specs.Tokens.{Segment}
use Rattle.values.specs.Trimming.{contents_of}
use Rattle.segments.specs.declared.Kind.{Kind}
use Rattle.segments.specs.declared.Kind.TheVariants.{Unb, Ung, Unh, Uns, Unt, Une, Unz, User}
use Rattle.segments.specs.Kinds.{is}
use Rattle.segments.specs.Tags.{kind_of}
use Rattle.segments.specs.Order.{segments_since_header, messages_since_group, messages_in, groups_in}
use Rattle.segments.proofs.Words.{is_says, since_header, since_group}
use Rattle.control_elements.specs.Positions.{position_table, positions_of}
use Rattle.control_elements.specs.Control.{only_value, control_element, is_reference, is_count, stands_well, control_rule, header_of, reference_of, same_value, reference_differs, decimal_from, decimal, true_count, count_of, count_wrong}
pub use Rattle.control_elements.specs.Notions.{Reference, Count, Nearest}

-- ---- one element

-- "one component", of one repeat: of the element at a position, which is counted from 1 after the tag
pub element_is : (g : Segment) (position : ℕ) (value : List ℕ)
    → (control_element g position ≡ some value) ↔ (at (contents_of g) position ≡ some ((value ∷ []) ∷ []))
unfolding control_element only_value maybe single
element_is g position value = (step (at (contents_of g) position), λ e. ap (maybe none only_value) e)
  where
    step : (o : Option (List (List (List ℕ)))) → maybe none only_value o ≡ some value → o ≡ some ((value ∷ []) ∷ [])
    step none e = absurd (none-ne-some value e)
    step (some []) e = absurd (none-ne-some value e)
    step (some ([] ∷ [])) e = absurd (none-ne-some value e)
    step (some ((v ∷ []) ∷ [])) e = ap (λ (w : List ℕ). some ((w ∷ []) ∷ [])) (some-injective v value e)
    step (some ((v ∷ w ∷ vs) ∷ [])) e = absurd (none-ne-some value e)
    step (some (r ∷ q ∷ rs)) e = absurd (none-ne-some value e)

module _ (g : Segment) (position : ℕ) where
  pub reference_says : Says (is_reference (control_element g position)) (Reference (contents_of g) position)
  unfolding is_reference
  reference_says =
      says_as (says_maybe (λ value. between 1 14 (length value)) (λ value. between_says 1 14 (length value)) (control_element g position))
      (λ h. (h.0, (element_is g position h.0).0 h.1, h.2.0, h.2.1))
      (λ h. (h.0, (element_is g position h.0).1 h.1, (h.2, h.3)))

  pub count_says : Says (is_count (control_element g position)) (Count (contents_of g) position)
  unfolding is_count
  count_says =
      says_as
      (says_maybe (λ value. between 1 6 (length value) && all digit value)
      (λ value. says_both (between 1 6 (length value)) (all digit value) (between_says 1 6 (length value)) (says_all digit digit_says value))
      (control_element g position))
      (λ h. (h.0, (element_is g position h.0).0 h.1, h.2.0.0, h.2.0.1, h.2.1))
      (λ h. (h.0, (element_is g position h.0).1 h.1, ((h.2, h.3), h.4)))

-- ---- refusal 10, by kind of segment

module _ (g : Segment) where
  pub unb_control : kind_of g ≡ Unb → Says (control_rule g) (Reference (contents_of g) 5)
  unfolding control_rule stands_well positions_of position_table
  unb_control e = rw e (reference_says g 5)

  pub ung_control : kind_of g ≡ Ung → Says (control_rule g) (Reference (contents_of g) 5)
  unfolding control_rule stands_well positions_of position_table
  ung_control e = rw e (reference_says g 5)

  pub unh_control : kind_of g ≡ Unh → Says (control_rule g) (Reference (contents_of g) 1)
  unfolding control_rule stands_well positions_of position_table
  unh_control e = rw e (reference_says g 1)

  trailer_test : Says (is_count (control_element g 1) && is_reference (control_element g 2)) (Count (contents_of g) 1 × Reference (contents_of g) 2)
  trailer_test = says_both (is_count (control_element g 1)) (is_reference (control_element g 2)) (count_says g 1) (reference_says g 2)

  pub unt_control : kind_of g ≡ Unt → Says (control_rule g) (Count (contents_of g) 1 × Reference (contents_of g) 2)
  unfolding control_rule stands_well positions_of position_table
  unt_control e = rw e trailer_test

  pub une_control : kind_of g ≡ Une → Says (control_rule g) (Count (contents_of g) 1 × Reference (contents_of g) 2)
  unfolding control_rule stands_well positions_of position_table
  une_control e = rw e trailer_test

  pub unz_control : kind_of g ≡ Unz → Says (control_rule g) (Count (contents_of g) 1 × Reference (contents_of g) 2)
  unfolding control_rule stands_well positions_of position_table
  unz_control e = rw e trailer_test

  -- "UNS has neither", and a user segment is none
  pub no_control : (kind_of g ≡ Uns) ⊎ (kind_of g ≡ User) → control_rule g ≡ true
  unfolding control_rule stands_well positions_of position_table
  no_control (inl e) = rw e
  no_control (inr e) = rw e

-- ---- refusals 11 and 12: a trailer, and what passed before it

nearest_first : (kind : Kind) (past : List Segment) (n : Nearest kind past) → first (λ g. is kind (kind_of g)) past ≡ some n.1
nearest_first kind past (nearer, header, farther, parts, own, before) =
    ap (first (λ g. is kind (kind_of g))) parts
    ∙ first_is (λ g. is kind (kind_of g)) nearer header farther
    (λ g m. (fails (is kind (kind_of g)) (is_says kind (kind_of g))).1 (before g m))
    ((is_says kind (kind_of header)).1 own)

-- a trailer of this kind with its reference at 2, and its header with one at another position
references_differ : (trailer header : Kind) (position : ℕ) → header_of trailer ≡ some header
    → (positions_of trailer).reference ≡ 2 → (positions_of header).reference ≡ position
    → (past : List Segment) (g : Segment) → kind_of g ≡ trailer → (n : Nearest header past) (v w : List ℕ)
    → at (contents_of g) 2 ≡ some ((v ∷ []) ∷ []) → at (contents_of n.1) position ≡ some ((w ∷ []) ∷ [])
    → Says (reference_differs past g) (v ≡ w → ⊥)
unfolding reference_differs maybe reference_of same_value
references_differ trailer header position closes two there past g k n v w ev ew =
    rw (k, closes, two, (element_is g 2 v).1 ev, nearest_first header past n, n.4, there, (element_is n.1 position w).1 ew)
    (says_not (same v w) (says_same v w))

-- refusal 11, by kind of segment
module _ (past : List Segment) (g : Segment) (v w : List ℕ) where
  pub unt_reference : kind_of g ≡ Unt → (n : Nearest Unh past) → at (contents_of g) 2 ≡ some ((v ∷ []) ∷ [])
      → at (contents_of n.1) 1 ≡ some ((w ∷ []) ∷ []) → Says (reference_differs past g) (v ≡ w → ⊥)
  unfolding header_of positions_of position_table
  unt_reference k n = references_differ Unt Unh 1 refl refl refl past g k n v w

  pub une_reference : kind_of g ≡ Une → (n : Nearest Ung past) → at (contents_of g) 2 ≡ some ((v ∷ []) ∷ [])
      → at (contents_of n.1) 5 ≡ some ((w ∷ []) ∷ []) → Says (reference_differs past g) (v ≡ w → ⊥)
  unfolding header_of positions_of position_table
  une_reference k n = references_differ Une Ung 5 refl refl refl past g k n v w

  pub unz_reference : kind_of g ≡ Unz → (n : Nearest Unb past) → at (contents_of g) 2 ≡ some ((v ∷ []) ∷ [])
      → at (contents_of n.1) 5 ≡ some ((w ∷ []) ∷ []) → Says (reference_differs past g) (v ≡ w → ⊥)
  unfolding header_of positions_of position_table
  unz_reference k n = references_differ Unz Unb 5 refl refl refl past g k n v w

-- refusal 12, by kind of segment
counts_differ : (trailer : Kind) (count : ℕ) (past : List Segment) (g : Segment) → kind_of g ≡ trailer
    → (positions_of trailer).count ≡ 1 → true_count trailer (map kind_of past) ≡ some count → (v : List ℕ)
    → at (contents_of g) 1 ≡ some ((v ∷ []) ∷ []) → Says (count_wrong past g) (decimal v ≡ count → ⊥)
unfolding count_wrong maybe count_of
counts_differ trailer count past g k one right v e =
    rw (k, right, one, (element_is g 1 v).1 e) (says_not (eqb (decimal v) count) (says_eq (decimal v) count))

-- none of the kinds before the nearest header is its own
apart : (kind : Kind) (gs : List Segment) → ((g : Segment) → Memᴰ g gs → kind_of g ≡ kind → ⊥)
    → (k : Kind) → Memᴰ k (map kind_of gs) → k ≡ kind → ⊥
apart kind [] h k m q = elim m [ ]
apart kind (g ∷ gs) h k (Memᴰ.head e) q = h g (Memᴰ.head refl) (sym e ∙ q)
apart kind (g ∷ gs) h k (Memᴰ.tail m) q = apart kind gs (λ x n. h x (Memᴰ.tail n)) k m q

module _ (past : List Segment) (g : Segment) (v : List ℕ) (e : at (contents_of g) 1 ≡ some ((v ∷ []) ∷ [])) where
  -- the kinds of what passed, about the nearest header
  kinds_split : (kind : Kind) (n : Nearest kind past) → map kind_of past ≡ map kind_of n.0 ++ kind ∷ map kind_of n.2
  kinds_split kind (nearer, header, farther, parts, own, before) =
      ap (map kind_of) parts ∙ map-append kind_of nearer (header ∷ farther) ∙ ap (λ (k : Kind). map kind_of nearer ++ k ∷ map kind_of farther) own

  -- "UNT's count is the segments from UNH to UNT, both included"
  pub unt_count : kind_of g ≡ Unt → (n : Nearest Unh past) → Says (count_wrong past g) (decimal v ≡ length n.0 + 2 → ⊥)
  unfolding positions_of position_table true_count
  unt_count k n =
      let since : segments_since_header (Unt ∷ map kind_of past) ≡ length (Unt ∷ map kind_of n.0) + 1 =
      ap (λ (ks : List Kind). segments_since_header (Unt ∷ ks)) (kinds_split Unh n)
      ∙ since_header (Unt ∷ map kind_of n.0) (map kind_of n.2) before
      in
      counts_differ Unt (length n.0 + 2) past g k refl (ap some (omega (arith, since, length-map n.0 kind_of))) v e
    where
      before : (kind : Kind) → Memᴰ kind (Unt ∷ map kind_of n.0) → kind ≡ Unh → ⊥
      before kind (Memᴰ.head h) q = let z : ◌≡◌ {A = ℕ} 0 1 = cc in omega arith
      before kind (Memᴰ.tail m) q = apart Unh n.0 n.5 kind m q

  -- "UNE's is the messages of the group"
  pub une_count : kind_of g ≡ Une → (n : Nearest Ung past) → Says (count_wrong past g) (decimal v ≡ messages_in (map kind_of n.0) → ⊥)
  unfolding positions_of position_table true_count
  une_count k n =
      counts_differ Une (messages_in (map kind_of n.0)) past g k refl
      (ap some (ap messages_since_group (kinds_split Ung n) ∙ since_group (map kind_of n.0) (map kind_of n.2) (apart Ung n.0 n.5))) v e

  -- "UNZ's is the groups, or the messages where there are no groups."
  pub unz_groups : kind_of g ≡ Unz → (groups_in (map kind_of past) ≡ 0 → ⊥) → Says (count_wrong past g) (decimal v ≡ groups_in (map kind_of past) → ⊥)
  unfolding positions_of position_table true_count
  unz_groups k n =
      counts_differ Unz (groups_in (map kind_of past)) past g k refl
      (ap some (rw (ne_eqb (groups_in (map kind_of past)) 0 n))) v e

  pub unz_messages : kind_of g ≡ Unz → groups_in (map kind_of past) ≡ 0 → Says (count_wrong past g) (decimal v ≡ messages_in (map kind_of past) → ⊥)
  unfolding positions_of position_table true_count
  unz_messages k z =
      counts_differ Unz (messages_in (map kind_of past)) past g k refl
      (ap some (rw (eq-eqb (groups_in (map kind_of past)) 0 z))) v e

-- no other segment meets 11 or 12
pub no_trailer : (past : List Segment) (g : Segment) (kind : Kind) → kind_of g ≡ kind
    → (kind ≡ Unt → ⊥) → (kind ≡ Une → ⊥) → (kind ≡ Unz → ⊥) → (reference_differs past g ≡ false) × (count_wrong past g ≡ false)
unfolding reference_differs count_wrong header_of true_count maybe
no_trailer past g Unb e t n z = (rw e, rw e)
no_trailer past g Ung e t n z = (rw e, rw e)
no_trailer past g Unh e t n z = (rw e, rw e)
no_trailer past g Uns e t n z = (rw e, rw e)
no_trailer past g Unt e t n z = absurd (t refl)
no_trailer past g Une e t n z = absurd (n refl)
no_trailer past g Unz e t n z = absurd (z refl)
no_trailer past g User e t n z = (rw e, rw e)

-- ---- the number that digits spell

-- one digit more, which stands at the end: ten times as much, and the digit
pub decimal_digits : (ds : List ℕ) (d : ℕ) → (decimal [] ≡ 0) × (decimal (ds ++ (48 + d) ∷ []) ≡ decimal ds * 10 + d)
unfolding decimal decimal_from
decimal_digits ds d = (refl, onward 0 ds)
  where
    onward : (n : ℕ) (ds : List ℕ) → decimal_from n (ds ++ (48 + d) ∷ []) ≡ decimal_from n ds * 10 + d
    onward n [] = omega arith
    onward n (c ∷ cs) = onward (n * 10 + (c - 48)) cs
