-- The tests of refusals 10 to 12 by the kind of a segment, and that they ask of a frame that its header and trailer agree.
-- What passed is a list of segments, the nearest first. Assumes nothing.
use Rattle.std.specs.Prelude.{if◌then◌else◌}
use Prim.Native.Nat.{ℕ, suc}
use native.Mathlib.Omega.{arith}
use mathlib.Core.Path.{◌≡◌, refl, sym, ap, ◌∙◌}
use mathlib.Core.Logic.{◌↔◌}
use mathlib.Core.Bool.{true, false, not, ◌&&◌, false≢true}
use mathlib.Core.List.{List, [], ◌∷◌}
use mathlib.Core.Option.{Option, none, some}
use lib.ListN.{length, length-map, length-reverse_aux}
use lib.Dec.{eqb}
use borrow.Author.Tests.{eqb-true, eq-eqb, not-false}
use Rattle.lists.specs.Lists.{through, first, maybe}
use Rattle.lists.proofs.Texts.{and_left, and_right, and_both, if_true, if_false, same_eq, same_refl}
use Rattle.values.specs.Tokens.{Segment}
use Rattle.segments.specs.declared.Kind.{Kind}
use Rattle.segments.specs.declared.Kind.TheVariants.{Unb, Ung, Unh, Uns, Unt, Une, Unz, User}
use Rattle.segments.specs.Kinds.{is}
use Rattle.segments.specs.Tags.{kind_of}
use Rattle.segments.specs.Order.{segments_in, segments_since_header, messages_since_group, allowed}
use Rattle.control_elements.specs.Positions.{position_table, positions_of}
use Rattle.control_elements.specs.Control.{control_element, is_reference, is_count, stands_well, control_rule, header_of, reference_of, same_value, nearest_reference, reference_differs, decimal, true_count, count_of, count_wrong}
use Rattle.control_elements.specs.Sections.{section_rule}
use Rattle.stages.specs.Places.{misplaced, bad_control}
use Rattle.grammar_laws.specs.Grammar.{message_count, interchange_count, Agrees}
use Rattle.grammar_laws.proofs.Trail.{◌▸◌}
use Rattle.grammar_laws.proofs.Pieces.{kinds, number, passed_over, own, through_own, group_count_lem, all_messages, all_groups}
use Rattle.grammar_laws.proofs.Passing.{Passes, Rules}

-- ---- what a segment has to say

-- a trailer's reference is that of the nearest header of its sort, and its count is the number
pub record Closes (header : Kind) (number : ℕ) (past : List Segment) (reference count : Option (List ℕ)) : Type 0 where
  pub referenced : is_reference reference ≡ true
  pub same_reference : reference ≡ nearest_reference header past
  pub counted : is_count count ≡ true
  pub right_count : maybe 0 decimal count ≡ number

-- what a segment of each kind has to say, by its reference and count
abbrev pub SaysWith : Kind → List Segment → (reference count : Option (List ℕ)) → Type 0
SaysWith Unb past reference count = is_reference reference ≡ true
SaysWith Ung past reference count = is_reference reference ≡ true
SaysWith Unh past reference count = is_reference reference ≡ true
SaysWith Uns past reference count = Unit {0}
SaysWith Unt past reference count = Closes Unh (segments_since_header (Unt ∷ kinds past)) past reference count
SaysWith Une past reference count = Closes Ung (messages_since_group (kinds past)) past reference count
SaysWith Unz past reference count = Closes Unb (interchange_count past) past reference count
SaysWith User past reference count = Unit {0}

abbrev pub Says : Kind → List Segment → Segment → Type 0
Says kind past g = SaysWith kind past (reference_of g) (count_of g)

same_value_lem : (v w : Option (List ℕ)) → same_value v w ≡ true → v ≡ w
unfolding same_value
same_value_lem none none h = refl
same_value_lem none (some w) h = absurd (false≢true h)
same_value_lem (some v) none h = absurd (false≢true h)
same_value_lem (some v) (some w) h = ap some (same_eq v w h)

same_value_refl : (v : Option (List ℕ)) → same_value v v ≡ true
unfolding same_value
same_value_refl none = refl
same_value_refl (some v) = same_refl v

-- the three tests of a trailer
closes_iff : {header : Kind} {number : ℕ} {past : List Segment} {reference count : Option (List ℕ)}
    → ((is_count count && is_reference reference) ≡ true)
    × (not (same_value reference (nearest_reference header past)) ≡ false)
    × (not (eqb (maybe 0 decimal count) number) ≡ false)
    ↔ Closes header number past reference count
closes_iff {header} {number} {past} {reference} {count} = (
  λ h.
      record {
        referenced = and_right (is_count count) (is_reference reference) h.0;
        same_reference = same_value_lem reference nearest (not-false (same_value reference nearest) h.1);
        counted = and_left (is_count count) (is_reference reference) h.0;
        right_count = eqb-true (maybe 0 decimal count) number (not-false (eqb (maybe 0 decimal count) number) h.2);
      },
  λ h. (
    and_both (is_count count) (is_reference reference) h.counted h.referenced,
    ap not (ap (same_value reference) (sym h.same_reference) ∙ same_value_refl reference),
    ap not (eq-eqb (maybe 0 decimal count) number h.right_count),
  ),
)
  where
    nearest : Option (List ℕ)
    nearest = nearest_reference header past

module _ (past : List Segment) (g : Segment) where
  -- the tests of refusals 10, 11 and 12, by the segment's kind
  abbrev Tests : Kind → (reference count : Option (List ℕ)) → Type 0
  Tests kind reference count =
      ((stands_well (positions_of kind).count is_count g && stands_well (positions_of kind).reference is_reference g) ≡ true)
      × (maybe false (λ header. not (same_value reference (nearest_reference header past))) (header_of kind) ≡ false)
      × (maybe false (λ n. not (eqb (maybe 0 decimal count) n)) (true_count kind (kinds past)) ≡ false)

  says_iff : (kind : Kind)
      → Tests kind (control_element g (positions_of kind).reference) (control_element g (positions_of kind).count)
      ↔ SaysWith kind past (control_element g (positions_of kind).reference) (control_element g (positions_of kind).count)
  unfolding stands_well positions_of position_table header_of true_count maybe
  says_iff Unb = (λ h. h.0, λ h. (h, refl, refl))
  says_iff Ung = (λ h. h.0, λ h. (h, refl, refl))
  says_iff Unh = (λ h. h.0, λ h. (h, refl, refl))
  says_iff Uns = (λ h. tt, λ h. (refl, refl, refl))
  says_iff Unt = closes_iff
  says_iff Une = closes_iff
  says_iff Unz = closes_iff
  says_iff User = (λ h. tt, λ h. (refl, refl, refl))

  -- a segment passes exactly where none of the tests of refusals 9 to 12 fails
  pub passes-iff :
      (misplaced past g ≡ false)
      × (bad_control past g ≡ false)
      × (reference_differs past g ≡ false)
      × (count_wrong past g ≡ false)
      ↔ Passes Says past g
  unfolding control_rule reference_differs count_wrong reference_of count_of
  passes-iff = (
    λ h.
        record {
          place = and_left (allowed (kinds past) (kind_of g)) (section_rule past g) (ordered h.0);
          marks = and_right (allowed (kinds past) (kind_of g)) (section_rule past g) (ordered h.0);
          says = (says_iff (kind_of g)).0 (not-false (control_rule g) h.1, h.2, h.3);
        },
    λ h.
        let says = (says_iff (kind_of g)).1 h.says in (
          ap not (and_both (allowed (kinds past) (kind_of g)) (section_rule past g) h.place h.marks),
          ap not says.0,
          says.1,
          says.2,
        ),
  )
    where
      ordered : misplaced past g ≡ false → (allowed (kinds past) (kind_of g) && section_rule past g) ≡ true
      ordered = not-false (allowed (kinds past) (kind_of g) && section_rule past g)

-- ---- what it asks of a frame

-- segments of other kinds make no difference
nearest-▸ : (kind : Kind) (past gs : List Segment) → number kind gs ≡ 0
    → nearest_reference kind (past ▸ gs) ≡ nearest_reference kind past
unfolding first
nearest-▸ kind past [] h = refl
nearest-▸ kind past (g ∷ gs) h =
    let other = passed_over kind g gs h in
    nearest-▸ kind (g ∷ past) gs other.1
    ∙ ap (maybe none reference_of)
    (if_false (is kind (kind_of g)) (some g) (first (λ s. is kind (kind_of s)) past) other.0)

module _ (header : Kind) (head : Segment) (outer middle : List Segment) (opening : kind_of head ≡ header)
    (others : number header middle ≡ 0) where
  -- an open header is the nearest of its kind
  nearest_own : nearest_reference header (head ∷ outer ▸ middle) ≡ reference_of head
  unfolding first maybe
  nearest_own =
      nearest-▸ header (head ∷ outer) middle others
      ∙ ap (maybe none reference_of)
      (if_true (is header (kind_of head)) (some head) (first (λ g. is header (kind_of g)) outer) (own header head opening))

  -- and the trailer that closes it has to agree with it
  agrees_iff : {n : ℕ} {count : List Segment → ℕ} (tail : Segment) → n ≡ count middle
      → (is_reference (reference_of head) ≡ true) × Closes header n (head ∷ outer ▸ middle) (reference_of tail) (count_of tail)
      ↔ Agrees count head middle tail
  agrees_iff tail right = (
    λ h.
        record {
          reference = h.0;
          same_reference = h.1.same_reference ∙ nearest_own;
          counted = h.1.counted;
          right_count = h.1.right_count ∙ right;
        },
    λ h. (
      h.reference,
      record {
        referenced = ap is_reference h.same_reference ∙ h.reference;
        same_reference = h.same_reference ∙ sym nearest_own;
        counted = h.counted;
        right_count = h.right_count ∙ sym right;
      },
    ),
  )

-- since UNH, the segments are UNH, the middle and UNT
message_count_lem : (head : Segment) (outer middle : List Segment) → kind_of head ≡ Unh → number Unh middle ≡ 0
    → segments_since_header (Unt ∷ kinds (head ∷ outer ▸ middle)) ≡ message_count middle
unfolding segments_since_header segments_in through is
message_count_lem head outer middle opening others =
    ap (λ (l : List Kind). suc (length l)) (through_own Unh head outer middle opening others)
    ∙ omega (arith, length-reverse_aux (kinds middle) (Unh ∷ []), length-map middle kind_of)

-- after UNB, the count is that of the middle
interchange_count_lem : (head : Segment) (middle : List Segment) → kind_of head ≡ Unb
    → interchange_count (head ∷ [] ▸ middle) ≡ interchange_count middle
interchange_count_lem head middle opening = λ i.
    if eqb (all_groups head middle opening i) 0 then all_messages head middle opening i else all_groups head middle opening i

-- what the tests ask is that headers and trailers agree
pub agreeing : Rules Agrees Says
agreeing =
    record {
      user = λ past g. tt;
      section = λ past g. tt;
      message =
          λ head outer middle tail opening others.
          agrees_iff Unh head outer middle opening others tail (message_count_lem head outer middle opening others);
      group =
          λ head outer middle tail opening others.
          agrees_iff Ung head outer middle opening others tail (group_count_lem head outer middle opening others);
      interchange =
          λ head middle tail opening others.
          agrees_iff Unb head [] middle opening others tail (interchange_count_lem head middle opening);
    }
