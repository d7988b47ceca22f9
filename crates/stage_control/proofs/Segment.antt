-- The answer for one segment, computed from what is kept, is the stage's answer after all that passed. Assumes nothing.
use Rattle.std.specs.Prelude.{if◌then◌else◌, Ok}
use Prim.Native.Nat.{ℕ, ◌<◌}
use mathlib.Core.Path.{◌≡◌, refl, sym, ap, ap₂, subst, ◌∙◌}
use mathlib.Core.Bool.{Bool, true, false, not, ◌&&◌, ◌||◌}
use mathlib.Core.List.{List, map}
use mathlib.Core.Option.{Option, none, some}
use mathlib.Core.Logic.{◌⊎◌, inl, inr, ⊎_elim}
use native.Mathlib.Omega.{arith}
use lib.ListN.{length}
use lib.Dec.{eqb}
use Rattle.lists.specs.Lists.{same, through, maybe}
use Rattle.characters.specs.declared.Characters.{Characters}
use Rattle.refusals.specs.declared.Fault.TheVariants.{BadControl, ReferenceDiffers, CountWrong}
use Rattle.refusals.specs.Refusals.{outcome, failed_at, Outcome}
use Rattle.values.specs.Tokens.{Token, Segment, tokens_at}
use Rattle.scanner.specs.Scan.{segment_at}
use Rattle.scanner.proofs.Segments.{segment_start_lem}
use Rattle.segments.specs.declared.Kind.{Kind}
use Rattle.segments.specs.declared.Kind.TheVariants.{Unb, Ung, Unh, Uns, Unt, Une, Unz, User}
use Rattle.segments.specs.declared.Walk.{Walk}
use Rattle.segments.specs.Kinds.{is}
use Rattle.segments.specs.Tags.{kind_of}
use Rattle.segments.specs.Order.{segments_in, segments_since_header}
use Rattle.control_elements.specs.declared.Positions.{Positions}
use Rattle.control_elements.specs.Positions.{position_table, positions_of}
use Rattle.control_elements.specs.Control.{is_reference, stands_well, control_rule, header_of, reference_of, same_value, nearest_reference, reference_differs, decimal, true_count, count_of, count_wrong}
use Rattle.stage_walks.specs.Walks.{refuse, controlled_segment}
use Rattle.elements.specs.Elements.{element_from, ElementAt}
use Rattle.elements.specs.Values.{value_in}
use Rattle.control_fields.specs.Fields.{field_of, spells_reference, spells_count}
use Rattle.control_fields.proofs.Control.{count_is, count_number, reference_at, reference_value_at}
use Rattle.stage_control.specs.declared.Headers.{Headers}
use Rattle.stage_control.specs.Controlling.{header_kept, count_due, trailer_by, controlled_by}
use Rattle.stage_control.proofs.Kept.{reference_filled, same_unless, Spelled, Kept}

-- ---- the answers, by what the tests say

-- as the code asks: no reference, a reference, no count, a count, the same reference, the right count
abbrev asked : ℕ → Bool → Bool → Bool → Bool → Bool → Bool → Outcome
asked at unnamed named uncounted counted alike right =
    if unnamed then Ok tt
    else (if named
    then (if uncounted then Ok tt
    else (if counted
    then (if alike then (if right then (Ok tt) else failed_at CountWrong at) else failed_at ReferenceDiffers at)
    else failed_at BadControl at))
    else failed_at BadControl at)

-- as the stage says: the rule, another reference, a wrong count
abbrev said : ℕ → Bool → Bool → Bool → Outcome
said at rule differs wrong =
    outcome (if rule then (if differs then refuse ReferenceDiffers at else (if wrong then refuse CountWrong at else none)) else refuse BadControl at)

-- without a count
plain_answers : (at : ℕ) (unnamed named counted alike right : Bool)
    → asked at unnamed named true counted alike right ≡ said at (unnamed || named) false false
unfolding outcome
plain_answers at true named counted alike right = refl
plain_answers at false true counted alike right = refl
plain_answers at false false counted alike right = refl

-- with a reference and a count
trailer_answers : (at : ℕ) (named counted alike right differs wrong : Bool)
    → (named ≡ true → differs ≡ not alike) → (counted ≡ true → wrong ≡ not right)
    → asked at false named false counted alike right ≡ said at (counted && named) differs wrong
unfolding outcome
trailer_answers at false true alike right differs wrong d w = refl
trailer_answers at false false alike right differs wrong d w = refl
trailer_answers at true false alike right differs wrong d w = refl
trailer_answers at true true alike right differs wrong d w =
    step alike right ∙ sym (ap₂ (said at true) (d refl) (w refl))
  where
    step : (a r : Bool) → asked at false true false true a r ≡ said at true (not a) (not r)
    step true true = refl
    step true false = refl
    step false r = refl

-- ---- the kinds

module _ (c : Characters) (s : List ℕ) (past : List Segment) (walk : Walk) (headers : Headers) where
  -- it closes nothing and has no count
  pub record Plain (kind : Kind) : Type 0 where
    pub uncounted : eqb (positions_of kind).count 0 ≡ true
    pub no_header : header_of kind ≡ none
    pub no_count : true_count kind (map kind_of past) ≡ none

  -- it has a count and a reference, which its header's place and the counters judge
  pub record Trailer (kind : Kind) : Type 0 where
    pub counted : eqb (positions_of kind).count 0 ≡ false
    pub named : eqb (positions_of kind).reference 0 ≡ false
    pub header : Kind
    pub closes : header_of kind ≡ some header
    pub spelled : Spelled c s header past (header_kept headers kind)
    pub due : true_count kind (map kind_of past) ≡ some (count_due walk kind)

  -- every kind is one or the other
  pub kinds : Kept c s past walk headers → (kind : Kind) → Plain kind ⊎ Trailer kind
  unfolding positions_of position_table header_of true_count segments_since_header segments_in through is
  kinds k Unb = inl (record { uncounted = refl; no_header = refl; no_count = refl })
  kinds k Ung = inl (record { uncounted = refl; no_header = refl; no_count = refl })
  kinds k Unh = inl (record { uncounted = refl; no_header = refl; no_count = refl })
  kinds k Uns = inl (record { uncounted = refl; no_header = refl; no_count = refl })
  kinds k User = inl (record { uncounted = refl; no_header = refl; no_count = refl })
  kinds k Unt =
      inr (record {
        counted = refl;
        named = refl;
        header = Unh;
        closes = refl;
        spelled = k.unh;
        due = ap some (omega (arith, k.counts.in_message_are));
      })
  kinds k Une =
      inr (record {
        counted = refl;
        named = refl;
        header = Ung;
        closes = refl;
        spelled = k.ung;
        due = ap some (sym k.counts.in_group_are);
      })
  kinds k Unz =
      inr (record {
        counted = refl;
        named = refl;
        header = Unb;
        closes = refl;
        spelled = k.unb;
        due =
            ap₂ (λ (groups messages : ℕ). some (if eqb groups 0 then messages else groups))
            (sym k.counts.groups_are) (sym k.counts.messages_are);
      })

-- ---- the segment at a place

module _ (c : Characters) (s : List ℕ) (past : List Segment) (walk : Walk) (headers : Headers) (at : ℕ) {reference : ℕ}
    (e : ElementAt c s at (positions_of (kind_of (segment_at c s at))).reference reference) where
  abbrev g : Segment
  g = segment_at c s at

  abbrev p : Positions
  p = positions_of (kind_of g)

  abbrev named : Bool
  named = spells_reference (field_of (tokens_at c s reference))

  abbrev counted : List Token
  counted = element_from p.count (tokens_at c s at)

  -- the rule, by the fields as they are spelled
  rule_is : control_rule g ≡ ((eqb p.count 0 || spells_count (field_of counted)) && (eqb p.reference 0 || named))
  unfolding control_rule stands_well segment_at
  rule_is =
      ap₂ (λ (x y : Bool). (eqb p.count 0 || x) && (eqb p.reference 0 || y))
      (count_is (tokens_at c s at) p.count) (reference_at c s at p.reference e)

  -- a reference differs from its header's where the values at their places do
  differs_is : (header : Kind) (place : ℕ) → header_of (kind_of g) ≡ some header → Spelled c s header past place → named ≡ true
      → reference_differs past g ≡ not (same (value_in (tokens_at c s reference)) (value_in (tokens_at c s place)))
  unfolding reference_differs maybe reference_of
  differs_is header place h k n =
      let r = reference_at c s at p.reference e ∙ n in
      let value = reference_value_at c s at p.reference e r in
      ap (maybe false (λ (header : Kind). not (same_value (reference_of g) (nearest_reference header past)))) h
      ∙ ap₂ (λ (v w : Option (List ℕ)). not (same_value v w)) value k
      ∙ ap not
      (same_unless (value_in (tokens_at c s reference)) (value_in (tokens_at c s place))
      (reference_filled (value_in (tokens_at c s reference)) (ap is_reference (sym value) ∙ r)))

  -- a count is wrong where its number is another
  wrong_is : (count : ℕ) → true_count (kind_of g) (map kind_of past) ≡ some count → spells_count (field_of counted) ≡ true
      → count_wrong past g ≡ not (eqb (field_of counted).number count)
  unfolding count_wrong maybe count_of segment_at
  wrong_is count h n =
      ap (maybe false (λ (count : ℕ). not (eqb (maybe 0 decimal (count_of g)) count))) h
      ∙ ap (λ (m : ℕ). not (eqb m count)) (count_number (tokens_at c s at) p.count (count_is (tokens_at c s at) p.count ∙ n))

  module _ (inside : at < length s) where
    -- the stage's answer for it, after all that passed
    comes_to_lem : {rule differs wrong : Bool} → control_rule g ≡ rule → reference_differs past g ≡ differs → count_wrong past g ≡ wrong
        → said at rule differs wrong ≡ outcome (controlled_segment past g)
    unfolding controlled_segment
    comes_to_lem r d w = λ i. said (sym (segment_start_lem c s at inside) i) (sym r i) (sym d i) (sym w i)

    abbrev alike : Bool
    alike = same (value_in (tokens_at c s reference)) (value_in (tokens_at c s (header_kept headers (kind_of g))))

    abbrev right : Bool
    right = eqb (field_of counted).number (count_due walk (kind_of g))

    -- the answer for it, from what is kept
    abbrev Judged : Type 0
    Judged =
        controlled_by c s at p reference (header_kept headers (kind_of g)) (count_due walk (kind_of g)) ≡ outcome (controlled_segment past g)

    plain : Plain c s past walk headers (kind_of g) → Judged
    unfolding controlled_by trailer_by reference_differs count_wrong maybe
    plain h =
        let unnamed = eqb p.reference 0 in
        let a-count = spells_count (field_of counted) in
        ap (λ (b : Bool). asked at unnamed named b a-count alike right) h.uncounted
        ∙ plain_answers at unnamed named a-count alike right
        ∙ comes_to_lem
        (rule_is ∙ ap (λ (b : Bool). (b || a-count) && (unnamed || named)) h.uncounted)
        (ap (maybe false (λ (header : Kind). not (same_value (reference_of g) (nearest_reference header past)))) h.no_header)
        (ap (maybe false (λ (count : ℕ). not (eqb (maybe 0 decimal (count_of g)) count))) h.no_count)

    trailer : Trailer c s past walk headers (kind_of g) → Judged
    unfolding controlled_by trailer_by
    trailer h =
        let a-count = spells_count (field_of counted) in
        ap₂ (λ (a b : Bool). asked at a named b a-count alike right) h.named h.counted
        ∙ trailer_answers at named a-count alike right (reference_differs past g) (count_wrong past g)
        (differs_is h.header (header_kept headers (kind_of g)) h.closes h.spelled)
        (wrong_is (count_due walk (kind_of g)) h.due)
        ∙ comes_to_lem (rule_is ∙ ap₂ (λ (a b : Bool). (b || a-count) && (a || named)) h.named h.counted) refl refl

    pub judged_kept : Kept c s past walk headers → Judged
    judged_kept k = ⊎_elim plain trailer (kinds c s past walk headers k (kind_of g))

-- the same, from what the code finds
pub judged : (c : Characters) (s : List ℕ) (past : List Segment) (at : ℕ) {walk : Walk} {headers : Headers} {kind : Kind} {p : Positions}
    {reference header count : ℕ} → at < length s → Kept c s past walk headers → kind ≡ kind_of (segment_at c s at) → p ≡ positions_of kind
    → ElementAt c s at p.reference reference → header ≡ header_kept headers kind → count ≡ count_due walk kind
    → controlled_by c s at p reference header count ≡ outcome (controlled_segment past (segment_at c s at))
judged c s past at {walk} {headers} {kind} {p} {reference} {header} {count} inside kept k q e h n =
    (λ i. controlled_by c s at (p' i) reference ((h ∙ ap (header_kept headers) k) i) ((n ∙ ap (count_due walk) k) i))
    ∙ judged_kept c s past walk headers at (subst (λ (r : Positions). ElementAt c s at r.reference reference) p' e) inside kept
  where
    p' : p ≡ positions_of (kind_of (segment_at c s at))
    p' = q ∙ ap positions_of k
