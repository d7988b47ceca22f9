-- What is kept of the segments that passed: where the references of the nearest headers are spelled, and the counters. Assumes nothing.
use Rattle.std.specs.Prelude.{if◌then◌else◌}
use Prim.Native.Nat.{ℕ, ◌≤◌}
use mathlib.Core.Path.{◌≡◌, refl, sym, ap, subst⁻¹, ◌∙◌}
use mathlib.Core.Bool.{Bool, true, false, ◌||◌}
use mathlib.Core.List.{List, [], ◌∷◌, map}
use mathlib.Core.Option.{Option, none, some}
use native.Mathlib.Omega.{arith}
use native.Mathlib.Nat.{le_refl}
use lib.ListN.{length, get_or}
use lib.Dec.{eqb, leb}
use borrow.Author.Tests.{eqb-true, leb-true}
use Rattle.lists.specs.Lists.{same, through, first, gather, maybe}
use Rattle.lists.proofs.Texts.{and_left, and_right}
use Rattle.characters.specs.declared.Characters.{Characters}
use Rattle.characters.specs.Characters.{between}
use Rattle.values.specs.Tokens.{Token, Segment, tokens_at}
use Rattle.values.specs.Values.{bytes_of}
use Rattle.values.proofs.Steps.{at_end}
use Rattle.scanner.specs.Scan.{segment_at}
use Rattle.segments.specs.declared.Kind.{Kind}
use Rattle.segments.specs.declared.Kind.TheVariants.{Unb, Ung, Unh}
use Rattle.segments.specs.declared.Section.TheVariants.{None}
use Rattle.segments.specs.declared.Walk.{Walk}
use Rattle.segments.specs.Kinds.{index, is}
use Rattle.segments.specs.Tags.{kind_of}
use Rattle.segments.specs.Order.{walk_over}
use Rattle.control_elements.specs.Positions.{position_table, positions_of}
use Rattle.control_elements.specs.Control.{is_reference, is_count, stands_well, control_rule, reference_of, same_value, nearest_reference}
use Rattle.elements.specs.Elements.{ElementAt}
use Rattle.elements.specs.Values.{value_in}
use Rattle.control_fields.proofs.Control.{reference_value_at}
use Rattle.walk_laws.specs.Walking.{Counts, stepped_by}
use Rattle.walk_laws.proofs.Counts.{counts_step, counts_walk}
use Rattle.walk_laws.proofs.Places.{each}
use Rattle.stage_control.specs.declared.Headers.{Headers}
use Rattle.stage_control.specs.Controlling.{headers_after}

-- ---- a value that is empty stands for none

unfoldable pub unless_empty : List ℕ → Option (List ℕ)
unless_empty [] = none
unless_empty (b ∷ bs) = some (b ∷ bs)

unless_filled : (value : List ℕ) → 1 ≤ length value → unless_empty value ≡ some value
unfolding unless_empty
unless_filled [] h = absurd (omega arith)
unless_filled (b ∷ bs) h = refl

-- a reference is not empty
pub reference_filled : (value : List ℕ) → is_reference (some value) ≡ true → 1 ≤ length value
unfolding is_reference maybe between
reference_filled value h = leb-true 1 (length value) (and_left (leb 1 (length value)) (leb (length value) 14) h)

-- comparing a reference with another value gives the same where an empty one is taken for none
pub same_unless : (value other : List ℕ) → 1 ≤ length value → same_value (some value) (unless_empty other) ≡ same value other
unfolding same_value unless_empty same
same_unless [] other h = absurd (omega arith)
same_unless (b ∷ bs) [] h = refl
same_unless (b ∷ bs) (d ∷ ds) h = refl

-- ---- the nearest header

-- a segment of the same kind has its reference at the same number
same_position : (header kind : Kind) → is header kind ≡ true → (positions_of kind).reference ≡ (positions_of header).reference
unfolding is positions_of
same_position header kind h =
    ap (λ (n : ℕ). (get_or position_table n (record { count = 0; reference = 0 })).reference) (eqb-true (index kind) (index header) h)

-- what is kept of each header after a segment
headers_are : (h : Headers) (place : ℕ) (kind : Kind)
    → headers_after h kind place
    ≡ record {
      unb = if is Unb kind then place else h.unb;
      ung = if is Ung kind then place else h.ung;
      unh = if is Unh kind then place else h.unh;
    }
unfolding is
headers_are h place = each _ refl refl refl refl refl refl refl refl

module _ (c : Characters) (s : List ℕ) where
  -- the nearest header's reference is spelled at this place; an empty value where there is no such header
  abbrev pub Spelled : Kind → List Segment → ℕ → Type 0
  Spelled header past place = nearest_reference header past ≡ unless_empty (value_in (tokens_at c s place))

  spelled_none : (header : Kind) → Spelled header [] (length s)
  unfolding maybe first unless_empty value_in bytes_of gather through
  spelled_none header =
      sym (ap (λ (ts : List Token). unless_empty (value_in ts)) (at_end c s (length s) (le_refl (length s))))

  -- the counters are those of what passed, and the three references are spelled where the headers say
  pub record Kept (past : List Segment) (walk : Walk) (headers : Headers) : Type 0 where
    pub counts : Counts walk (map kind_of past)
    pub unb : Spelled Unb past headers.unb
    pub ung : Spelled Ung past headers.ung
    pub unh : Spelled Unh past headers.unh

  pub kept_none : Kept [] (walk_over None []) (record { unb = length s; ung = length s; unh = length s })
  kept_none =
      record { counts = counts_walk None []; unb = spelled_none Unb; ung = spelled_none Ung; unh = spelled_none Unh }

  module _ (past : List Segment) (at : ℕ) {reference : ℕ} (e : ElementAt c s at (positions_of (kind_of (segment_at c s at))).reference reference)
      (rule : control_rule (segment_at c s at) ≡ true) where
    abbrev g : Segment
    g = segment_at c s at

    -- a segment that has a reference and keeps the rule spells it there
    spells : eqb (positions_of (kind_of g)).reference 0 ≡ false → reference_of g ≡ unless_empty (value_in (tokens_at c s reference))
    unfolding control_rule stands_well reference_of
    spells h =
        let p = positions_of (kind_of g) in
        let stands = and_right (stands_well p.count is_count g) (stands_well p.reference is_reference g) rule in
        let r : is_reference (reference_of g) ≡ true = ap (λ (b : Bool). b || is_reference (reference_of g)) (sym h) ∙ stands in
        let value = reference_value_at c s at p.reference e r in
        value
        ∙ sym
        (unless_filled (value_in (tokens_at c s reference))
        (reference_filled (value_in (tokens_at c s reference)) (ap is_reference (sym value) ∙ r)))

    -- the nearest of a kind of header is this segment, or still the one before
    spelled_more : (header : Kind) (place : ℕ) → eqb (positions_of header).reference 0 ≡ false → Spelled header past place
        → Spelled header (g ∷ past) (if is header (kind_of g) then reference else place)
    unfolding first maybe
    spelled_more header place h k = step (is header (kind_of g)) refl
      where
        step : (b : Bool) → is header (kind_of g) ≡ b
            → maybe none reference_of (if b then some g else first (λ x. is header (kind_of x)) past)
            ≡ unless_empty (value_in (tokens_at c s (if b then reference else place)))
        step true q = spells (ap (λ (n : ℕ). eqb n 0) (same_position header (kind_of g) q) ∙ h)
        step false q = k

    -- one segment more
    pub kept_more : {walk : Walk} {headers : Headers} → Kept past walk headers
        → Kept (g ∷ past) (stepped_by walk (kind_of g)) (headers_after headers (kind_of g) reference)
    unfolding positions_of position_table
    kept_more {walk} {headers} k =
        subst⁻¹ (Kept (g ∷ past) (stepped_by walk (kind_of g))) (headers_are headers reference (kind_of g)) (record {
          counts = counts_step walk (map kind_of past) (kind_of g) k.counts;
          unb = spelled_more Unb headers.unb refl k.unb;
          ung = spelled_more Ung headers.ung refl k.ung;
          unh = spelled_more Unh headers.unh refl k.unh;
        })
