-- The walk of stage (10 11 12) from a place on, by the answer for the segment that begins there. Assumes nothing.
use Rattle.std.specs.Prelude.{if◌then◌else◌, Ok, Err}
use Prim.Native.Nat.{ℕ, ◌-◌, ◌≤◌, ◌<◌}
use mathlib.Core.Path.{◌≡◌, refl, sym, ap, subst, subst⁻¹, subst₂, ◌∙◌}
use mathlib.Core.Bool.{Bool, true, false}
use mathlib.Core.List.{List, [], ◌∷◌, map}
use mathlib.Core.Option.{Option, none, some}
use native.Mathlib.Omega.{arith}
use lib.ListN.{length, length-map}
use Rattle.characters.specs.declared.Characters.{Characters}
use Rattle.refusals.specs.declared.Fault.TheVariants.{BadControl, ReferenceDiffers, CountWrong}
use Rattle.refusals.specs.declared.Refusal.{Refusal}
use Rattle.refusals.specs.Refusals.{or_else, outcome, Outcome}
use Rattle.values.specs.Tokens.{Segment, ends, segments, start, tokens_at}
use Rattle.scanner.specs.Scan.{segment_at, Skips}
use Rattle.scanner.proofs.Segments.{segments_end, segments_next}
use Rattle.segments.specs.declared.Kind.{Kind}
use Rattle.segments.specs.declared.Section.TheVariants.{None}
use Rattle.segments.specs.declared.Walk.{Walk}
use Rattle.segments.specs.Tags.{kind_of}
use Rattle.segments.specs.Order.{walk_over}
use Rattle.control_elements.specs.declared.Positions.{Positions}
use Rattle.control_elements.specs.Positions.{positions_of}
use Rattle.control_elements.specs.Control.{control_rule, reference_differs, count_wrong}
use Rattle.stage_walks.specs.Walks.{refuse, first_in, controlled_segment, controlled}
use Rattle.elements.specs.Elements.{ElementAt}
use Rattle.walk_laws.specs.Walking.{Within, stepped_by}
use Rattle.walk_laws.proofs.Counts.{counts_within}
use Rattle.stage_control.specs.declared.Headers.{Headers}
use Rattle.stage_control.specs.Controlling.{header_kept, headers_after, count_due, controlled_by}
use Rattle.stage_control.proofs.Kept.{Kept, kept_none, kept_more}
use Rattle.stage_control.proofs.Segment.{judged}

-- what is left after a place is less than what is left from it
pub falls : (size at next : ℕ) → at < size → at < next → size - next < size - at
falls size at next h k = omega arith

-- the first that does not pass
abbrev or_next : Outcome → Outcome → Outcome
or_next (Ok _) later = later
or_next (Err r) later = Err r

outcome_else : (first later : Option Refusal) → outcome (or_else first later) ≡ or_next (outcome first) (outcome later)
unfolding outcome or_else
outcome_else none later = refl
outcome_else (some r) later = refl

abbrev passes : Outcome → Bool
passes (Ok _) = true
passes (Err r) = false

-- a segment that passes keeps the rule
rule_kept : (past : List Segment) (g : Segment) → outcome (controlled_segment past g) ≡ Ok tt → control_rule g ≡ true
unfolding controlled_segment outcome
rule_kept past g h =
    step (control_rule g)
    (if reference_differs past g then refuse ReferenceDiffers (start g) else (if count_wrong past g then refuse CountWrong (start g) else none))
    h
  where
    step : (rule : Bool) (later : Option Refusal) → outcome (if rule then later else refuse BadControl (start g)) ≡ Ok tt → rule ≡ true
    step true later k = refl
    step false later k = ap passes k

module _ (c : Characters) (s : List ℕ) where
  -- what the stage answers from a place on
  abbrev comes_to : List Segment → ℕ → Outcome
  comes_to past at = outcome (first_in controlled_segment past (segments (tokens_at c s at)))

  -- inside the input the segment that begins there answers, or those after it
  comes_next : (past : List Segment) (at next : ℕ) → at < length s → Skips (ends 0) c s at next
      → comes_to past at ≡ or_next (outcome (controlled_segment past (segment_at c s at))) (comes_to (segment_at c s at ∷ past) next)
  unfolding first_in
  comes_next past at next h k =
      ap (λ (gs : List Segment). outcome (first_in controlled_segment past gs)) (segments_next c s at next h k)
      ∙ outcome_else (controlled_segment past (segment_at c s at))
      (first_in controlled_segment (segment_at c s at ∷ past) (segments (tokens_at c s next)))

  -- Some segments passed, of which this is kept; the whole stage answers what it answers from here on.
  pub record Passing (from : ℕ) (walk : Walk) (headers : Headers) (at : ℕ) : Type 0 where
    pub past : List Segment
    pub kept : Kept c s past walk headers
    pub fewer : length past ≤ at
    pub same_answer : outcome (controlled (tokens_at c s from)) ≡ comes_to past at

  pub passing_begun : (from : ℕ) {walk : Walk} → walk ≡ walk_over None []
      → Passing from walk (record { unb = length s; ung = length s; unh = length s }) from
  unfolding controlled
  passing_begun from w =
      record {
        past = [];
        kept = subst⁻¹ (λ (walk : Walk). Kept c s [] walk (record { unb = length s; ung = length s; unh = length s })) w (kept_none c s);
        fewer = omega arith;
        same_answer = refl;
      }

  module _ {from at : ℕ} {walk : Walk} {headers : Headers} (i : Passing from walk headers at) where
    -- each segment took a byte at least
    pub passing_within : {n : ℕ} → at ≤ n → Within n walk
    passing_within h =
        counts_within walk (map kind_of i.past) i.kept.counts (omega (arith, length-map i.past kind_of, i.fewer))

    -- after the last byte all passed
    pub passing_end : length s ≤ at → outcome (controlled (tokens_at c s from)) ≡ Ok tt
    unfolding first_in outcome
    passing_end h =
        i.same_answer ∙ ap (λ (gs : List Segment). outcome (first_in controlled_segment i.past gs)) (segments_end c s at h)

    -- elsewhere the code finds a segment, and the answer for it
    module _ {kind : Kind} {p : Positions} {reference next header count : ℕ} {answer : Outcome} (inside : at < length s)
        (k : kind ≡ kind_of (segment_at c s at)) (q : p ≡ positions_of kind) (e : ElementAt c s at p.reference reference)
        (n : Skips (ends 0) c s at next) (h : header ≡ header_kept headers kind) (m : count ≡ count_due walk kind)
        (a : answer ≡ controlled_by c s at p reference header count) where
      abbrev g : Segment
      g = segment_at c s at

      answer_is : answer ≡ outcome (controlled_segment i.past g)
      answer_is = a ∙ judged c s i.past at inside i.kept k q e h m

      goes_on : outcome (controlled (tokens_at c s from)) ≡ or_next answer (comes_to (g ∷ i.past) next)
      goes_on =
          i.same_answer
          ∙ comes_next i.past at next inside n
          ∙ ap (λ (o : Outcome). or_next o (comes_to (g ∷ i.past) next)) (sym answer_is)

      -- a refusal is the stage's
      pub passing_failed : {r : Refusal} → answer ≡ Err r → outcome (controlled (tokens_at c s from)) ≡ Err r
      passing_failed f = goes_on ∙ ap (λ (o : Outcome). or_next o (comes_to (g ∷ i.past) next)) f

      -- a segment that passes is one more of those that passed
      pub passing_next : {after : Walk} {kept : Headers} → answer ≡ Ok tt → after ≡ stepped_by walk kind
          → kept ≡ headers_after headers kind reference → Passing from after kept next
      passing_next {after} {kept} f w u =
          record {
            past = g ∷ i.past;
            kept =
                subst₂ (Kept c s (g ∷ i.past))
                (sym (w ∙ ap (stepped_by walk) k)) (sym (u ∙ ap (λ (kind : Kind). headers_after headers kind reference) k))
                (kept_more c s i.past at (subst (λ (r : Positions). ElementAt c s at r.reference reference) (q ∙ ap positions_of k) e)
                (rule_kept i.past g (sym answer_is ∙ f)) i.kept);
            fewer = omega (arith, i.fewer, n.2 inside);
            same_answer = goes_on ∙ ap (λ (o : Outcome). or_next o (comes_to (g ∷ i.past) next)) f;
          }
