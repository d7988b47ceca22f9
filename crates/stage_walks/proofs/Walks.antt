-- The walks of 8, 9 and (10 11 12) answer what their stages answer, for every input. Assumes nothing.
use Rattle.std.specs.Prelude.{if◌then◌else◌}
use Prim.Native.Nat.{ℕ, ◌≤◌}
use mathlib.Core.Path.{◌≡◌, refl, ap, ◌∙◌}
use mathlib.Core.Bool.{Bool, true, false, not, ◌&&◌}
use mathlib.Core.List.Memᴰ
use mathlib.Core.List.{List, [], ◌∷◌, ◌++◌, map, append_assoc}
use mathlib.Core.Option.{Option, none, some}
use lib.ListN.{length}
use lib.Dec.{lit≤}
use native.Mathlib.Omega.{arith}
use Rattle.lists.specs.Lists.{all, those}
use Rattle.lists.proofs.Texts.{if_false}
use Rattle.refusals.specs.declared.Fault.{Fault}
use Rattle.refusals.specs.declared.Fault.TheVariants.{OutsideLevel, MisplacedSegment, BadControl, ReferenceDiffers, CountWrong}
use Rattle.refusals.specs.declared.Refusal.{Refusal}
use Rattle.refusals.specs.Refusals.{number, Stage, met, place_if, is_lower, lower_of, lowest, or_else, answering}
use Rattle.refusals.proofs.Order.{key, not_lower}
use Rattle.refusals.proofs.Lowest.{merge, lowest_append, lowest_gather_three}
use Rattle.refusals.proofs.Stages.{lowest_if, met_append}
use Rattle.values.specs.Tokens.{Token, byte, separator, fault, Segment, start, place_of}
use Rattle.levels.specs.Levels.{in_level}
use Rattle.segments.specs.Tags.{kind_of}
use Rattle.segments.specs.Order.{allowed, is_complete}
use Rattle.control_elements.specs.Control.{control_rule, reference_differs, count_wrong}
use Rattle.control_elements.specs.Sections.{section_rule}
use Rattle.stages.specs.Contents.{body_tokens, segments_of, kinds_of}
use Rattle.stages.specs.Places.{level, place_outside, outside_level, misplaced_segments, bad_controls, differing_references, wrong_counts, misplaced, bad_control}
use Rattle.stages.specs.Stages.{places_of, brackets, brackets_in, bracketed, stages_in}
use Rattle.stages.proofs.Stages.{one_stage}
use Rattle.stage_walks.specs.Walks.{refuse, first_in, leveled, ordered_segment, ordered, controlled_segment, controlled}
use Rattle.stage_walks.proofs.Rows.{Within, first_of, lowest_row, if_within, append_within, met_gather}
use Rattle.stage_walks.proofs.Rising.{last_place, Lies, Spans, body_rises, segments_rise}
use Rattle.stage_walks.proofs.Segments.{Passed, with_past, failing, failing_within, met_starts, lowest_segments, lowest_ended}

-- ---- 8

module _ (s : List ℕ) where
  -- a byte outside the level is met in its token
  outside_within : (low high : ℕ) (t : Token) → Lies low high t → Within low high (met OutsideLevel (place_outside s t))
  unfolding place_outside place_of last_place met
  outside_within low high (byte b from place) lies = if_within OutsideLevel (not (in_level (level s) b)) place (omega arith) lies.2
  outside_within low high (separator kind place) lies = λ r m. absurd (Memᴰ.not-nil m)
  outside_within low high (fault place) lies = λ r m. absurd (Memᴰ.not-nil m)

  -- the walk is the search for the first byte outside the level
  first_outside : (ts : List Token) → first_of (λ t. lowest (met OutsideLevel (place_outside s t))) ts ≡ leveled (level s) ts
  unfolding first_of leveled place_outside met place_if lowest lower_of or_else
  first_outside [] = refl
  first_outside (byte b from place ∷ ts) = step (in_level (level s) b) (first_outside ts)
    where
      step : (t : Bool) {o p : Option Refusal} → o ≡ p
          → or_else (lowest (met OutsideLevel (place_if (not t) place))) o ≡ (if t then p else refuse OutsideLevel place)
      step true ih = ih
      step false ih = refl
  first_outside (separator kind place ∷ ts) = first_outside ts
  first_outside (fault place ∷ ts) = first_outside ts

  pub leveled_answers : answering (stages_in s 8 8) ≡ leveled (level s) (body_tokens s)
  unfolding brackets_in brackets those all bracketed places_of outside_level
  leveled_answers =
      one_stage s 8 8 (OutsideLevel ∷ []) refl
      ∙ rw met_gather (lowest_row Lies (λ t. met OutsideLevel (place_outside s t)) outside_within (body_rises s) ∙ first_outside (body_tokens s))

-- ---- 9

-- what is refused where a test fails
if_not : (t : Bool) (o : Option Refusal) → (if not t then o else none) ≡ (if t then none else o)
if_not true o = refl
if_not false o = refl

-- what the walk asks of a segment is what is met in it
order_answers : (low high : ℕ) (past : List Segment) (g : Segment) → Spans low high g
    → lowest (failing MisplacedSegment misplaced (past, g)) ≡ ordered_segment past g
unfolding ordered_segment
order_answers low high past g spans =
    rw lowest_if (if_not (allowed (map kind_of past) (kind_of g) && section_rule past g) (refuse MisplacedSegment (start g)))

pub ordered_answers : (s : List ℕ) → answering (stages_in s 9 9) ≡ ordered (length s) (body_tokens s)
unfolding brackets_in brackets those all bracketed places_of misplaced_segments ordered segments_of kinds_of
ordered_answers s =
    one_stage s 9 9 (MisplacedSegment ∷ []) refl
    ∙ rw (met_append, met_starts MisplacedSegment misplaced [] (segments_of s))
    (lowest_ended (failing MisplacedSegment misplaced) ordered_segment (failing_within MisplacedSegment misplaced) order_answers
    [] MisplacedSegment (not (is_complete (kinds_of s))) (segments_rise s)
    ∙ ap (or_else (first_in ordered_segment [] (segments_of s))) (if_not (is_complete (kinds_of s)) (refuse MisplacedSegment (length s))))

-- ---- (10 11 12)

-- at one place, the fault with the lower number answers
lower_number : (f g : Fault) (p : ℕ) (t : Bool) → number f ≤ number g → merge (refuse f p) (if t then refuse g p else none) ≡ refuse f p
unfolding merge lower_of key
lower_number f g p true h =
    let r : Refusal = record { fault = f; place = p } in
    let q : Refusal = record { fault = g; place = p } in
    ap some (if_false (is_lower q r) q r (not_lower q r (omega arith)))
lower_number f g p false h = refl

-- what is met of the three in a segment
controls : Passed → Stage
controls p = failing BadControl bad_control p ++ failing ReferenceDiffers reference_differs p ++ failing CountWrong count_wrong p

-- it lies in the segment
control_within : (low high : ℕ) (p : Passed) → Spans low high p.1 → Within low high (controls p)
unfolding controls
control_within low high p spans = search (append_within, failing_within)

-- what the walk asks of a segment is the lowest of it: 10 before 11 before 12
control_answers : (low high : ℕ) (past : List Segment) (g : Segment) → Spans low high g
    → lowest (controls (past, g)) ≡ controlled_segment past g
unfolding controls controlled_segment merge
control_answers low high past g spans = simp (lowest_append, lowest_if) (step (control_rule g) (reference_differs past g) (count_wrong past g))
  where
    bad : Option Refusal
    bad = refuse BadControl (start g)

    differs : Option Refusal
    differs = refuse ReferenceDiffers (start g)

    wrong : Option Refusal
    wrong = refuse CountWrong (start g)

    step : (a b c : Bool)
        → merge (merge (if not a then bad else none) (if b then differs else none)) (if c then wrong else none)
        ≡ (if a then (if b then differs else (if c then wrong else none)) else bad)
    step true true c = lower_number ReferenceDiffers CountWrong (start g) c (lit≤ tt)
    step true false c = refl
    step false b c =
        ap (λ (o : Option Refusal). merge o (if c then wrong else none)) (lower_number BadControl ReferenceDiffers (start g) b (lit≤ tt))
        ∙ lower_number BadControl CountWrong (start g) c (lit≤ tt)

pub controlled_answers : (s : List ℕ) → answering (stages_in s 10 12) ≡ controlled (body_tokens s)
unfolding brackets_in brackets those all bracketed places_of bad_controls differing_references wrong_counts controlled controls segments_of
controlled_answers s =
    let gs = segments_of s in
    one_stage s 10 12 (BadControl ∷ ReferenceDiffers ∷ CountWrong ∷ []) refl
    ∙ rw (← append_assoc, met_starts BadControl bad_control [] gs, met_starts ReferenceDiffers reference_differs [] gs, met_starts CountWrong count_wrong [] gs)
    (lowest_gather_three (failing BadControl bad_control) (failing ReferenceDiffers reference_differs) (failing CountWrong count_wrong) (with_past [] gs)
    ∙ lowest_segments controls controlled_segment control_within control_answers [] (segments_rise s))
