-- One law for all that is judged segment by segment: what is met in each, given what passed before it, is answered by the walk
-- that stops at the first. Assumes nothing.
use Rattle.std.specs.Prelude.{if◌then◌else◌}
use Prim.Native.Nat.{ℕ, ◌+◌}
use mathlib.Core.Path.{◌≡◌, refl, ap, ap₂, ◌∙◌}
use mathlib.Core.Bool.{Bool}
use mathlib.Core.List.{List, [], ◌∷◌, ◌++◌}
use mathlib.Core.Option.{Option, none}
use native.Mathlib.Nat.{le_refl}
use native.Mathlib.Omega.{arith}
use Rattle.lists.specs.Lists.{gather}
use Rattle.refusals.specs.declared.Fault.{Fault}
use Rattle.refusals.specs.declared.Refusal.{Refusal}
use Rattle.refusals.specs.Refusals.{Stage, met, place_if, lowest, or_else}
use Rattle.refusals.proofs.Lowest.{lowest_rising}
use Rattle.refusals.proofs.Stages.{lowest_if, met_append}
use Rattle.values.specs.Tokens.{Segment, start}
use Rattle.stages.specs.Places.{starts_where}
use Rattle.stage_walks.specs.Walks.{refuse, first_in}
use Rattle.stage_walks.proofs.Rows.{Within, Climbs, end, on, first_of, gather_within, lowest_row, if_within}
use Rattle.stage_walks.proofs.Rising.{Spans}

-- a segment after what passed before it, the nearest first
abbrev pub Passed : Type 0
Passed = List Segment × Segment

unfoldable pub with_past : List Segment → List Segment → List Passed
with_past past [] = []
with_past past (g ∷ gs) = (past, g) ∷ with_past (g ∷ past) gs

-- what a test of segments meets in one of them
abbrev pub failing : Fault → (List Segment → Segment → Bool) → Passed → Stage
failing f fails p = met f (place_if (fails p.0 p.1) (start p.1))

-- the refusals at the starts that a test names are what it meets in each segment
pub met_starts : (f : Fault) (fails : List Segment → Segment → Bool) (past gs : List Segment)
    → met f (starts_where fails past gs) ≡ gather (failing f fails) (with_past past gs)
unfolding met gather starts_where with_past
met_starts f fails past [] = refl
met_starts f fails past (g ∷ gs) =
    met_append f (place_if (fails past g) (start g)) (starts_where fails (g ∷ past) gs)
    ∙ ap (λ (l : Stage). failing f fails (past, g) ++ l) (met_starts f fails (g ∷ past) gs)

-- what a test meets in a segment lies in the segment
pub failing_within : (f : Fault) (fails : List Segment → Segment → Bool) (low high : ℕ) (p : Passed)
    → Spans low high p.1 → Within low high (failing f fails p)
failing_within f fails low high p (from, to, rises) = if_within f (fails p.0 p.1) (start p.1) from to

-- what is gathered of segments alone does not ask what passed
pub gather_past : {B : Type 0} (h : Segment → List B) (past gs : List Segment) → gather h gs ≡ gather (λ p. h p.1) (with_past past gs)
unfolding gather with_past
gather_past h past [] = refl
gather_past h past (g ∷ gs) = ap (λ (l : List _). h g ++ l) (gather_past h (g ∷ past) gs)

-- the segments go up, whatever passed
abbrev SpansLast : ℕ → ℕ → Passed → Type 0
SpansLast low high p = Spans low high p.1

past_rises : {low high : ℕ} {gs : List Segment} (past : List Segment) → Climbs Spans low high gs
    → Climbs SpansLast low high (with_past past gs)
unfolding with_past
past_rises past (end h) = end h
past_rises past (on low next g l spans rest) = on low next (past, g) l spans (past_rises (g ∷ past) rest)

-- `f` gives what is met in a segment, which lies inside it; `meets` is what the walk asks, the lowest of what `f` gives
module _ (f : Passed → Stage) (meets : List Segment → Segment → Option Refusal)
    (inside : (low high : ℕ) (p : Passed) → Spans low high p.1 → Within low high (f p))
    (answers : (low high : ℕ) (past : List Segment) (g : Segment) → Spans low high g → lowest (f (past, g)) ≡ meets past g) where
  -- the walk carries what passed
  first_past : {low high : ℕ} {gs : List Segment} (past : List Segment) → Climbs Spans low high gs
      → first_of (λ p. lowest (f p)) (with_past past gs) ≡ first_in meets past gs
  unfolding with_past first_of first_in
  first_past past (end h) = refl
  first_past past (on low next g l spans rest) = ap₂ or_else (answers low next past g spans) (first_past (g ∷ past) rest)

  -- the lowest of all that is met in the segments is what the walk meets first
  pub lowest_segments : {low high : ℕ} {gs : List Segment} (past : List Segment) → Climbs Spans low high gs
      → lowest (gather f (with_past past gs)) ≡ first_in meets past gs
  lowest_segments past rises = lowest_row SpansLast f inside (past_rises past rises) ∙ first_past past rises

  -- and with one more at the end: that answers where nothing is met before it
  pub lowest_ended : {low size : ℕ} {gs : List Segment} (past : List Segment) (last : Fault) (t : Bool) → Climbs Spans low size gs
      → lowest (gather f (with_past past gs) ++ met last (place_if t size)) ≡ or_else (first_in meets past gs) (if t then refuse last size else none)
  lowest_ended {size = size} {gs} past last t rises =
      lowest_rising (gather f (with_past past gs)) (met last (place_if t size)) (λ r q m n. omega (
        arith,
        gather_within SpansLast f inside (past_rises past rises) r m,
        if_within last {low = size} {high = size + 1} t size (le_refl size) (omega arith) q n,
      ))
      ∙ ap₂ or_else (lowest_segments past rises) (lowest_if last t size)
