-- The walk over releases, terminators and tags answers what the stage of 4, 5 and 6 answers. A fault 4 leaves its segment
-- unfinished, so that it excludes 6 there; 5 lies after all others and belongs to the last segment, if that is not ended.
-- Assumes nothing.
use Rattle.std.specs.Prelude.{if◌then◌else◌}
use Prim.Native.Nat.{ℕ}
use mathlib.Core.Path.{◌≡◌, refl, sym, ap, ap₂, subst, ◌∙◌}
use mathlib.Core.Bool.{Bool, true, false, not, ◌&&◌}
use mathlib.Core.List.{List, [], ◌∷◌, ◌++◌, append_assoc}
use mathlib.Core.Option.{Option, none, some}
use lib.ListN.{length}
use native.Mathlib.Omega.{arith}
use Rattle.lists.specs.Lists.{is_empty, all, those, last_or, through, onto, cut, gather, maybe}
use Rattle.lists.proofs.Pieces.{cut_first, gather_cut}
use Rattle.refusals.specs.declared.Fault.TheVariants.{StrayRelease, UnendedSegment, BrokenTag}
use Rattle.refusals.specs.declared.Refusal.{Refusal}
use Rattle.refusals.specs.Refusals.{Stage, met, place_if, lower_of, lowest, or_else, answering}
use Rattle.refusals.proofs.Lowest.{merge, merge_comm, merge_assoc, lowest_append, lowest_gather}
use Rattle.refusals.proofs.Stages.{lowest_if, or_else_none, or_else_assoc}
use Rattle.values.specs.Tokens.{Token, byte, separator, fault, ends, place_of, Segment, segments, start}
use Rattle.values.specs.Values.{is_fault, ended_by, ends_inside, finished}
use Rattle.segments.specs.Tags.{tag_rule}
use Rattle.stages.specs.Contents.{body_tokens, segments_of}
use Rattle.stages.specs.Places.{stray_releases, unended_segment, broken_tags, broken_tag}
use Rattle.stages.specs.Stages.{places_of, brackets, brackets_in, bracketed, stages_in}
use Rattle.stages.proofs.Stages.{one_stage}
use Rattle.stage_walks.specs.Walks.{refuse, first_in, first_fault, worded_segment, worded}
use Rattle.stage_walks.proofs.Rows.{Within, first_of, gather_within, lowest_row, if_within, append_within, met_gather}
use Rattle.stage_walks.proofs.Rising.{Lies, Rising, Spans, segments_rise}
use Rattle.stage_walks.proofs.Segments.{Passed, with_past, failing, failing_within, met_starts, gather_past, lowest_ended}

-- ---- 4 and 6 in one segment

-- the place of a stray release character, if the token is one
abbrev stray_at : Token → List ℕ
stray_at t = place_if (is_fault t) (place_of t)

-- it is the token's own
stray_within : (low high : ℕ) (t : Token) → Lies low high t → Within low high (met StrayRelease (stray_at t))
stray_within low high t lies = if_within StrayRelease (is_fault t) (place_of t) lies.0 (omega arith)

-- the first fault of tokens that rise is the lowest
stray_answers : {low high : ℕ} (ts : List Token) → Rising low high ts
    → lowest (met StrayRelease (gather stray_at ts)) ≡ maybe none (refuse StrayRelease) (first_fault ts)
unfolding first_of first_fault maybe or_else lowest lower_of met place_if is_fault place_of
stray_answers ts rises = rw met_gather (lowest_row Lies (λ t. met StrayRelease (stray_at t)) stray_within rises ∙ searched ts)
  where
    searched : (ts : List Token) → first_of (λ t. lowest (met StrayRelease (stray_at t))) ts ≡ maybe none (refuse StrayRelease) (first_fault ts)
    searched [] = refl
    searched (byte b from place ∷ ts) = searched ts
    searched (separator rank place ∷ ts) = searched ts
    searched (fault place ∷ ts) = refl

-- there is no fault where none is found
no_fault : (ts : List Token) → all (λ t. not (is_fault t)) ts ≡ maybe true (λ place. false) (first_fault ts)
unfolding all is_fault first_fault maybe
no_fault [] = refl
no_fault (byte b from place ∷ ts) = no_fault ts
no_fault (separator rank place ∷ ts) = no_fault ts
no_fault (fault place ∷ ts) = refl

-- what is met of the two in a segment
misworded : Passed → Stage
misworded p = met StrayRelease (gather stray_at p.1) ++ failing BrokenTag broken_tag p

-- it lies in the segment
misworded_within : (low high : ℕ) (p : Passed) → Spans low high p.1 → Within low high (misworded p)
unfolding misworded
misworded_within low high p spans =
    append_within (met StrayRelease (gather stray_at p.1)) (failing BrokenTag broken_tag p)
    (rw met_gather (gather_within Lies (λ t. met StrayRelease (stray_at t)) stray_within spans.2))
    (failing_within BrokenTag broken_tag low high p spans)

-- what the walk asks of a segment, with o as its answer where there is neither a fault nor an end
worded_or : Option Refusal → List Segment → Segment → Option Refusal
worded_or o past g =
    maybe (if ended_by 0 g then (if tag_rule g then none else refuse BrokenTag (start g)) else o) (refuse StrayRelease) (first_fault g)

-- what is met in a segment answers as the walk does, where the end is not asked for
misworded_answers : (low high : ℕ) (past : List Segment) (g : Segment) → Spans low high g
    → lowest (misworded (past, g)) ≡ worded_or none past g
unfolding misworded worded_or finished merge maybe lower_of
misworded_answers low high past g spans =
    rw (lowest_append, stray_answers g spans.2, lowest_if, no_fault) (step (first_fault g) (ended_by 0 g) (tag_rule g))
  where
    broken : Option Refusal
    broken = refuse BrokenTag (start g)

    step : (o : Option ℕ) (e t : Bool)
        → merge (maybe none (refuse StrayRelease) o) (if (e && maybe true (λ place. false) o) && not t then broken else none)
        ≡ maybe (if e then (if t then none else broken) else none) (refuse StrayRelease) o
    step (some place) true t = refl
    step (some place) false t = refl
    step none true true = refl
    step none true false = refl
    step none false t = refl

-- ---- 5 after them

-- segments that are ended, all but the last where `inside` says so
data Ended : Bool → List Segment → Type 0 where
  nothing : Ended false []
  unended : (g : Segment) → ended_by 0 g ≡ false → Ended true (g ∷ [])
  ended : {inside : Bool} {gs : List Segment} (g : Segment) → ended_by 0 g ≡ true → Ended inside gs → Ended inside (g ∷ gs)

-- a token in front of a segment ends as the segment does
grow : {inside : Bool} {gs : List Segment} (t u : Token) (g : Segment) → Ended inside ((u ∷ g) ∷ gs) → Ended inside ((t ∷ u ∷ g) ∷ gs)
unfolding ended_by last_or
grow t u g (unended _ e) = unended (t ∷ u ∷ g) e
grow t u g (ended _ e rest) = ended (t ∷ u ∷ g) e rest

-- only the last segment may lack its terminator, and does where the tokens end inside it
cut_ended : (ts : List Token) → Ended (ends_inside ts) (cut (ends 0) ts)
unfolding cut onto through ends_inside is_empty ended_by last_or
cut_ended [] = nothing
cut_ended (t ∷ []) = step (ends 0 t) refl
  where
    step : (b : Bool) → ends 0 t ≡ b → Ended (not b) (onto b t [])
    step true e = ended (t ∷ []) e nothing
    step false e = unended (t ∷ []) e
cut_ended (t ∷ u ∷ ts) = step (ends 0 t) refl (cut_ended (u ∷ ts))
  where
    inside : Bool
    inside = ends_inside (u ∷ ts)

    step : (b : Bool) → ends 0 t ≡ b → Ended inside (cut (ends 0) (u ∷ ts)) → Ended inside (onto b t (cut (ends 0) (u ∷ ts)))
    step true e ih = ended (t ∷ []) e ih
    step false e ih =
        subst (λ (gs : List Segment). Ended inside (onto false t gs)) (sym (cut_first (ends 0) u ts))
        (grow t u _ (subst (Ended inside) (cut_first (ends 0) u ts) ih))

-- a segment that is ended does not ask for o
of_ended : (o : Option Refusal) (past : List Segment) (g : Segment) → ended_by 0 g ≡ true → worded_or none past g ≡ worded_or o past g
unfolding worded_or
of_ended o past g e = rw e

-- one that is not ended answers o where it has no fault
of_unended : (o : Option Refusal) (past : List Segment) (g : Segment) → ended_by 0 g ≡ false
    → or_else (worded_or none past g) o ≡ worded_or o past g
unfolding worded_or maybe or_else
of_unended o past g e = rw e (step (first_fault g))
  where
    step : (stray : Option ℕ) → or_else (maybe none (refuse StrayRelease) stray) o ≡ maybe o (refuse StrayRelease) stray
    step none = refl
    step (some place) = refl

-- the answer at the end is the last segment's, where that is not ended
worded_ends : {inside : Bool} {gs : List Segment} (o : Option Refusal) (past : List Segment) → Ended inside gs
    → or_else (first_in (worded_or none) past gs) (if inside then o else none) ≡ first_in (worded_or o) past gs
unfolding first_in or_else
worded_ends o past nothing = refl
worded_ends o past (unended g e) =
    or_else_assoc (worded_or none past g) none o ∙ of_unended o past g e ∙ sym (or_else_none (worded_or o past g))
worded_ends o past (ended {inside} {gs} g e rest) =
    or_else_assoc (worded_or none past g) (first_in (worded_or none) (g ∷ past) gs) (if inside then o else none)
    ∙ ap₂ or_else (of_ended o past g e) (worded_ends o (g ∷ past) rest)

-- ---- the stage

-- two kinds that are gathered with a part of the stage between them may be gathered together, in front of it
lowest_around : {A : Type 0} (f g : A → Stage) (xs : List A) (ys : Stage)
    → lowest (gather f xs ++ ys ++ gather g xs) ≡ lowest (gather (λ x. f x ++ g x) xs ++ ys)
lowest_around f g xs ys =
    let a = lowest (gather f xs) in
    let b = lowest (gather g xs) in
    simp lowest_append (cc (
      merge_assoc a (lowest ys) b,
      merge_comm (lowest ys) b,
      merge_assoc a b (lowest ys),
      lowest_append (gather f xs) (gather g xs),
      lowest_gather f g xs,
    ))

module _ (s : List ℕ) where
  -- 4 of all tokens, segment by segment
  stray_parts : met StrayRelease (stray_releases s) ≡ gather (λ p. met StrayRelease (gather stray_at p.1)) (with_past [] (segments_of s))
  unfolding stray_releases segments_of segments
  stray_parts =
      ap (met StrayRelease) (gather_cut (ends 0) stray_at (body_tokens s))
      ∙ met_gather StrayRelease (gather stray_at) (segments_of s)
      ∙ gather_past (λ g. met StrayRelease (gather stray_at g)) [] (segments_of s)

  pub worded_answers : answering (stages_in s 4 6) ≡ worded (length s) (body_tokens s)
  unfolding brackets_in brackets those all bracketed places_of unended_segment broken_tags segments_of segments worded worded_segment worded_or misworded
  worded_answers =
      one_stage s 4 6 (StrayRelease ∷ UnendedSegment ∷ BrokenTag ∷ []) refl
      ∙ rw (← append_assoc, stray_parts, met_starts BrokenTag broken_tag [] (segments_of s))
      (lowest_around (λ p. met StrayRelease (gather stray_at p.1)) (failing BrokenTag broken_tag) (with_past [] (segments_of s))
      (met UnendedSegment (unended_segment s))
      ∙ lowest_ended misworded (worded_or none) misworded_within misworded_answers [] UnendedSegment (ends_inside (body_tokens s)) (segments_rise s)
      ∙ worded_ends (refuse UnendedSegment (length s)) [] (cut_ended (body_tokens s)))
