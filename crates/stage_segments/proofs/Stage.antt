-- The walk of stage (4 5 6) from a place on, by what the scanner says of the segment that begins there. Assumes nothing.
use Rattle.std.specs.Prelude.{if◌then◌else◌, Err}
use Prim.Native.Nat.{ℕ, ◌≤◌, ◌<◌}
use mathlib.Core.Path.{◌≡◌, refl, sym, ap, ap₂, ◌∙◌, subst}
use mathlib.Core.Bool.{Bool, true, false}
use mathlib.Core.List.{List, [], ◌∷◌}
use mathlib.Core.Option.{Option, none, some}
use lib.ListN.{length}
use lib.Dec.{leb}
use Rattle.lists.specs.Lists.{through, last_or, maybe, beyond}
use Rattle.lists.proofs.Pieces.{beyond_hit, beyond_miss, cut_first}
use Rattle.characters.specs.declared.Characters.{Characters}
use Rattle.refusals.specs.declared.Fault.TheVariants.{StrayRelease, UnendedSegment, BrokenTag}
use Rattle.refusals.specs.declared.Refusal.{Refusal}
use Rattle.refusals.specs.Refusals.{or_else}
use Rattle.values.specs.Tokens.{Token, byte, separator, fault, Segment, ends, segments, start, tokens_at}
use Rattle.values.specs.Values.{ended_by}
use Rattle.segments.specs.Tags.{tag_rule}
use Rattle.stage_walks.specs.Walks.{refuse, first_in, first_fault, worded_segment, worded}
use Rattle.scanner.specs.declared.Scanned.{Scanned}
use Rattle.scanner.specs.declared.Scanned.TheVariants.{Ended, Stray, Unended}
use Rattle.scanner.specs.Scan.{Scanning, ended, stray, unended, scanned, Scans, segment_at}
use Rattle.scanner.proofs.Segments.{stands, segments_end, segment_start_lem}
use Rattle.values.proofs.Ends.{ended_after}
use Rattle.stage_segments.specs.Segment.{Refuses, Passes}
use Rattle.tags.proofs.Reading.{through_hit, through_miss}

-- ---- how the first segment ends

-- what the scanner found, in the words of the walk
abbrev Tells : List Token → Scanning → Type 0
Tells ts (ended rest) =
    (first_fault (through (ends 0) ts) ≡ none) × (ended_by 0 (through (ends 0) ts) ≡ true) × (rest ≡ beyond (ends 0) ts)
Tells ts (stray place) = first_fault (through (ends 0) ts) ≡ some place
Tells ts unended = (first_fault (through (ends 0) ts) ≡ none) × (ended_by 0 (through (ends 0) ts) ≡ false)

-- where a token ends no segment and is no fault, the tokens after it decide
tells_after : (t : Token) (ts : List Token) → ends 0 t ≡ false → ((us : List Token) → first_fault (t ∷ us) ≡ first_fault us)
    → (r : Scanning) → Tells ts r → Tells (t ∷ ts) r
tells_after t ts n f r h = step r h
  where
    e : through (ends 0) (t ∷ ts) ≡ t ∷ through (ends 0) ts
    e = through_miss (ends 0) refl n

    faults : first_fault (through (ends 0) (t ∷ ts)) ≡ first_fault (through (ends 0) ts)
    faults = ap first_fault e ∙ f (through (ends 0) ts)

    ending : ended_by 0 (through (ends 0) (t ∷ ts)) ≡ ended_by 0 (through (ends 0) ts)
    ending = ap (ended_by 0) e ∙ ended_after 0 t (through (ends 0) ts) n

    step : (q : Scanning) → Tells ts q → Tells (t ∷ ts) q
    step (ended rest) k = (faults ∙ k.0, ending ∙ k.1, k.2 ∙ sym (beyond_miss (ends 0) refl n))
    step (stray place) k = faults ∙ k
    step unended k = (faults ∙ k.0, ending ∙ k.1)

tells : (ts : List Token) → Tells ts (scanned ts)
unfolding scanned through first_fault ended_by ends last_or
tells [] = (refl, refl)
tells (byte b from place ∷ ts) = tells_after (byte b from place) ts refl (λ us. refl) (scanned ts) (tells ts)
tells (separator rank place ∷ ts) = step (leb rank 0) refl (tells ts)
  where
    step : (b : Bool) → leb rank 0 ≡ b → Tells ts (scanned ts)
        → Tells (separator rank place ∷ ts) (if b then ended ts else scanned ts)
    step true e ih =
        let h = through_hit (ends 0) {x = separator rank place} {rest = ts} refl e in
        (ap first_fault h, ap (ended_by 0) h ∙ e, sym (beyond_hit (ends 0) {x = separator rank place} refl e))
    step false e ih = tells_after (separator rank place) ts e (λ us. refl) (scanned ts) ih
tells (fault place ∷ ts) = refl

-- ---- one segment of the walk

-- the walk does not look at what passed
past_unseen : (size : ℕ) (past other gs : List Segment) → first_in (worded_segment size) past gs ≡ first_in (worded_segment size) other gs
unfolding first_in worded_segment
past_unseen size past other [] = refl
past_unseen size past other (g ∷ gs) = ap (or_else (worded_segment size other g)) (past_unseen size (g ∷ past) (g ∷ other) gs)

module _ (size : ℕ) (g : Segment) where
  -- a stray release character answers first
  segment_stray : (place : ℕ) → first_fault g ≡ some place → worded_segment size [] g ≡ refuse StrayRelease place
  unfolding worded_segment maybe
  segment_stray place e = rw e

  -- then a missing terminator
  segment_unended : first_fault g ≡ none → ended_by 0 g ≡ false → worded_segment size [] g ≡ refuse UnendedSegment size
  unfolding worded_segment maybe
  segment_unended e d = rw (e, d)

  -- then the tag
  segment_ended : first_fault g ≡ none → ended_by 0 g ≡ true
      → worded_segment size [] g ≡ (if tag_rule g then none else refuse BrokenTag (start g))
  unfolding worded_segment maybe
  segment_ended e d = rw (e, d)

module _ (c : Characters) (s : List ℕ) (at : ℕ) where
  -- after the last byte nothing is refused
  pub worded_end : (size : ℕ) → length s ≤ at → worded size (tokens_at c s at) ≡ none
  unfolding worded first_in
  worded_end size h = ap (first_in (worded_segment size) []) (segments_end c s at h)

  -- what the scanner found, of the segment that begins there
  told : (r : Scanning) → scanned (tokens_at c s at) ≡ r → Tells (tokens_at c s at) r
  told r e = subst (Tells (tokens_at c s at)) e (tells (tokens_at c s at))

  module _ (size : ℕ) (inside : at < length s) where
    -- elsewhere the segment that begins there answers, or what follows it
    worded_step : worded size (tokens_at c s at)
        ≡ or_else (worded_segment size [] (segment_at c s at)) (worded size (beyond (ends 0) (tokens_at c s at)))
    unfolding worded segments segment_at first_in
    worded_step =
        let (t, ts, e, p) = stands c s at inside in
        ap (λ (l : List Token). worded size l) e
        ∙ ap (first_in (worded_segment size) []) (cut_first (ends 0) t ts)
        ∙ ap (or_else (worded_segment size [] (through (ends 0) (t ∷ ts))))
        (past_unseen size (through (ends 0) (t ∷ ts) ∷ []) [] (segments (beyond (ends 0) (t ∷ ts))))
        ∙ ap (λ (l : List Token). or_else (worded_segment size [] (through (ends 0) l)) (worded size (beyond (ends 0) l))) (sym e)

    -- the answer for the segment that begins there, and then for those after it
    answers : {o : Option Refusal} → worded_segment size [] (segment_at c s at) ≡ o
        → worded size (tokens_at c s at) ≡ or_else o (worded size (beyond (ends 0) (tokens_at c s at)))
    answers h =
        worded_step ∙ ap (λ (o : Option Refusal). or_else o (worded size (beyond (ends 0) (tokens_at c s at)))) h

    pub worded_stray : {place : ℕ} → Scans c s at (Stray place) → worded size (tokens_at c s at) ≡ refuse StrayRelease place
    unfolding or_else segment_at
    worded_stray {place} h = answers (segment_stray size (segment_at c s at) place (told (stray place) h))

    pub worded_unended : Scans c s at Unended → worded size (tokens_at c s at) ≡ refuse UnendedSegment size
    unfolding or_else segment_at
    worded_unended h =
        let k = told unended h in
        answers (segment_unended size (segment_at c s at) k.0 k.1)

    module _ {next : ℕ} (h : Scans c s at (Ended next)) where
      -- a segment with its terminator and no stray release character is left to its tag
      ruled : {o : Bool} → tag_rule (segment_at c s at) ≡ o
          → worded_segment size [] (segment_at c s at) ≡ (if o then none else refuse BrokenTag at)
      unfolding segment_at
      ruled e =
          let k = told (ended (tokens_at c s next)) h.0 in
          segment_ended size (segment_at c s at) k.0 k.1
          ∙ ap₂ (λ (o : Bool) (place : ℕ). if o then none else refuse BrokenTag place) e (segment_start_lem c s at inside)

      pub worded_broken : tag_rule (segment_at c s at) ≡ false → worded size (tokens_at c s at) ≡ refuse BrokenTag at
      unfolding or_else
      worded_broken e = answers (ruled e)

      pub worded_next : tag_rule (segment_at c s at) ≡ true → worded size (tokens_at c s at) ≡ worded size (tokens_at c s next)
      unfolding or_else
      worded_next e = answers (ruled e) ∙ ap (worded size) (sym (told (ended (tokens_at c s next)) h.0).2)

module _ (c : Characters) (s : List ℕ) (at : ℕ) (inside : at < length s) where
  -- the segment that begins there is refused
  pub worded_refused : {r : Refusal} → Passes c s at (Err r) → worded (length s) (tokens_at c s at) ≡ some r
  worded_refused {r} (found, h, e) = step found h e
    where
      step : (found : Scanned) → Scans c s at found → Refuses c s at found r → worded (length s) (tokens_at c s at) ≡ some r
      step (Ended next) h e = worded_broken c s at (length s) inside h e.0 ∙ ap some (sym e.1)
      step (Stray place) h e = worded_stray c s at (length s) inside h ∙ ap some (sym e)
      step Unended h e = worded_unended c s at (length s) inside h ∙ ap some (sym e)
