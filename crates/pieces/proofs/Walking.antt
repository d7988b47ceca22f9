-- How a piece ends: the walk to its end, by what the scanner says of the segment that begins at a place. Assumes nothing.
use Rattle.std.specs.Prelude.{if◌then◌else◌, Ok, Err}
use Prim.Native.Nat.{ℕ, ◌+◌, ◌≤◌, ◌<◌}
use mathlib.Core.Path.{◌≡◌, refl, sym, ap, ap₂, ◌∙◌, subst}
use mathlib.Core.Bool.{Bool, true, false, not, ◌&&◌, ◌||◌, and-false}
use mathlib.Core.List.{List, [], ◌∷◌, nil≢cons}
use mathlib.Core.Option.{Option, none, some}
use native.Mathlib.Omega.{arith}
use native.Mathlib.Decide.{dec_le}
use native.Mathlib.Nat.{lt_of_not-le}
use lib.ListN.{length}
use lib.Dec.{leb}
use Rattle.lists.specs.Lists.{begins, is_empty, all, those, through, beyond, last_or, maybe}
use Rattle.lists.proofs.Texts.{if_false, and_left, and_both}
use Rattle.values.proofs.Steps.{at_end}
use Rattle.characters.specs.declared.Characters.{Characters}
use Rattle.characters.specs.Characters.{advised, bad_advice, opens, body_start, body}
use Rattle.values.specs.Tokens.{Token, byte, separator, fault, Segment, ends, segments, start, tokens_at}
use Rattle.values.specs.Values.{is_fault, ended_by, end_place, finished}
use Rattle.values.proofs.Ends.{ended_after}
use Rattle.segments.specs.declared.Kind.{Kind}
use Rattle.segments.specs.declared.Kind.TheVariants.{Unb, Ung, Unh, Uns, Unt, Une, Unz, User}
use Rattle.segments.specs.Kinds.{is}
use Rattle.segments.specs.Tags.{kind_of, tag_rule}
use Rattle.scanner.specs.declared.Scanned.{Scanned}
use Rattle.scanner.specs.declared.Scanned.TheVariants.{Ended, Stray, Unended}
use Rattle.scanner.specs.Scan.{Scanning, ended, stray, unended, scanned, Scans, segment_at}
use Rattle.scanner.proofs.Scanning.{ended_beyond}
use Rattle.scanner.proofs.Segments.{stands, segments_end, segments_first}
use Rattle.mailbox_files.specs.Pieces.{is_whole, first_unz, end_behind, is_unopened, unz_of, piece_end}
use Rattle.mailbox_files.proofs.Ends as mailbox
use Rattle.refusals.specs.declared.Fault.TheVariants.{StrayRelease, UnendedSegment, BrokenTag}
use Rattle.refusals.specs.declared.Refusal.{Refusal}
use Rattle.refusals.specs.Refusals.{or_else, answering}
use Rattle.mailbox_files.specs.Stops.{stop_of}
use Rattle.stages.specs.Contents.{body_tokens, segments_of}
use Rattle.stages.specs.Stages.{brackets, brackets_in, stages_in}
use Rattle.stages.proofs.Stages.{run_on}
use Rattle.stage_walks.specs.Walks.{worded}
use Rattle.stage_walks.proofs.Worded.{worded_answers}
use Rattle.stage_segments.specs.Segment.{Refuses, Passes}
use Rattle.stage_segments.proofs.Stage.{worded_end, worded_stray, worded_unended, worded_broken, worded_next}
use Rattle.stage_opening.specs.declared.Found.{Found}
use Rattle.stage_opening.specs.Runs.{found_by, progress, Progress}
use Rattle.stage_opening.proofs.Openings.{opening_unusable, opening_missing, opening_passed}
use Rattle.stage_opening.proofs.Runs.{refused_is, passed_is}
use Rattle.tags.proofs.Reading.{through_hit, through_miss}
use Rattle.pieces.specs.declared.Ending.TheVariants.{AfterUnz, Stopped, FileEnd}
use Rattle.pieces.specs.Walk.{ending, ending_of, ending_from, end_in, end_from, is_unz}

-- UNZ, kind by kind
unz_told : (kind : Kind) → is_unz kind ≡ is Unz kind
unfolding is
unz_told Unb = refl
unz_told Ung = refl
unz_told Unh = refl
unz_told Uns = refl
unz_told Unt = refl
unz_told Une = refl
unz_told Unz = refl
unz_told User = refl

-- what is said of a kind that is found
pub unz_kind : {kind found : Kind} {told : Bool} → found ≡ kind → told ≡ is_unz found → is Unz kind ≡ told
unz_kind {found = kind} e d = sym (d ∙ unz_told kind ∙ ap (is Unz) e)

-- ---- a segment is finished exactly where the scanner sees it end

abbrev Finishes : List Token → Scanning → Type 0
Finishes ts (ended rest) = finished (through (ends 0) ts) ≡ true
Finishes ts (stray place) = finished (through (ends 0) ts) ≡ false
Finishes ts unended = finished (through (ends 0) ts) ≡ false

-- a token that ends no segment and is no fault leaves that to those after it
finished_after : (t : Token) (ts : List Token) → ends 0 t ≡ false → is_fault t ≡ false → finished (through (ends 0) (t ∷ ts)) ≡ finished (through (ends 0) ts)
unfolding finished all
finished_after t ts n f =
    let g = through (ends 0) ts in
    ap finished (through_miss (ends 0) {x = t} {rest = ts} refl n)
    ∙ rw (ended_after 0 t g n, f) refl

finishes_after : (t : Token) (ts : List Token) → ends 0 t ≡ false → is_fault t ≡ false → (r : Scanning) → Finishes ts r → Finishes (t ∷ ts) r
finishes_after t ts n f (ended rest) h = finished_after t ts n f ∙ h
finishes_after t ts n f (stray place) h = finished_after t ts n f ∙ h
finishes_after t ts n f unended h = finished_after t ts n f ∙ h

finishes : (ts : List Token) → Finishes ts (scanned ts)
unfolding scanned through finished ended_by ends last_or all is_fault
finishes [] = refl
finishes (byte b from place ∷ ts) = finishes_after (byte b from place) ts refl refl (scanned ts) (finishes ts)
finishes (separator rank place ∷ ts) = step (leb rank 0) refl (finishes ts)
  where
    step : (b : Bool) → leb rank 0 ≡ b → Finishes ts (scanned ts) → Finishes (separator rank place ∷ ts) (if b then ended ts else scanned ts)
    step true e ih = ap finished (through_hit (ends 0) {x = separator rank place} {rest = ts} refl e) ∙ and_both (leb rank 0) true e refl
    step false e ih = finishes_after (separator rank place) ts e refl (scanned ts) ih
finishes (fault place ∷ ts) = and-false (ended_by 0 (fault place ∷ through (ends 0) ts))

-- what follows two places is the same only where they are the same
same_place : (c : Characters) (s : List ℕ) (a b : ℕ) → a ≤ length s → b ≤ length s → tokens_at c s a ≡ tokens_at c s b → a ≡ b
unfolding start
same_place c s a b h k e = elim (dec_le (length s) a) [ yes n ↦ outside n | no n ↦ inside (lt_of_not-le n) ]
  where
    -- a place inside is not followed by nothing
    not_both_lem : (n m : ℕ) → length s ≤ n → m < length s → tokens_at c s n ≡ tokens_at c s m → ⊥
    not_both_lem n m l i d = let (t, ts, f, p) = stands c s m i in nil≢cons (sym (at_end c s n l) ∙ d ∙ f)

    outside : length s ≤ a → a ≡ b
    outside n = elim (dec_le (length s) b) [ yes m ↦ omega arith | no m ↦ absurd (not_both_lem a b n (lt_of_not-le m) e) ]

    both : a < length s → b < length s → a ≡ b
    both n m =
        let (t, ts, d, p) = stands c s a n in
        let (u, us, f, q) = stands c s b m in
        sym p ∙ ap start (sym d ∙ e ∙ f) ∙ q

    inside : a < length s → a ≡ b
    inside n = elim (dec_le (length s) b) [ yes m ↦ absurd (not_both_lem b a m n (sym e)) | no m ↦ both n (lt_of_not-le m) ]

module _ (c : Characters) (s : List ℕ) (at : ℕ) where
  -- by the first UNZ, and by what stops the walk
  from_both : {unz : Option Segment} {stop : Option Refusal} → first_unz (segments (tokens_at c s at)) ≡ unz
      → worded (length s) (tokens_at c s at) ≡ stop → ending_from c s at ≡ ending s unz stop
  unfolding ending_from
  from_both h k = ap₂ (ending s) h k

  -- after the last byte there is no UNZ, and nothing stops the walk
  pub from_end : length s ≤ at → ending_from c s at ≡ FileEnd
  unfolding ending first_unz maybe
  from_end h = from_both (ap first_unz (segments_end c s at h)) (worded_end c s at (length s) h)

  -- what the scanner found, of the segment that begins there
  told : (r : Scanning) → scanned (tokens_at c s at) ≡ r → Finishes (tokens_at c s at) r
  told r e = subst (Finishes (tokens_at c s at)) e (finishes (tokens_at c s at))

  module _ (inside : at < length s) where
    -- elsewhere the segment that begins there decides
    first_is : first_unz (segments (tokens_at c s at)) ≡ first_unz (segment_at c s at ∷ segments (beyond (ends 0) (tokens_at c s at)))
    first_is = ap first_unz (segments_first c s at inside)

    -- a segment that is not finished, or breaks the rule for tags
    unwhole : is_whole (segment_at c s at) ≡ false → first_unz (segments (tokens_at c s at)) ≡ none
    unfolding first_unz
    unwhole h = first_is ∙ rw h refl

    from_stray : {place : ℕ} → Scans c s at (Stray place)
        → ending_from c s at ≡ Stopped (record { fault = StrayRelease; place = place })
    unfolding is_whole segment_at ending maybe
    from_stray {place} h = from_both (unwhole (rw (told (stray place) h) refl)) (worded_stray c s at (length s) inside h)

    from_unended : Scans c s at Unended → ending_from c s at ≡ Stopped (record { fault = UnendedSegment; place = length s })
    unfolding is_whole segment_at ending maybe
    from_unended h = from_both (unwhole (rw (told unended h) refl)) (worded_unended c s at (length s) inside h)

    module _ {next : ℕ} (h : Scans c s at (Ended next)) where
      from_broken : tag_rule (segment_at c s at) ≡ false → ending_from c s at ≡ Stopped (record { fault = BrokenTag; place = at })
      unfolding is_whole ending maybe
      from_broken e =
          from_both
          (unwhole (ap (λ (b : Bool). finished (segment_at c s at) && b) e ∙ and-false (finished (segment_at c s at))))
          (worded_broken c s at (length s) inside h e)

      module _ (tag : tag_rule (segment_at c s at) ≡ true) where
        whole : is_whole (segment_at c s at) ≡ true
        unfolding is_whole segment_at
        whole = and_both (finished (segment_at c s at)) (tag_rule (segment_at c s at)) (told (ended (tokens_at c s next)) h.0) tag

        -- another segment leaves it to those after it
        pub from_next : is Unz (kind_of (segment_at c s at)) ≡ false → ending_from c s at ≡ ending_from c s next
        unfolding first_unz ending_from
        from_next k =
            from_both
            (first_is ∙ rw (whole, k) (ap (λ (ts : List Token). first_unz (segments ts)) (sym (ended_beyond (tokens_at c s at) h.0))))
            (worded_next c s at (length s) inside h tag)

        -- UNZ ends the piece, with the breaks behind it
        pub from_unz : is Unz (kind_of (segment_at c s at)) ≡ true → ending_from c s at ≡ AfterUnz next
        unfolding first_unz maybe finished segment_at end_behind ending
        from_unz k =
            let g = mailbox.ended c s at (and_left (ended_by 0 (segment_at c s at)) _ (told (ended (tokens_at c s next)) h.0)) in
            from_both {unz = some (segment_at c s at)} (first_is ∙ rw (whole, k) refl) refl
            ∙ ap AfterUnz (same_place c s (end_behind s (segment_at c s at)) next
            (mailbox.after_within s (end_place (segment_at c s at) + 1) (omega (arith, g.within)))
            h.2
            (sym g.follows ∙ sym (ended_beyond (tokens_at c s at) h.0)))

  -- the segment that begins there is refused
  pub from_refused : at < length s → {r : Refusal} → Passes c s at (Err r) → ending_from c s at ≡ Stopped r
  from_refused inside {r} (found, h, e) = step found h e
    where
      step : (found : Scanned) → Scans c s at found → Refuses c s at found r → ending_from c s at ≡ Stopped r
      step (Ended next) h e = from_broken inside h e.0 ∙ ap Stopped (sym e.1)
      step (Stray place) h e = from_stray inside h ∙ ap Stopped (sym e)
      step Unended h e = from_unended inside h ∙ ap Stopped (sym e)

-- ---- the opening

-- where there is no byte there is no piece
pub ending_none : (s : List ℕ) → length s ≡ 0 → FileEnd ≡ ending_of s
unfolding ending_of ending stop_of unz_of is_unopened bad_advice advised opens is_empty maybe begins body body_start
ending_none [] e = refl
ending_none (b ∷ bs) e = absurd (omega arith)

module _ (s : List ℕ) (some_byte : length s ≡ 0 → ⊥) {answer : Progress} (e : answer ≡ progress 2 3 s) where
  -- what stops the cutting, by the stages 2 and 3 and by the walk
  stop_by : {opening walked : Option Refusal} {unz : Option Segment} → answering (stages_in s 2 3) ≡ opening
      → worded (length s) (body_tokens s) ≡ walked → unz_of s ≡ unz → stop_of s ≡ maybe (or_else opening walked) (λ g. none) unz
  unfolding stop_of is_empty brackets_in brackets those all
  stop_by {unz} d h u =
      if_false (is_empty s) none _ (not_empty s some_byte)
      ∙ ap₂ (λ (o : Option Refusal) (g : Option Segment). maybe o (λ x. none) g)
      (run_on s 2 3 6 refl ∙ ap₂ or_else d (worded_answers s ∙ h)) u
    where
      not_empty : (bs : List ℕ) → (length bs ≡ 0 → ⊥) → is_empty bs ≡ false
      not_empty [] n = absurd (n refl)
      not_empty (b ∷ bs) n = refl

  -- 2 or 3 is met
  pub ending_unopened : {r : Refusal} → answer ≡ Err r → Stopped r ≡ ending_of s
  unfolding ending_of ending or_else maybe unz_of is_unopened
  ending_unopened {r} d =
      let none_there = step (bad_advice s) (opens s) refl refl in
      sym (ap₂ (ending s) none_there (stop_by (refused_is s 2 3 e d) refl none_there))
    where
      step : (a b : Bool) → bad_advice s ≡ a → opens s ≡ b → unz_of s ≡ none
      step true b h k = rw h refl
      step false false h k = rw (h, k) refl
      step false true h k =
          let z : ◌≡◌ {A = ℕ} 0 1 = cc (opening_passed s h k refl refl refl) in
          absurd (omega arith)

  -- neither is: the walk begins with the body
  pub ending_opened : {found : Found} → answer ≡ Ok found → ending_from found.characters s found.start ≡ ending_of s
  unfolding ending_of ending_from segments_of body_tokens tokens_at body found_by unz_of is_unopened ending maybe or_else
  ending_opened {found} d =
      let p = passed_is s 2 3 e d in
      let unz = step (bad_advice s) (opens s) refl refl in
      ap (λ (f : Found). ending_from f.characters s f.start) p.1
      ∙ sym (ap₂ (ending s) unz (stop_by p.0 refl unz) ∙ either (first_unz (segments_of s)) (worded (length s) (body_tokens s)))
    where
      step : (a b : Bool) → bad_advice s ≡ a → opens s ≡ b → unz_of s ≡ first_unz (segments_of s)
      step true b h k = let z : ◌≡◌ {A = ℕ} 0 1 = cc (opening_unusable s h) in absurd (omega arith)
      step false false h k = let z : ◌≡◌ {A = ℕ} 0 1 = cc (opening_missing s h k refl) in absurd (omega arith)
      step false true h k = rw (h, k) refl

      -- what stops the walk is not asked where there is a UNZ
      either : (unz : Option Segment) (stop : Option Refusal)
          → ending s unz (maybe (or_else none stop) (λ g. none) unz) ≡ ending s unz stop
      either none stop = refl
      either (some g) stop = refl

-- ---- where it ends

-- where a piece ends, by the first UNZ and by what stops the walk
end_by : (s : List ℕ) (unz : Option Segment) (stop : Option Refusal) → end_in s (ending s unz stop) ≡ maybe (length s) (end_behind s) unz
unfolding ending end_in maybe
end_by s none none = refl
end_by s none (some r) = refl
end_by s (some g) stop = refl

-- where the walk from a place ends, by how it ends
pub end_walked : (c : Characters) (s : List ℕ) (at : ℕ) → end_in s (ending_from c s at) ≡ end_from c s at
unfolding ending_from end_from
end_walked c s at = end_by s (first_unz (segments (tokens_at c s at))) (worded (length s) (tokens_at c s at))

module _ (s : List ℕ) {answer : Progress} (e : answer ≡ progress 2 3 s) where
  -- 2 or 3 is met: the rest is one piece
  pub end_unopened : {r : Refusal} → answer ≡ Err r → length s ≡ piece_end s
  unfolding piece_end unz_of is_unopened maybe
  end_unopened {r} d = step (bad_advice s) (opens s) refl refl
    where
      step : (a b : Bool) → bad_advice s ≡ a → opens s ≡ b
          → length s ≡ maybe (length s) (end_behind s) (if a || not b then none else first_unz (segments_of s))
      step true b h k = refl
      step false false h k = refl
      step false true h k =
          let z : ◌≡◌ {A = ℕ} 0 1 = cc (opening_passed s h k refl refl refl) in
          absurd (omega arith)

  -- neither is: the walk begins with the body
  pub end_opened : {found : Found} → answer ≡ Ok found → end_from found.characters s found.start ≡ piece_end s
  unfolding piece_end unz_of is_unopened end_from segments_of body_tokens tokens_at body found_by
  end_opened {found} d = step (bad_advice s) (opens s) refl refl
    where
      step : (a b : Bool) → bad_advice s ≡ a → opens s ≡ b
          → end_from found.characters s found.start
          ≡ maybe (length s) (end_behind s) (if a || not b then none else first_unz (segments_of s))
      step true b h k = let z : ◌≡◌ {A = ℕ} 0 1 = cc (opening_unusable s h) in absurd (omega arith)
      step false false h k = let z : ◌≡◌ {A = ℕ} 0 1 = cc (opening_missing s h k refl) in absurd (omega arith)
      step false true h k =
          ap (λ (f : Found). end_from f.characters s f.start) (passed_is s 2 3 e d).1
