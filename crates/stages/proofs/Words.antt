-- The places at which an input meets each of 1 to 13, and the normal form byte by byte. Assumes nothing.
use Prim.Native.Nat.{ℕ, ◌+◌, ◌<◌}
use mathlib.Core.Path.{◌≡◌, refl, sym, ap, ◌∙◌}
use mathlib.Core.Bool.{Bool, true, false, not, ◌&&◌}
use mathlib.Core.List.Memᴰ
use mathlib.Core.List.{List, [], ◌∷◌, ◌++◌, map, reverse_aux, nil≢cons, head-eq_of_cons-eq, tail-eq_of_cons-eq, Memᴰ}
use mathlib.Core.Option.{Option, none, some, some-ne-none}
use mathlib.Core.Logic.{◌⊎◌, inl, inr, ⊎_elim, ◌↔◌}
use native.Mathlib.Omega.{arith}
use lib.Dec.{ltb}
use borrow.Author.Tests.{not-true}
use lib.ListN.{length, drop}
use Rattle.lists.specs.Lists.{all, those, at, maybe}
use Rattle.lists.proofs.Tests.{Says, says_lt, says_not, fails, gathered}
use Rattle.characters.specs.declared.Characters.{Characters}
use Rattle.characters.specs.Characters.{six_bytes, spelled_out, advice_of, characters_of, breaks, body_start, body, bad_advice, opens}
use Rattle.characters.proofs.Words.{Usable, advising, advised_opening, advised_bad, advised_opens, short_bad, plain_opening, plain_opens}
use Rattle.refusals.specs.declared.Fault.TheVariants.{TooLong, UnusableAdvice, NoOpening, StrayRelease, UnendedSegment, BrokenTag, ForeignLevel, OutsideLevel, MisplacedSegment, BadControl, ReferenceDiffers, CountWrong, NormalTooLong}
use Rattle.refusals.specs.Refusals.{met, place_if}
use Rattle.refusals.proofs.Words.{place_says}
use Rattle.values.specs.Tokens.{Token, byte, separator, fault, Segment, place_of, start, segments}
use Rattle.values.specs.Values.{is_fault, finished, ends_inside}
use Rattle.values.specs.Trimming.{contents_of}
use Rattle.values.specs.Spelling.{SegmentList, spell}
use Rattle.values.proofs.Words.{fault_says, inside_says, no_segment, start_tokens, start_first}
use Rattle.levels.specs.Levels.{level_of, in_level, has_version4}
use Rattle.levels.proofs.Words.{Names, level_none, FourthVersion, fourth_says, no_version}
use Rattle.segments.specs.Tags.{kind_of, tag_rule}
use Rattle.segments.specs.Order.{allowed, is_complete}
use Rattle.control_elements.specs.Control.{control_rule, reference_differs, count_wrong}
use Rattle.control_elements.specs.Sections.{section_rule}
use Rattle.stages.specs.Contents.{body_tokens, segments_of, contents, kinds_of, normal_characters, normal_repetition, interchange, normal_form}
use Rattle.stages.specs.Places.{is_over, starts_where, too_long, unusable_advice, no_opening, stray_releases, unended_segment, broken_tags, foreign_level, level, place_outside, outside_level, misplaced_segments, bad_controls, differing_references, wrong_counts, normal_too_long}
use Rattle.stages.specs.Stages.{places_of, brackets, brackets_in, bracketed, stages_in, stages, later_stages}

-- a test as a statement
self : (t : Bool) → Says t (t ≡ true)
self t = (λ e. e, λ e. e)

negated : (t : Bool) → Says (not t) (t ≡ false)
negated t = (not-true t, ap not)

-- ---- 1 and 13

pub one_at : (s : List ℕ) (p : ℕ) → Memᴰ p (too_long s) ↔ ((32000 < length s) × (p ≡ 0))
unfolding too_long is_over
one_at s p = place_says (ltb 32000 (length s)) 0 p (says_lt 32000 (length s))

pub thirteen_at : (s : List ℕ) (p : ℕ) → Memᴰ p (normal_too_long s) ↔ ((32000 < length (normal_form s)) × (p ≡ length (normal_form s)))
unfolding normal_too_long is_over
thirteen_at s p = place_says (ltb 32000 (length (normal_form s))) (length (normal_form s)) p (says_lt 32000 (length (normal_form s)))

-- ---- 2 and 3

module _ (c : Characters) (rest : List ℕ) (p : ℕ) where
  pub two_advised : Memᴰ p (unusable_advice (advising c rest)) ↔ ((Usable c → ⊥) × (p ≡ 0))
  unfolding unusable_advice
  two_advised = place_says (bad_advice (advising c rest)) 0 p (advised_bad c rest)

  pub three_advised : Memᴰ p (no_opening (advising c rest))
      ↔ ((((more : List ℕ) × (drop (breaks rest) rest ≡ 85 ∷ 78 ∷ 66 ∷ c.element ∷ more)) → ⊥) × (p ≡ 9 + breaks rest))
  unfolding no_opening
  three_advised =
      rw (advised_opening c rest).1
      (place_says (not (opens (advising c rest))) (9 + breaks rest) p (says_not (opens (advising c rest)) (advised_opens c rest)))

pub two_short : (rest : List ℕ) → length rest < 6 → unusable_advice (85 ∷ 78 ∷ 65 ∷ rest) ≡ 0 ∷ []
unfolding unusable_advice place_if
two_short rest h = rw (short_bad rest h)

module _ (s : List ℕ) (plain : (rest : List ℕ) → s ≡ 85 ∷ 78 ∷ 65 ∷ rest → ⊥) where
  pub two_plain : unusable_advice s ≡ []
  unfolding unusable_advice place_if
  two_plain = rw (plain_opening s plain).2

  pub three_plain : (p : ℕ)
      → Memᴰ p (no_opening s)
      ↔ ((((rest : List ℕ) × (s ≡ 85 ∷ 78 ∷ 66 ∷ 43 ∷ rest)) ⊎ ((rest : List ℕ) × (s ≡ 85 ∷ 78 ∷ 66 ∷ 29 ∷ rest)) → ⊥) × (p ≡ 0))
  unfolding no_opening
  three_plain p =
      rw (plain_opening s plain).0 (place_says (not (opens s)) 0 p (says_not (opens s) (plain_opens s plain)))

-- ---- places of segments

-- p is the start of a segment that fails a test, given what passed before it, the nearest first
abbrev pub StartsAt : (List Segment → Segment → Bool) → List Segment → List Segment → ℕ → Type 0
StartsAt fails past gs p =
    (before : List Segment)
    × (g : Segment)
    × (after : List Segment)
    × (gs ≡ before ++ g ∷ after)
    × (fails (reverse_aux before past) g ≡ true)
    × (p ≡ start g)

starts_at : (fails : List Segment → Segment → Bool) (p : ℕ) (past gs : List Segment)
    → Memᴰ p (starts_where fails past gs) ↔ StartsAt fails past gs p
unfolding starts_where
starts_at fails p past [] = (λ m. absurd (Memᴰ.not-nil m), λ h. absurd (nothing h.0 h.1 h.2 h.3))
  where
    nothing : (before : List Segment) (g : Segment) (after : List Segment) → [] ≡ before ++ g ∷ after → ⊥
    nothing [] g after e = nil≢cons e
    nothing (b ∷ before) g after e = nil≢cons e
starts_at fails p past (g ∷ gs) = (
  λ m. ⊎_elim here (λ k. there ((starts_at fails p (g ∷ past) gs).0 k)) (Memᴰ.append_cases (place_if (fails past g) (start g)) m),
  λ h. back (starts_at fails p (g ∷ past) gs).1 h.0 h.1 h.2 h.3 h.4 h.5,
)
  where
    here : Memᴰ p (place_if (fails past g) (start g)) → StartsAt fails past (g ∷ gs) p
    here m = let h = (place_says (fails past g) (start g) p (self (fails past g))).0 m in ([], g, gs, refl, h.0, h.1)

    there : StartsAt fails (g ∷ past) gs p → StartsAt fails past (g ∷ gs) p
    there (before, h, after, parts, test, place) =
        (g ∷ before, h, after, ap (λ (l : List Segment). g ∷ l) parts, test, place)

    back : (StartsAt fails (g ∷ past) gs p → Memᴰ p (starts_where fails (g ∷ past) gs))
        → (before : List Segment) (h : Segment) (after : List Segment) → g ∷ gs ≡ before ++ h ∷ after
        → fails (reverse_aux before past) h ≡ true → p ≡ start h
        → Memᴰ p (place_if (fails past g) (start g) ++ starts_where fails (g ∷ past) gs)
    back onward [] h after e test place =
        let same : g ≡ h = head-eq_of_cons-eq e in
        Memᴰ.append_left (starts_where fails (g ∷ past) gs)
        ((place_says (fails past g) (start g) p (self (fails past g))).1 (ap (fails past) same ∙ test, place ∙ ap start (sym same)))
    back onward (b ∷ before) h after e test place =
        Memᴰ.append_right (place_if (fails past g) (start g))
        (onward (
          before,
          h,
          after,
          tail-eq_of_cons-eq e,
          ap (λ (x : Segment). fails (reverse_aux before (x ∷ past)) h) (head-eq_of_cons-eq e) ∙ test,
          place,
        ))

module _ (s : List ℕ) (p : ℕ) where
  -- ---- (4 5 6)

  -- where a stray release character stands
  pub four_at : Memᴰ p (stray_releases s) ↔ Memᴰ (fault p) (body_tokens s)
  unfolding stray_releases place_of
  four_at = (
    λ m.
        let h = (gathered (λ t. place_if (is_fault t) (place_of t)) p (body_tokens s)).0 m in
        let k = (place_says (is_fault h.0) (place_of h.0) p (fault_says h.0)).0 h.2 in
        let e : h.0 ≡ fault p = k.0.1 ∙ ap fault (sym (k.1 ∙ ap place_of k.0.1)) in
        Memᴰ.cast (sym e) h.1,
    λ m.
        (gathered (λ t. place_if (is_fault t) (place_of t)) p (body_tokens s)).1
        (fault p, m, (place_says (is_fault (fault p)) p p (fault_says (fault p))).1 ((p, refl), refl)),
  )

  -- the input's length, where tokens end inside a segment
  pub five_at : Memᴰ p (unended_segment s)
      ↔ (((body_tokens s ≡ [] → ⊥) × ((before : List Token) (q : ℕ) → body_tokens s ≡ before ++ separator 0 q ∷ [] → ⊥)) × (p ≡ length s))
  unfolding unended_segment
  five_at = place_says (ends_inside (body_tokens s)) (length s) p (inside_says (body_tokens s))

  -- the start of a finished segment
  pub six_at : Memᴰ p (broken_tags s) ↔ StartsAt (λ past g. finished g && not (tag_rule g)) [] (segments_of s) p
  unfolding broken_tags
  six_at = starts_at (λ past g. finished g && not (tag_rule g)) p [] (segments_of s)

  -- ---- 7 and 8

  module _ (unb : Segment) (rest : List Segment) (e : segments_of s ≡ unb ∷ rest) where
    -- the first segment starts where the body does
    pub unb_start : start unb ≡ body_start s
    unfolding segments_of body_tokens
    unb_start =
        start_first (body_tokens s) unb rest e
        ∙ start_tokens (characters_of s) (body_start s) (body s) (λ h. nil≢cons (sym no_segment ∙ ap segments (sym h) ∙ e))

    pub seven_at : Memᴰ p (foreign_level s)
        ↔ ((Names (characters_of s) (contents_of unb) 65 → ⊥) × (Names (characters_of s) (contents_of unb) 66 → ⊥) × (p ≡ body_start s))
    unfolding foreign_level at maybe
    seven_at = rw (e, ← unb_start) (step (level_of (characters_of s) unb) (level_none (characters_of s) unb))
      where
        step : (o : Option ℕ) → (o ≡ none) ↔ ((Names (characters_of s) (contents_of unb) 65 → ⊥) × (Names (characters_of s) (contents_of unb) 66 → ⊥))
            → Memᴰ p (maybe (start unb ∷ []) (λ l. []) o)
            ↔ ((Names (characters_of s) (contents_of unb) 65 → ⊥) × (Names (characters_of s) (contents_of unb) 66 → ⊥) × (p ≡ start unb))
        step none h = (λ m. ((h.0 refl).0, (h.0 refl).1, Memᴰ.eq_of_singleton m), λ k. Memᴰ.head k.2)
        step (some l) h = (
          λ m. absurd (Memᴰ.not-nil m),
          λ k. absurd (some-ne-none l (h.1 (k.0, k.1))),
        )

    -- the byte itself
    pub eight_at : (l : ℕ) → level_of (characters_of s) unb ≡ some l
        → Memᴰ p (outside_level s) ↔ ((b : ℕ) × (from : ℕ) × Memᴰ (byte b from p) (body_tokens s) × (in_level l b ≡ false))
    unfolding outside_level place_outside level at maybe
    eight_at l named = (
      λ m.
          let h = (gathered (place_outside s) p (body_tokens s)).0 m in
          let k = (outside h.0).0 h.2 in
          (k.0, k.1, Memᴰ.cast (sym k.2) h.1, k.3),
      λ k.
          (gathered (place_outside s) p (body_tokens s)).1
          (byte k.0 k.1 p, k.2, (outside (byte k.0 k.1 p)).1 (k.0, k.1, refl, k.3)),
    )
      where
        named_level : level s ≡ l
        named_level = rw (e, named)

        outside : (t : Token) → Memᴰ p (place_outside s t) ↔ ((b : ℕ) × (from : ℕ) × (t ≡ byte b from p) × (in_level l b ≡ false))
        outside (byte b from place) =
            rw named_level (
              λ m. let h = (place_says (not (in_level l b)) place p (negated (in_level l b))).0 m in (b, from, ap (byte b from) (sym h.1), h.0),
              λ h. (place_says (not (in_level l b)) place p (negated (in_level l b))).1 (
                let q : b ≡ h.0 = cc h.2 in ap (in_level l) q ∙ h.3,
                cc h.2,
              ),
            )
        outside (separator rank place) = (
          λ m. absurd (Memᴰ.not-nil m),
          λ h. absurd (let z : ◌≡◌ {A = ℕ} 0 1 = cc h.2 in omega arith),
        )
        outside (fault place) = (
          λ m. absurd (Memᴰ.not-nil m),
          λ h. absurd (let z : ◌≡◌ {A = ℕ} 0 1 = cc h.2 in omega arith),
        )

  -- ---- 9

  -- the start of a segment that is not allowed there, or of a UNS that breaks the rule of sections; or the input's length
  pub nine_at : Memᴰ p (misplaced_segments s)
      ↔ (StartsAt (λ past g. not (allowed (map kind_of past) (kind_of g) && section_rule past g)) [] (segments_of s) p
      ⊎ ((is_complete (kinds_of s) ≡ false) × (p ≡ length s)))
  unfolding misplaced_segments
  nine_at =
      let misplaced : List Segment → Segment → Bool = λ past g. not (allowed (map kind_of past) (kind_of g) && section_rule past g) in
      let unended : Bool = not (is_complete (kinds_of s)) in
      let ended = place_says unended (length s) p (negated (is_complete (kinds_of s))) in
      let starts = starts_at misplaced p [] (segments_of s) in (
        λ m. ⊎_elim (λ k. inl (starts.0 k)) (λ k. inr (ended.0 k)) (Memᴰ.append_cases (starts_where misplaced [] (segments_of s)) m),
        ⊎_elim
            (λ h. Memᴰ.append_left (place_if unended (length s)) (starts.1 h))
            (λ h. Memᴰ.append_right (starts_where misplaced [] (segments_of s)) (ended.1 h)),
      )

  -- ---- (10 11 12)

  pub ten_at : Memᴰ p (bad_controls s) ↔ StartsAt (λ past g. not (control_rule g)) [] (segments_of s) p
  unfolding bad_controls
  ten_at = starts_at (λ past g. not (control_rule g)) p [] (segments_of s)

  pub eleven_at : Memᴰ p (differing_references s) ↔ StartsAt reference_differs [] (segments_of s) p
  unfolding differing_references
  eleven_at = starts_at reference_differs p [] (segments_of s)

  pub twelve_at : Memᴰ p (wrong_counts s) ↔ StartsAt count_wrong [] (segments_of s) p
  unfolding wrong_counts
  twelve_at = starts_at count_wrong p [] (segments_of s)

-- ---- the stages

-- "Stages: 1, 2, 3, (4 5 6), 7, 8, 9, (10 11 12), 13": what each brackets, and their order
pub stages_are : (s : List ℕ)
    → stages s
    ≡ met TooLong (too_long s)
    ∷ met UnusableAdvice (unusable_advice s)
    ∷ met NoOpening (no_opening s)
    ∷ (met StrayRelease (stray_releases s) ++ (met UnendedSegment (unended_segment s) ++ met BrokenTag (broken_tags s)))
    ∷ met ForeignLevel (foreign_level s)
    ∷ met OutsideLevel (outside_level s)
    ∷ met MisplacedSegment (misplaced_segments s)
    ∷ (met BadControl (bad_controls s) ++ (met ReferenceDiffers (differing_references s) ++ met CountWrong (wrong_counts s)))
    ∷ met NormalTooLong (normal_too_long s)
    ∷ []
unfolding stages brackets bracketed places_of
stages_are s = refl

-- "3 to 13": all but the first two
pub later_are : (s : List ℕ) → stages s ≡ met TooLong (too_long s) ∷ met UnusableAdvice (unusable_advice s) ∷ later_stages s
unfolding stages later_stages stages_in brackets_in brackets bracketed places_of those all
later_are s = refl

-- a run of stages is whole stages: one that its first or last number would cut is not of it
pub runs_are : (brackets_in 4 6 ≡ (StrayRelease ∷ UnendedSegment ∷ BrokenTag ∷ []) ∷ []) × (brackets_in 5 6 ≡ []) × (brackets_in 1 13 ≡ brackets)
unfolding brackets_in brackets those all
runs_are = (refl, refl, refl)

-- ---- the normal form

-- "`UNA:+`, the mark, `? '`, then the contents spelled with those characters.", with the fifth byte of the contents' version
pub form_is : (s : List ℕ)
    → normal_form s
    ≡ 85
    ∷ 78
    ∷ 65
    ∷ 58
    ∷ 43
    ∷ (characters_of s).mark
    ∷ 63
    ∷ normal_repetition (contents s)
    ∷ 39
    ∷ spell
    (record { component = 58; element = 43; mark = (characters_of s).mark; release = 63; repetition = normal_repetition (contents s); terminator = 39 })
    (contents s)
unfolding normal_form interchange normal_characters advice_of spelled_out six_bytes
form_is s = refl

-- request 2026-10: "A version 4 normal form has `*` in the fifth place ..; older ones keep the space."
pub fifth_is : (unb : List (List (List (List ℕ)))) (rest : SegmentList)
    → (FourthVersion unb → normal_repetition (unb ∷ rest) ≡ 42)
    × ((FourthVersion unb → ⊥) → normal_repetition (unb ∷ rest) ≡ 32)
    × (normal_repetition [] ≡ 32)
unfolding normal_repetition
fifth_is unb rest = (
  λ h. rw ((fourth_says unb rest).1 h),
  λ h. rw ((fails (has_version4 (unb ∷ rest)) (fourth_says unb rest)).1 h),
  rw no_version,
)
