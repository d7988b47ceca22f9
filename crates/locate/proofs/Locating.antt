-- What Locate answers, from the segment that is found and the value in it; and the part of the input that its answer names.
-- Assumes nothing.
use Rattle.std.specs.Prelude.{Ok, Err, Some, None, Option as Perhaps}
use Rattle.std.specs.Option.{unwrap_or}
use Rattle.std.specs.Result.{result_unwrap_or}
use Prim.Native.Nat.{ℕ, ◌+◌, ◌-◌, ◌≤◌}
use mathlib.Core.Path.{◌≡◌, refl, sym, ap, ap₂, subst, ◌∙◌}
use mathlib.Core.List.{List, [], ◌∷◌}
use mathlib.Core.Option.{Option, none, some}
use native.Mathlib.Omega.{arith}
use native.Mathlib.Nat.{add-sub_cancel_left, min-eq_left}
use lib.ListN.{length, take, drop, length-take, length-drop}
use denote.Ref.{Bor}
use Rattle.lists.specs.Lists.{through, at, cut, trim_end, maybe}
use Rattle.lists.proofs.Numbers.{at_map}
use Rattle.characters.specs.declared.Characters.{Characters}
use Rattle.characters.specs.Characters.{body_start}
use Rattle.refusals.specs.declared.Refusal.{Refusal}
use Rattle.values.specs.Tokens.{Token, ends, segments, tokens_at}
use Rattle.values.specs.Values.{Value, elements_of}
use Rattle.values.specs.Trimming.{trimmed, trim_segment, value_at}
use Rattle.scanner.specs.Scan.{segment_at}
use Rattle.stages.specs.Contents.{body_tokens, segments_of}
use Rattle.stages.specs.Stages.{refusal_of}
use Rattle.elements.specs.Elements.{outer, segment_from, first_piece, SegmentAt}
use Rattle.elements.proofs.Elements.{segment_number}
use Rattle.trimmed_values.specs.Trimmed.{placed, Inside as InputHolds}
use Rattle.trimmed_values.proofs.Ends.{Whole, from_whole}
use Rattle.judge.proofs.Bodies.{tokens_here, accepted_ended}
use Rattle.judge.proofs.Told.{characters_of_lem}
use Rattle.answers.specs.declared.Figures.{Figures}
use Rattle.answers.specs.Answers.{Answer, given, refused, told_located, Located}
use Rattle.operations.specs.Judge.{figures_of}
use Rattle.operations.specs.Locate.{located, locate}
use Rattle.operations.proofs.Answered.{part_in, part_told}
use Rattle.contracts.specs.Promises.{HandsBack}
use Rattle.values.specs.declared.Span.{Span}
use Rattle.locate.specs.Locating.{Inside, part_of}

module _ (s : List ℕ) (segment element repeat component : ℕ) where
  -- Judge's refusal answers
  pub locate_refused : {r : Refusal} → refusal_of s ≡ some r → told_located (Err r) ≡ locate s segment element repeat component
  unfolding locate told_located maybe
  locate_refused e = sym (ap (maybe _ refused) e)

  -- ---- an accepted interchange

  module _ (a : refusal_of s ≡ none) {i : Figures} (j : i ≡ figures_of s) {body : ℕ} (b : body ≡ body_start s) (start : ℕ)
      (d : SegmentAt i.characters s body segment start) where
    -- the tokens of the body
    tokens_are : tokens_at i.characters s body ≡ body_tokens s
    tokens_are =
        ap₂ (λ (c : Characters) (p : ℕ). tokens_at c s p) (characters_of_lem s j) b
        ∙ tokens_here s

    start_is : tokens_at i.characters s start ≡ segment_from segment (body_tokens s)
    start_is = d.0 ∙ ap (segment_from segment) tokens_are

    -- they do not end inside a segment
    pub start_whole : Whole (tokens_at i.characters s start)
    start_whole =
        subst Whole (sym start_is)
        (from_whole (outer 0) (ends 0) segment (body_tokens s) (accepted_ended s a))

    -- the value of the segment that tokens begin with; of no segment where there are none
    of_segment_lem : (ts : List Token)
        → maybe none (λ g. value_at (trimmed g) element repeat component) (first_piece 0 ts)
        ≡ value_at (trimmed (through (ends 0) ts)) element repeat component
    unfolding first_piece at maybe cut through value_at trimmed trim_segment trim_end elements_of
    of_segment_lem [] = refl
    of_segment_lem (t ∷ ts) = refl

    -- the value is the one in the segment that was found
    located_is : located s segment element repeat component ≡ value_at (trimmed (segment_at i.characters s start)) element repeat component
    unfolding located segments_of segments segment_at
    located_is =
        at_map none (λ elements. value_at elements element repeat component) trimmed (segments_of s) segment
        ∙ ap (maybe none (λ g. value_at (trimmed g) element repeat component))
        (segment_number segment (body_tokens s) ∙ ap (first_piece 0) (sym start_is))
        ∙ of_segment_lem (tokens_at i.characters s start)

    pub locate_found : {f : Perhaps Span} → f ≡ placed (value_at (trimmed (segment_at i.characters s start)) element repeat component)
        → told_located (Ok f) ≡ locate s segment element repeat component
    unfolding locate maybe told_located placed
    locate_found e =
        ap (λ (f : Perhaps Span). told_located (Ok f)) (e ∙ ap placed (sym located_is))
        ∙ told (located s segment element repeat component)
        ∙ sym (ap (maybe (maybe (given []) (λ v. given (v.offset ∷ v.spelled ∷ [])) (located s segment element repeat component)) refused) a)
      where
        told : (o : Option Value) → told_located (Ok (placed o)) ≡ maybe (given []) (λ v. given (v.offset ∷ v.spelled ∷ [])) o
        told none = refl
        told (some v) = refl

-- what was found lies in the input, and so does what is answered
pub answer_inside : (s : List ℕ) (f : Perhaps Span) → InputHolds s f → Inside s (Ok f)
answer_inside s (Some part) h = h
answer_inside s None h = h

-- ---- the part that an answer names

module _ (s : List ℕ) (segment element repeat component : ℕ) {r : Located} (told : told_located r ≡ locate s segment element repeat component) where
  part_is : (l : Located) → r ≡ l
      → record { offset = (part_in (told_located l).values).0; length = (part_in (told_located l).values).1 } ≡ part_of s segment element repeat component
  unfolding part_of
  part_is l e =
      ap (λ (p : ℕ × ℕ). record { offset = p.0; length = p.1 })
      (ap (λ (a : Answer). part_in a.values) (ap told_located (sym e) ∙ told) ∙ part_told s segment element repeat component)

  -- the part that was found, or zero bytes at the input's start
  pub part_found : {p : Span} → r ≡ Ok (Some p) → p ≡ part_of s segment element repeat component
  unfolding told_located given part_in
  part_found e = part_is _ e

  pub part_absent : r ≡ Ok None → record { offset = 0; length = 0 } ≡ part_of s segment element repeat component
  unfolding told_located given part_in
  part_absent e = part_is (Ok None) e

  pub part_refused : {q : Refusal} → r ≡ Err q → record { offset = 0; length = 0 } ≡ part_of s segment element repeat component
  unfolding told_located refused part_in
  part_refused e = part_is _ e

-- of any answer
pub part_named : (s : List ℕ) (segment element repeat component : ℕ) (r : Located) → told_located r ≡ locate s segment element repeat component
    → unwrap_or (result_unwrap_or r None) (record { offset = 0; length = 0 }) ≡ part_of s segment element repeat component
part_named s segment element repeat component (Ok (Some p)) told = part_found s segment element repeat component told refl
part_named s segment element repeat component (Ok None) told = part_absent s segment element repeat component told refl
part_named s segment element repeat component (Err q) told = part_refused s segment element repeat component told refl

-- as many bytes of the input from there on are handed back
pub handed : (whole : Bor (List ℕ)) (segment element repeat component : ℕ) {part : Span} (p : Bor (List ℕ))
    → part ≡ part_of whole.now segment element repeat component → part.offset + part.length ≤ length whole.now
    → p.now ≡ take (part.offset + part.length - part.offset) (drop part.offset whole.now)
    → p.ref_ptr ≡ (whole.ref_ptr.0, part.offset + whole.ref_ptr.1) → HandsBack whole segment element repeat component p
unfolding part_of
handed whole segment element repeat component {part} p e h b q =
    let from = ap (λ (x : Span). x.offset) e in
    let size = ap (λ (x : Span). x.length) e in
    let bytes = b ∙ ap (λ (k : ℕ). take k (drop part.offset whole.now)) (add-sub_cancel_left part.offset part.length) in
    record {
      place = q ∙ ap (λ (k : ℕ). (whole.ref_ptr.0, k + whole.ref_ptr.1)) from;
      long =
          ap length bytes
          ∙ length-take part.length (drop part.offset whole.now)
          ∙ min-eq_left (omega (arith, length-drop part.offset whole.now))
          ∙ size;
      bytes = bytes ∙ ap₂ (λ (k l : ℕ). take k (drop l whole.now)) size from;
    }
