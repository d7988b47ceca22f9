-- What is taken from the received interchange: it is there, it has what an element should, and nothing in it is left to trim.
-- Assumes nothing.
use Prim.Native.Nat.{ℕ, zero, suc, ◌≤◌, ◌<◌}
use mathlib.Core.Path.{◌≡◌, refl, sym, ap, subst, ◌∙◌}
use mathlib.Core.Bool.{Bool, true, false, not, ◌||◌, false≢true}
use mathlib.Core.List.{List, [], ◌∷◌, map}
use mathlib.Core.Option.{Option, none, some, some-injective, none-ne-some}
use lib.ListN.{length}
use native.Mathlib.Omega.{arith}
use borrow.Author.Tests.{not-false}
use Rattle.lists.specs.Lists.{is_empty, all, at, cut, maybe}
use Rattle.lists.proofs.Texts.{and_left, and_right, or_none_left, or_none_right}
use Rattle.lists.proofs.Tests.{at_within}
use Rattle.nesting.specs.Nesting.{shaped, nested}
use Rattle.nesting_laws.proofs.Again.{trim_again}
use Rattle.nesting_laws.proofs.Positions.{at_mapped, at_trimmed}
use Rattle.nesting_laws.proofs.Reading.{nested_shaped}
use Rattle.nesting_laws.proofs.Shape.{shaped_all}
use Rattle.characters.specs.Characters.{characters_of, body_start, body}
use Rattle.values.specs.Tokens.{Token, ends_part, tokens}
use Rattle.values.specs.Values.{bytes_of}
use Rattle.values.specs.Trimming.{is_idle, trim_repeat, trim_element, trim_segment, contents_of}
use Rattle.values.specs.Spelling.{Bytes, SegmentList}
use Rattle.control_elements.specs.Control.{only_value, is_reference}
use Rattle.stages.specs.Contents.{segments_of, contents}
use Rattle.stages.specs.Stages.{refusal_of}
use Rattle.spelling_laws.specs.Bodies.{words_of, listed, read_list, shaped_segment, Shaped}
use Rattle.spelling_laws.proofs.Listing.{listed_nested}
use Rattle.trimming_laws.proofs.Trimmed.{trim_list_shaped}
use Rattle.normal_form_laws.specs.Forms.{list_read}
use Rattle.normal_form_laws.proofs.Trimmed.{contents_words, contents_read}
use Rattle.acknowledgements.specs.Received.{unb_of, element_of, sender_of, recipient_of, has_action_code, is_one_empty, cannot_be_acknowledged}

-- ---- the shape of any contents

listed_shaped : (ts : List Token) → Shaped (listed ts)
unfolding Shaped shaped_segment all is_empty cut
listed_shaped ts = ap (all (shaped Bytes 3)) (listed_nested ts) ∙ step ts
  where
    step : (ts : List Token) → all (shaped Bytes 3) (nested ends_part bytes_of 4 ts) ≡ true
    step [] = refl
    step (t ∷ ts) = shaped_all Bytes 3 (nested ends_part bytes_of 4 (t ∷ ts)) (nested_shaped ends_part bytes_of 4 (t ∷ ts) refl)

contents_shaped : (s : List ℕ) → Shaped (contents s)
unfolding read_list
contents_shaped s =
    subst (λ (list : SegmentList). Shaped list) (sym (contents_read s)) (trim_list_shaped (list_read s) (listed_shaped (tokens (characters_of s) (body_start s) (body s))))

-- ---- one of a list

-- what all pass, one of them passes
pub at_all : {A : Type 0} (t : A → Bool) (xs : List A) (n : ℕ) (x : A) → all t xs ≡ true → at xs n ≡ some x → t x ≡ true
unfolding all at
at_all t [] n x h e = absurd (none-ne-some x e)
at_all t (y ∷ ys) zero x h e = ap t (sym (some-injective y x e)) ∙ and_left (t y) (all t ys) h
at_all t (y ∷ ys) (suc n) x h e = at_all t ys n x (and_right (t y) (all t ys) h) e

-- one stands at each number within the list
at_there : {A : Type 0} (xs : List A) (n : ℕ) → n < length xs → (x : A) × (at xs n ≡ some x)
unfolding at
at_there [] n h = absurd (omega arith)
at_there (x ∷ xs) zero h = (x, refl)
at_there (x ∷ xs) (suc n) h = at_there xs n (omega (arith, h))

-- ---- UNB's elements

module _ (s : List ℕ) where
  -- the header that the contents begin with
  unb_first : (e : List (List (List Bytes))) → at (contents s) 0 ≡ some e → unb_of s ≡ e
  unfolding unb_of maybe
  unb_first e h = ap (maybe [] (λ unb. unb)) h

  module _ (position : ℕ) {e : List (List Bytes)} (h : at (unb_of s) position ≡ some e) where
    is_element : element_of s position ≡ e
    unfolding element_of maybe
    is_element = ap (maybe [] (λ element. element)) h

    -- UNB is there
    private_header : (o : Option (List (List (List Bytes)))) → at (contents s) 0 ≡ o → (unb : List (List (List Bytes))) × (at (contents s) 0 ≡ some unb)
    unfolding unb_of maybe at
    private_header none d = absurd (none-ne-some e (sym (ap (λ (o : Option (List (List (List Bytes)))). at (maybe [] (λ unb. unb) o) position) d) ∙ h))
    private_header (some unb) d = (unb, d)

    element_shaped : shaped Bytes 2 e ≡ true
    unfolding Shaped shaped_segment
    element_shaped =
        let (unb, d) = private_header (at (contents s) 0) refl in
        let whole : shaped Bytes 3 unb ≡ true = at_all (shaped Bytes 3) (contents s) 0 unb (contents_shaped s) d in
        at_all (shaped Bytes 2) unb position e (shaped_all Bytes 2 unb whole) (ap (λ (g : List (List (List Bytes))). at g position) (sym (unb_first unb d)) ∙ h)

    element_trimmed : trim_element is_empty e ≡ e
    unfolding contents trim_segment trim_element trim_repeat
    element_trimmed =
        let (unb, d) = private_header (at (contents s) 0) refl in
        let (g, there, same) = at_mapped contents_of (segments_of s) 0 unb d in
        let trimmed = sym (contents_words g) ∙ same ∙ sym (unb_first unb d) in
        let kept = at_trimmed (is_idle (is_idle is_empty)) (map (trim_element is_empty) (words_of g)) position e (ap (λ (l : List (List (List Bytes))). at l position) trimmed ∙ h) in
        let (words, place, made) = at_mapped (trim_element is_empty) (words_of g) position e kept in
        ap (trim_element is_empty) (sym made) ∙ trim_again Bytes is_empty 2 words ∙ made

-- ---- what is reported

-- What holds of a received interchange that can be acknowledged: UNB has the element, with its shape and trimmed.
pub record Taken (s : List ℕ) (position : ℕ) : Type 0 where
  pub there : at (unb_of s) position ≡ some (element_of s position)
  pub shape : shaped Bytes 2 (element_of s position) ≡ true
  pub trimmed : trim_element is_empty (element_of s position) ≡ element_of s position

taken_there : (s : List ℕ) (position : ℕ) {e : List (List Bytes)} → at (unb_of s) position ≡ some e → Taken s position
taken_there s position h =
    let same = is_element s position h in
    record {
      there = h ∙ ap some (sym same);
      shape = ap (shaped Bytes 2) same ∙ element_shaped s position h;
      trimmed = ap (trim_element is_empty) same ∙ element_trimmed s position h ∙ sym same;
    }

-- a reference that is as document 01 asks is there, and so is each element before it
pub taken_by : (s : List ℕ) → is_reference (maybe none only_value (at (unb_of s) 5)) ≡ true → (position : ℕ) → position ≤ 5 → Taken s position
unfolding is_reference maybe
taken_by s named position k = taken_there s position (at_there (unb_of s) position (omega (arith, k, long (at (unb_of s) 5) refl named))).1
  where
    long : (o : Option (List (List Bytes))) → at (unb_of s) 5 ≡ o → is_reference (maybe none only_value o) ≡ true → 5 < length (unb_of s)
    long none d k = absurd (false≢true k)
    long (some e) d k = at_within (unb_of s) 5 e d

-- What holds where 23 is not met.
pub record Reportable (s : List ℕ) : Type 0 where
  pub judged : has_action_code (refusal_of s) ≡ true
  pub referenced : is_reference (maybe none only_value (at (unb_of s) 5)) ≡ true
  pub sent : is_one_empty (sender_of s) ≡ false
  pub received : is_one_empty (recipient_of s) ≡ false
  pub taken : (position : ℕ) → position ≤ 5 → Taken s position

pub reportable : (s : List ℕ) → cannot_be_acknowledged s ≡ false → Reportable s
unfolding cannot_be_acknowledged
reportable s h =
    let unjudged : Bool = not (has_action_code (refusal_of s)) in
    let unnamed : Bool = not (is_reference (maybe none only_value (at (unb_of s) 5))) in
    let three = or_none_left (unjudged || unnamed || is_one_empty (sender_of s)) (is_one_empty (recipient_of s)) h in
    let two = or_none_left (unjudged || unnamed) (is_one_empty (sender_of s)) three in
    let named = not-false (is_reference (maybe none only_value (at (unb_of s) 5))) (or_none_right unjudged unnamed two) in
    record {
      judged = not-false (has_action_code (refusal_of s)) (or_none_left unjudged unnamed two);
      referenced = named;
      sent = or_none_right (unjudged || unnamed) (is_one_empty (sender_of s)) three;
      received = or_none_right (unjudged || unnamed || is_one_empty (sender_of s)) (is_one_empty (recipient_of s)) h;
      taken = taken_by s named;
    }
