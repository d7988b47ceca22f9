-- What is taken over from a received interchange that can be acknowledged: each piece is spelled where it begins, stands under the
-- characters of the normal form, and is what the list put together has. Assumes nothing.
use Rattle.std.specs.Prelude.{if◌then◌else◌}
use Prim.Native.Nat.{ℕ, zero, suc, ◌≤◌}
use mathlib.Core.Path.{◌≡◌, refl, sym, ap, ap₂, ◌∙◌}
use mathlib.Core.Bool.{Bool, true, false, not, ◌||◌, or-true, true≢false, false≢true}
use mathlib.Core.List.{List, [], ◌∷◌}
use mathlib.Core.Option.{Option, none}
use lib.Dec.{lit≤}
use lib.ListN.{length}
use borrow.Author.Tests.{not-false}
use Rattle.lists.specs.Lists.{is_empty, is_single, any, all, those, at, last_or, single, maybe}
use Rattle.lists.proofs.Texts.{and_left, and_right}
use Rattle.characters.specs.declared.Characters.{Characters}
use Rattle.characters.specs.Characters.{between, has_release, has_repetition, usable, six_bytes, characters_of, body_start}
use Rattle.refusals.specs.declared.Fault.TheVariants.{UnusableAdvice, StrayRelease, UnendedSegment, ForeignLevel, MisplacedSegment}
use Rattle.refusals.specs.Refusals.{answering}
use Rattle.refusals.specs.Limits.{most_bytes}
use Rattle.values.specs.Tokens.{Token, ends}
use Rattle.values.specs.Values.{is_fault, ended_by, ends_inside}
use Rattle.values.specs.Trimming.{is_idle, value_at, contents_of}
use Rattle.values.specs.Spelling.{Bytes, SegmentList}
use Rattle.values.proofs.Ends.{ends_more}
use Rattle.control_elements.specs.Control.{only_value, is_reference}
use Rattle.stages.specs.Contents.{contents, body_tokens, normal_characters, normal_repetition}
use Rattle.stages.specs.Stages.{places_of, brackets, brackets_in, stages_in}
use Rattle.stages.proofs.Stages.{unmet, run_none}
use Rattle.spelling_laws.specs.Bodies.{Spellable}
use Rattle.normal_form_laws.proofs.Accepted.{passes_accepted, usable_accepted}
use Rattle.normal_form_laws.proofs.Versions.{named_suits}
use Rattle.normal_form_laws.proofs.Normal.{usable_mark, marked_usable, form_spellable}
use Rattle.scanner.specs.Scan.{segment_at}
use Rattle.elements.specs.Elements.{piece_from, element_from, component_from}
use Rattle.elements.specs.Values.{value_in}
use Rattle.trimmed_values.proofs.Contents.{value_read}
use Rattle.trimmed_values.proofs.Ends.{from_whole}
use Rattle.verbatim.specs.Verbatim.{faultless}
use Rattle.judge.proofs.Bodies.{short, ended, sound}
use Rattle.judge.proofs.Stages.{first_repetition}
use Rattle.received_pieces.specs.Pieces.{element_in, Spelt}
use Rattle.received_pieces.proofs.Trimmed.{piece_bytes}
use Rattle.acknowledgements.specs.Received.{unb_of, element_of, level_received, version_received, characters_to_write, is_one_empty, cannot_be_acknowledged}
use Rattle.acknowledgement_laws.proofs.Received.{at_all, Reportable, reportable}
use Rattle.reported.proofs.Judged.{reported_early}
use Rattle.reported.proofs.Pieces.{unb_is, piece_empty, element_is}

-- ---- tokens

-- tokens that do not end inside a segment end an element
ended_any : (ts : List Token) → is_empty ts ≡ false → ends_inside ts ≡ false → any (ends 1) ts ≡ true
unfolding is_empty ends_inside ended_by any last_or
ended_any [] e h = absurd (true≢false e)
ended_any (t ∷ []) e h = ap (λ (b : Bool). b || false) (ends_more 0 1 (lit≤ tt) t (not-false (ends 0 t) h))
ended_any (t ∷ u ∷ us) e h = ap (λ (b : Bool). ends 1 t || b) (ended_any (u ∷ us) refl h) ∙ or-true (ends 1 t)

-- what all pass, all from a piece on pass
from_all : {A : Type 0} (p t u : A → Bool) (k : ℕ) (xs : List A) → all p xs ≡ true → all p (piece_from t u k xs) ≡ true
unfolding piece_from all
from_all p t u zero xs h = h
from_all p t u (suc k) [] h = refl
from_all {A} p t u (suc k) (x ∷ xs) h =
    let rest = and_right (p x) (all p xs) h in
    step (t x) (u x) (from_all p t u k xs rest) (from_all p t u (suc k) xs rest)
  where
    step : (a b : Bool) → all p (piece_from t u k xs) ≡ true → all p (piece_from t u (suc k) xs) ≡ true
        → all p (if a then [] else (if b then piece_from t u k xs else piece_from t u (suc k) xs)) ≡ true
    step true b one more = refl
    step false true one more = one
    step false false one more = more

-- a reference is not one empty value
named_holds : (e : List (List Bytes)) → is_reference (only_value e) ≡ true → is_one_empty e ≡ false
unfolding is_reference only_value single maybe is_one_empty is_idle is_empty between
named_holds [] h = refl
named_holds ([] ∷ []) h = refl
named_holds (([] ∷ []) ∷ []) h = absurd (false≢true h)
named_holds (((b ∷ bs) ∷ []) ∷ []) h = refl
named_holds ((v ∷ w ∷ vs) ∷ []) h = refl
named_holds (r ∷ q ∷ rs) h = refl

-- what all segments pass, the first passes, and so does none
first_all : (t : List (List (List Bytes)) → Bool) (list : SegmentList) → t [] ≡ true → all t list ≡ true → t (maybe [] (λ unb. unb) (at list 0)) ≡ true
unfolding all at maybe
first_all t [] e h = e
first_all t (unb ∷ list) e h = and_left (t unb) (all t list) h

-- ---- the input

module _ (s : List ℕ) (h : cannot_be_acknowledged s ≡ false) where
  able : Reportable s
  able = reportable s h

  early : answering (stages_in s 1 9) ≡ none
  early = reported_early s able.judged

  read : answering (stages_in s 1 6) ≡ none
  unfolding brackets_in brackets those all
  read = (run_none s 1 6 9 refl early).0

  pub input_short : length s ≤ most_bytes
  input_short = short s read

  -- the characters of the normal form are usable, and have a release character
  own_usable : usable (characters_of s) ≡ true
  unfolding brackets_in brackets those all any places_of
  own_usable = usable_accepted s (unmet s 1 9 early UnusableAdvice refl)

  pub form_usable : usable (characters_to_write s) ≡ true
  unfolding characters_to_write
  form_usable = marked_usable (characters_of s).mark (usable_mark (characters_of s) own_usable) (contents s)

  pub form_releases : has_release (characters_to_write s) ≡ true
  unfolding characters_to_write normal_characters six_bytes has_release
  form_releases = refl

  -- they are found with the characters that were taken over
  pub form_is : {d c : Characters} {start r : ℕ} → d ≡ characters_of s → start ≡ body_start s → r ≡ normal_repetition (contents_of (segment_at d s start) ∷ [])
      → c ≡ normal_characters d.mark r → c ≡ characters_to_write s
  unfolding characters_to_write
  form_is ours here named e =
      e
      ∙ ap₂ (λ (x : Characters) (n : ℕ). normal_characters x.mark n) ours
      (named ∙ ap₂ (λ (x : Characters) (n : ℕ). normal_repetition (contents_of (segment_at x s n) ∷ [])) ours here ∙ first_repetition s read)

  -- the contents can be spelled with them
  spelled_so : Spellable (characters_to_write s) (contents s)
  unfolding characters_to_write brackets_in brackets those all any places_of
  spelled_so =
      form_spellable s own_usable
      ((passes_accepted s).0 (unmet s 1 9 early StrayRelease refl, unmet s 1 9 early UnendedSegment refl))
      (named_suits s (unmet s 1 9 early MisplacedSegment refl) (unmet s 1 9 early ForeignLevel refl))

  -- ---- an element

  module _ (k : ℕ) (low : k ≤ 5) where
    abbrev here : List Token
    here = element_from k (body_tokens s)

    there : (is_empty here ≡ false) × (element_of s k ≡ element_in here)
    there = element_is s {c = characters_of s} {start = body_start s} refl refl able.referenced k low

    pub element_taken : element_in here ≡ element_of s k
    element_taken = sym there.1

    spelt_by : is_one_empty (element_of s k) ≡ false → Spelt here
    unfolding faultless
    spelt_by e =
        record {
          ends_there = ended_any here there.0 (from_whole (ends 0) (ends 1) k (body_tokens s) (ended s read));
          faultless = from_all (λ t. not (is_fault t)) (ends 0) (ends 1) k (body_tokens s) (sound s read);
          holds =
              ap (λ (bs : List ℕ). not (is_empty bs)) (piece_bytes here)
              ∙ ap not (sym (piece_empty here there.0) ∙ ap is_one_empty element_taken ∙ e);
        }

    -- it has one repeat where nothing separates repeats
    pub element_single : has_repetition (characters_to_write s) ≡ false → is_single (element_in here) ≡ true
    unfolding unb_of all
    element_single e =
        ap is_single element_taken
        ∙ at_all is_single (unb_of s) k (element_of s k) (first_all (all is_single) (contents s) refl (spelled_so.repeated e)) (able.taken k low).there

  pub sender_spelt : Spelt (element_from 2 (body_tokens s))
  sender_spelt = spelt_by 2 (lit≤ tt) able.sent

  pub recipient_spelt : Spelt (element_from 3 (body_tokens s))
  recipient_spelt = spelt_by 3 (lit≤ tt) able.received

  pub reference_spelt : Spelt (element_from 5 (body_tokens s))
  unfolding maybe
  reference_spelt =
      spelt_by 5 (lit≤ tt)
      (named_holds (element_of s 5)
      (ap (λ (o : Option (List (List Bytes))). is_reference (maybe none only_value o)) (sym (able.taken 5 (lit≤ tt)).there) ∙ able.referenced))

-- ---- level and version

module _ (s : List ℕ) where
  abbrev syntax_value : ℕ → List (List (List Bytes)) → Bytes
  syntax_value component unb = maybe [] (λ value. value) (value_at unb 1 0 component)

  pub level_taken : value_in (element_from 1 (body_tokens s)) ≡ level_received s
  unfolding level_received maybe piece_from
  level_taken = sym (value_read (maybe [] (λ value. value)) refl (body_tokens s) 1 0 0) ∙ ap (syntax_value 0) (sym (unb_is s))

  pub version_taken : value_in (component_from 1 (element_from 1 (body_tokens s))) ≡ version_received s
  unfolding version_received maybe piece_from
  version_taken = sym (value_read (maybe [] (λ value. value)) refl (body_tokens s) 1 0 1) ∙ ap (syntax_value 1) (sym (unb_is s))
