-- The elements of UNB where they are spelled: what `acknowledgements` takes from the contents is the piece that a place begins.
-- Assumes nothing.
use Prim.Native.Nat.{ℕ, ◌≤◌}
use mathlib.Core.Path.{◌≡◌, refl, sym, ap, ap₂, fun_ext, ◌∙◌}
use mathlib.Core.Bool.{Bool, true, false, not, ◌&&◌, ◌||◌, and-true, and-false, false≢true}
use mathlib.Core.List.{List, [], ◌∷◌, map}
use mathlib.Core.Option.{none, some, some-injective, none-ne-some}
use Rattle.lists.specs.Lists.{is_empty, all, through, at, cut, unless_idle, drop_end, trim_end, maybe}
use Rattle.lists.proofs.Texts.{all_mapped, and_left, and_right}
use Rattle.lists.proofs.Pieces.{cut_first}
use Rattle.nesting.specs.Nesting.{shaped}
use Rattle.nesting_laws.proofs.Reading.{nested_mapped, nested_shaped}
use Rattle.nesting_laws.proofs.Splits.{through_there}
use Rattle.nesting_laws.proofs.Positions.{at_mapped, at_trimmed}
use Rattle.characters.specs.declared.Characters.{Characters}
use Rattle.characters.specs.Characters.{characters_of, body_start}
use Rattle.values.specs.Tokens.{Token, Segment, ends, ends_part, segments, tokens_at}
use Rattle.values.specs.Values.{bytes_of, value_of, values_of, repeats_of, elements_of}
use Rattle.values.specs.Trimming.{is_idle, trim_repeat, trim_element, trim_segment, trimmed, contents_of}
use Rattle.values.specs.Spelling.{Bytes}
use Rattle.control_elements.specs.Control.{only_value, control_element, is_reference}
use Rattle.stages.specs.Contents.{body_tokens, segments_of, contents}
use Rattle.spelling_laws.specs.Bodies.{words_of}
use Rattle.normal_form_laws.proofs.Trimmed.{contents_words}
use Rattle.scanner.specs.Scan.{segment_at}
use Rattle.elements.specs.Elements.{element_from, component_from, first_piece, holds_byte, ElementAt, ComponentAt}
use Rattle.elements.proofs.Elements.{piece_number}
use Rattle.trimmed_values.proofs.Trimmed.{is_bare, bare_pieces}
use Rattle.control_fields.specs.declared.Field.{Field}
use Rattle.control_fields.specs.Fields.{field_of, spells_reference}
use Rattle.control_fields.proofs.Control.{reference_at}
use Rattle.received_pieces.specs.Pieces.{element_in}
use Rattle.acknowledgements.specs.Received.{unb_of, element_of, sender_of, recipient_of, has_action_code, is_one_empty, cannot_be_acknowledged}
use Rattle.acknowledgement_laws.proofs.Received.{taken_by}
use Rattle.judge.proofs.Bodies.{tokens_here}
use Rattle.reported.specs.Reporting.{action_place, Takes}
use Rattle.stages.specs.Stages.{refusal_of}

-- ---- UNB

-- the contents begin with the segment that the tokens begin with
first_contents : (ts : List Token) → maybe [] (λ unb. unb) (at (map contents_of (cut (ends 0) ts)) 0) ≡ contents_of (through (ends 0) ts)
unfolding at maybe cut through contents_of trimmed trim_segment trim_end elements_of
first_contents [] = refl
first_contents (t ∷ ts) =
    ap (λ (gs : List Segment). maybe [] (λ unb. unb) (at (map contents_of gs) 0)) (cut_first (ends 0) t ts)

pub unb_is : (s : List ℕ) → unb_of s ≡ contents_of (through (ends 0) (body_tokens s))
unfolding unb_of contents segments_of segments
unb_is s = first_contents (body_tokens s)

-- ---- an element of it

-- the first piece of tokens that are there
first_is : (rank : ℕ) (ts : List Token) (piece : List Token) → first_piece rank ts ≡ some piece → (is_empty ts ≡ false) × (piece ≡ through (ends rank) ts)
unfolding first_piece is_empty
first_is rank [] piece e = absurd (none-ne-some piece e)
first_is rank (t ∷ ts) piece e = (refl, sym (some-injective (through (ends rank) (t ∷ ts)) piece e))

-- what stands there in the contents is the element that the tokens spell there, trimmed
element_spelt : (ts : List Token) (k : ℕ) (e : List (List Bytes)) → at (contents_of (through (ends 0) ts)) k ≡ some e
    → (is_empty (element_from k ts) ≡ false) × (e ≡ element_in (element_from k ts))
unfolding trim_segment words_of elements_of element_in
element_spelt ts k e h =
    let g : Segment = through (ends 0) ts in
    let kept = at_trimmed (is_idle (is_idle is_empty)) (map (trim_element is_empty) (words_of g)) k e (ap (λ (l : List (List (List Bytes))). at l k) (sym (contents_words g)) ∙ h) in
    let (words, there, made) = at_mapped (trim_element is_empty) (words_of g) k e kept in
    let (element, stands, read) = at_mapped (map (map (λ v. v.bytes))) (elements_of g) k words there in
    let (piece, place, cutting) = at_mapped repeats_of (cut (ends 1) g) k element stands in
    let (some-there, same) = first_is 1 (element_from k ts) piece (sym (piece_number 1 k ts) ∙ place) in
    (some-there, sym made ∙ ap (trim_element is_empty) (sym read ∙ ap (map (map (λ v. v.bytes))) (sym cutting ∙ ap repeats_of same)))

-- ---- one empty value

-- nothing is left where all are idle
empty_left : {A : Type 0} (t : A → Bool) (xs : List A) → is_empty (drop_end t xs) ≡ all t xs
unfolding drop_end unless_idle all is_empty
empty_left t [] = refl
empty_left {A} t (x ∷ xs) = step (t x) (drop_end t xs) (empty_left t xs)
  where
    step : (b : Bool) (ys : List A) → is_empty ys ≡ all t xs → is_empty (unless_idle b x ys) ≡ (b && all t xs)
    step true [] ih = ih
    step true (y ∷ ys) ih = ih
    step false ys ih = refl

idle_left : {A : Type 0} (t : A → Bool) (x : A) (xs : List A) → is_idle t (trim_end t (x ∷ xs)) ≡ all t (x ∷ xs)
unfolding trim_end all is_idle is_empty
idle_left {A} t x xs = step (drop_end t xs) ∙ ap (λ (b : Bool). t x && b) (empty_left t xs)
  where
    step : (ys : List A) → is_idle t (x ∷ ys) ≡ (t x && is_empty ys)
    step [] = sym (and-true (t x))
    step (y ∷ ys) = sym (and-false (t x))

-- a repeat, and an element, trimmed: one empty value where all are empty
repeat_idle : (r : List Bytes) → not (is_empty r) ≡ true → is_idle is_empty (trim_repeat is_empty r) ≡ all is_empty r
unfolding trim_repeat is_empty
repeat_idle [] h = absurd (false≢true h)
repeat_idle (v ∷ vs) h = idle_left is_empty v vs

repeats_idle : (rs : List (List Bytes)) → all (λ r. not (is_empty r)) rs ≡ true
    → all (is_idle is_empty) (map (trim_repeat is_empty) rs) ≡ all (all is_empty) rs
unfolding all
repeats_idle [] h = refl
repeats_idle (r ∷ rs) h =
    ap₂ (λ (a b : Bool). a && b) (repeat_idle r (and_left (not (is_empty r)) (all (λ r. not (is_empty r)) rs) h))
    (repeats_idle rs (and_right (not (is_empty r)) (all (λ r. not (is_empty r)) rs) h))

element_idle : (e : List (List Bytes)) → shaped Bytes 2 e ≡ true → is_one_empty (trim_element is_empty e) ≡ all (all is_empty) e
unfolding is_one_empty trim_element is_empty
element_idle [] h = absurd (false≢true h)
element_idle (r ∷ rs) h =
    idle_left (is_idle is_empty) (trim_repeat is_empty r) (map (trim_repeat is_empty) rs) ∙ repeats_idle (r ∷ rs) h

-- every value that tokens spell is empty where no byte stands in them
words_bare : (us : List Token) → all (all is_empty) (map (map (λ v. v.bytes)) (repeats_of us)) ≡ is_empty (bytes_of us)
unfolding repeats_of values_of value_of
words_bare us =
    all_mapped (map (λ v. v.bytes)) (all is_empty) (map values_of (cut (ends 2) us))
    ∙ all_mapped values_of (λ values. all is_empty (map (λ v. v.bytes) values)) (cut (ends 2) us)
    ∙ ap (λ (t : List Token → Bool). all t (cut (ends 2) us)) (fun_ext values_bare)
    ∙ bare_pieces (ends 2) us
  where
    values_bare : (piece : List Token) → all is_empty (map (λ v. v.bytes) (values_of piece)) ≡ is_bare piece
    values_bare piece =
        all_mapped (λ v. v.bytes) is_empty (map value_of (cut (ends 3) piece))
        ∙ all_mapped value_of (λ v. is_empty v.bytes) (cut (ends 3) piece)
        ∙ bare_pieces (ends 3) piece

-- of tokens that are there
words_shaped : (us : List Token) → is_empty us ≡ false → shaped Bytes 2 (map (map (λ v. v.bytes)) (repeats_of us)) ≡ true
unfolding repeats_of values_of value_of
words_shaped us h = ap (shaped Bytes 2) (nested_mapped ends_part value_of (λ v. v.bytes) 2 us) ∙ nested_shaped ends_part bytes_of 2 us (ap not h)

pub piece_empty : (us : List Token) → is_empty us ≡ false → is_one_empty (element_in us) ≡ is_empty (bytes_of (through (ends 1) us))
unfolding element_in
piece_empty us h =
    element_idle (map (map (λ v. v.bytes)) (repeats_of (through (ends 1) us))) (words_shaped (through (ends 1) us) (through_there (ends 1) us ∙ h))
    ∙ words_bare (through (ends 1) us)

not_not : (b : Bool) → not (not b) ≡ b
not_not true = refl
not_not false = refl

-- ---- what is asked of UNB, where it is spelled

module _ (s : List ℕ) {c : Characters} {start : ℕ} (ours : c ≡ characters_of s) (here : start ≡ body_start s) where
  pub begins_body : tokens_at c s start ≡ body_tokens s
  begins_body = ap₂ (λ (d : Characters) (at : ℕ). tokens_at d s at) ours here ∙ tokens_here s

  pub reference_tells : {r : ℕ} → ElementAt c s start 5 r → {f : Field} → f ≡ field_of (tokens_at c s r) → {b : Bool} → b ≡ spells_reference f
      → is_reference (maybe none only_value (at (unb_of s) 5)) ≡ b
  unfolding control_element segment_at
  reference_tells {r} e d h =
      ap (λ (unb : List (List (List Bytes))). is_reference (maybe none only_value (at unb 5))) (unb_is s ∙ ap (λ (ts : List Token). contents_of (through (ends 0) ts)) (sym begins_body))
      ∙ reference_at c s start 5 e
      ∙ ap spells_reference (sym d)
      ∙ sym h

  -- the pieces that the places begin
  taken_at : (k : ℕ) {r : ℕ} → ElementAt c s start k r → tokens_at (characters_of s) s r ≡ element_from k (body_tokens s)
  taken_at k {r} e = ap (λ (d : Characters). tokens_at d s r) (sym ours) ∙ e.0 ∙ ap (element_from k) begins_body

  pub all_taken : {level version sender recipient reference action : ℕ} → ElementAt c s start 1 level → ComponentAt c s level 1 version
      → ElementAt c s start 2 sender → ElementAt c s start 3 recipient → ElementAt c s start 5 reference → action ≡ action_place (refusal_of s)
      → Takes s (record { characters = c; level = level; version = version; sender = sender; recipient = recipient; reference = reference; action = action })
  all_taken {version = version} l v p q r a =
      record {
        characters = ours;
        level = taken_at 1 l;
        version = ap (λ (d : Characters). tokens_at d s version) (sym ours) ∙ v.0 ∙ ap (component_from 1) (l.0 ∙ ap (element_from 1) begins_body);
        sender = taken_at 2 p;
        recipient = taken_at 3 q;
        reference = taken_at 5 r;
        action = a;
      }

  module _ (named : is_reference (maybe none only_value (at (unb_of s) 5)) ≡ true) (k : ℕ) (low : k ≤ 5) where
    pub element_is : (is_empty (element_from k (body_tokens s)) ≡ false) × (element_of s k ≡ element_in (element_from k (body_tokens s)))
    element_is =
        element_spelt (body_tokens s) k (element_of s k)
        (ap (λ (unb : List (List (List Bytes))). at unb k) (sym (unb_is s)) ∙ (taken_by s named k low).there)

    -- it begins at the place, and is one empty value where no byte stands in it
    module _ {r : ℕ} (e : ElementAt c s start k r) where
      pub place_is : tokens_at c s r ≡ element_from k (body_tokens s)
      place_is = e.0 ∙ ap (element_from k) begins_body

      pub empty_tells : {b : Bool} → b ≡ holds_byte 1 (tokens_at c s r) → is_one_empty (element_of s k) ≡ not b
      unfolding holds_byte
      empty_tells h =
          ap is_one_empty element_is.1
          ∙ piece_empty (element_from k (body_tokens s)) element_is.0
          ∙ sym (not_not (is_empty (bytes_of (through (ends 1) (element_from k (body_tokens s))))))
          ∙ ap (λ (ts : List Token). not (not (is_empty (bytes_of (through (ends 1) ts))))) (sym place_is)
          ∙ ap not (sym h)

-- 23 by its four questions
pub unreportable_by : (s : List ℕ) {a b c d : Bool} → has_action_code (refusal_of s) ≡ a → is_reference (maybe none only_value (at (unb_of s) 5)) ≡ b
    → is_one_empty (sender_of s) ≡ c → is_one_empty (recipient_of s) ≡ d → cannot_be_acknowledged s ≡ (not a || not b || c || d)
unfolding cannot_be_acknowledged
unreportable_by s p q r t =
    ap₂ (λ (x y : Bool). x || y) (ap₂ (λ (x y : Bool). x || y) (ap₂ (λ (x y : Bool). not x || not y) p q) r) t

pub by_reference : (s : List ℕ) → has_action_code (refusal_of s) ≡ true → is_reference (maybe none only_value (at (unb_of s) 5)) ≡ false → cannot_be_acknowledged s ≡ true
by_reference s p q = unreportable_by s p q refl refl ∙ step (is_one_empty (sender_of s)) (is_one_empty (recipient_of s))
  where
    step : (c d : Bool) → (false || true || c || d) ≡ true
    step c d = refl
