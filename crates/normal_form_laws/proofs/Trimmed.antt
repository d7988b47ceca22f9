-- The contents are the list that was read, trimmed; and trimming keeps what holds of every byte. Assumes nothing.
use Prim.Native.Nat.{ℕ}
use mathlib.Core.Path.{◌≡◌, sym, ap, fun_ext, ◌∙◌}
use mathlib.Core.Bool.{Bool, true, not}
use mathlib.Core.List.{List, map, map-map}
use Rattle.lists.specs.Lists.{is_empty, is_single, all}
use Rattle.lists.proofs.Texts.{all_map}
use Rattle.nesting.specs.Nesting.{every, lone}
use Rattle.nesting_laws.proofs.Again.{trim_every, trim_lone, trim_map}
use Rattle.nesting_laws.proofs.Lone.{lone_single}
use Rattle.characters.specs.declared.Characters.{Characters}
use Rattle.characters.specs.Characters.{is_service}
use Rattle.values.specs.Tokens.{Segment}
use Rattle.values.specs.Values.{elements_of}
use Rattle.values.specs.Trimming.{trim_repeat, trim_element, trim_segment, trimmed, contents_of}
use Rattle.values.specs.Spelling.{Bytes, SegmentList}
use Rattle.stages.specs.Contents.{body_tokens, segments_of, contents}
use Rattle.operations.specs.ValueList.{trim_list}
use Rattle.spelling_laws.specs.Bodies.{words_of, listed, read_list, Spellable}
use Rattle.trimming_laws.proofs.Trimmed.{trim_list_again}
use Rattle.normal_form_laws.specs.Forms.{list_read}

-- ---- the contents

-- a segment's contents are its values, trimmed
pub contents_words : (g : Segment) → contents_of g ≡ trim_segment is_empty (words_of g)
unfolding contents_of trimmed words_of trim_segment trim_element trim_repeat
contents_words g = sym (trim_map (λ v. v.bytes) is_empty 3 (elements_of g))

-- "The contents are the trimmed list."
pub contents_read : (s : Bytes) → contents s ≡ trim_list (list_read s)
unfolding contents segments_of body_tokens read_list listed trim_list
contents_read s =
    ap (λ (f : Segment → List (List (List Bytes))). map f (segments_of s)) (fun_ext contents_words)
    ∙ sym (map-map (trim_segment is_empty) words_of (segments_of s))

-- nothing is left to trim
pub contents_trimmed : (s : Bytes) → trim_list (contents s) ≡ contents s
contents_trimmed s = ap trim_list (contents_read s) ∙ trim_list_again (list_read s) ∙ sym (contents_read s)

-- ---- what holds of every byte

-- every byte of every value passes the test
abbrev pub all_bytes : (ℕ → Bool) → SegmentList → Bool
all_bytes p list = every (all p) 4 list

pub trim_bytes : (p : ℕ → Bool) (list : SegmentList) → all_bytes p list ≡ true → all_bytes p (trim_list list) ≡ true
unfolding trim_list trim_segment trim_element trim_repeat
trim_bytes p = all_map (trim_segment is_empty) (every (all p) 3) (every (all p) 3) (trim_every Bytes is_empty (all p) 3)

-- ---- which lists can be spelled

-- an element that has one repeat still has one
trim_single : (list : SegmentList) → every is_single 2 list ≡ true → every is_single 2 (trim_list list) ≡ true
unfolding trim_list trim_segment trim_element trim_repeat
trim_single list h = all_map (trim_segment is_empty) (all is_single) (all is_single) segment list h
  where
    repeats : (g : List (List (List Bytes))) → lone Bytes 1 3 g ≡ all is_single g
    repeats g = ap (λ (t : List (List Bytes) → Bool). all t g) (fun_ext (lone_single Bytes 1))

    segment : (g : List (List (List Bytes))) → all is_single g ≡ true → all is_single (trim_segment is_empty g) ≡ true
    segment g k = sym (repeats (trim_segment is_empty g)) ∙ trim_lone Bytes is_empty 1 3 g (repeats g ∙ k)

pub trim_spellable : (c : Characters) (list : SegmentList) → Spellable c list → Spellable c (trim_list list)
trim_spellable c list h = record {
  released = λ r. trim_bytes (λ b. not (is_service c b)) list (h.released r);
  repeated = λ r. trim_single list (h.repeated r);
}
