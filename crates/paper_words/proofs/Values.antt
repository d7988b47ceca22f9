-- The values of a segment between its separators, their spelling, and their kinds in a value list. Assumes nothing.
use Prim.Native.Nat.{ℕ, zero, suc, ◌≤◌}
use mathlib.Core.Path.{◌≡◌, refl, sym, ap, ◌∙◌}
use mathlib.Core.List.{List, [], ◌∷◌, ◌++◌, append-nil, append_assoc, Memᴰ}
use native.Mathlib.Omega.{arith}
use Rattle.lists.specs.Lists.{is_empty, trim_end, gather, each_led_by, joined}
use Rattle.nesting.specs.Nesting.{nested}
use Rattle.nesting_laws.proofs.Reading.{push, nested_mapped, nested_next}
use Rattle.characters.specs.declared.Characters.{Characters}
use Rattle.values.specs.Tokens.{Token, byte, separator, fault, ends, ends_part, Segment}
use Rattle.values.specs.Values.{byte_of, bytes_of, value_of, values_of, repeats_of, elements_of}
use Rattle.values.specs.Trimming.{trim_repeat, trim_element, trim_segment}
use Rattle.values.specs.Spelling.{Bytes, SegmentList, spell_value, spell_repeat, spell_element, spell_segment, spell}
use Rattle.segments.specs.Kinds.{kind_named}
use Rattle.segments.specs.Tags.{kind_of}
use Rattle.segments.proofs.Words.{kind_is}
use Rattle.operations.specs.ValueList.{list_repeat, list_element, list_segment, list_of}
use Rattle.spelling_laws.specs.Bodies.{words_of}
use Rattle.normal_form_laws.proofs.Tags.{foremost, first_value, tag_first}
use Rattle.normal_form_laws.proofs.Trimmed.{contents_words}
use Rattle.paper_words.specs.PaperWords.{Elements, item, begun}

-- ---- what ends a value

-- what a token adds to the values that go on after it
abbrev added : Token → Elements → Elements
added t elements = push ends_part [] (λ t value. byte_of t ++ value) 3 t elements

words_nested : (ts : List Token) → words_of ts ≡ nested ends_part bytes_of 3 ts
unfolding words_of elements_of repeats_of values_of value_of
words_nested ts = nested_mapped ends_part value_of (λ v. v.bytes) 3 ts

words_next : (t : Token) (ts : List Token) → words_of (t ∷ ts) ≡ added t (words_of ts)
unfolding bytes_of gather
words_next t ts =
    words_nested (t ∷ ts)
    ∙ nested_next ends_part [] (λ t value. byte_of t ++ value) bytes_of refl (λ t ts. refl) 3 t ts
    ∙ ap (added t) (sym (words_nested ts))

-- bytes go to the value that goes on after them
words_front : (u ts : List Token) → ((k p : ℕ) → Memᴰ (separator k p) u → ⊥)
    → (v : Bytes) (vs : List Bytes) (rs : List (List Bytes)) (es : Elements) → words_of ts ≡ ((v ∷ vs) ∷ rs) ∷ es
    → words_of (u ++ ts) ≡ (((bytes_of u ++ v) ∷ vs) ∷ rs) ∷ es
unfolding bytes_of byte_of gather ends
words_front [] ts none v vs rs es e = e
words_front (byte b from place ∷ u) ts none v vs rs es e =
    words_next (byte b from place) (u ++ ts)
    ∙ ap (added (byte b from place)) (words_front u ts (λ k p m. none k p (Memᴰ.tail m)) v vs rs es e)
words_front (separator k p ∷ u) ts none v vs rs es e = absurd (none k p (Memᴰ.head refl))
words_front (fault place ∷ u) ts none v vs rs es e =
    words_next (fault place) (u ++ ts) ∙ ap (added (fault place)) (words_front u ts (λ k p m. none k p (Memᴰ.tail m)) v vs rs es e)

module _ (u : List Token) (q : ℕ) (rest : List Token) (none : (k p : ℕ) → Memᴰ (separator k p) u → ⊥) where
  -- the bytes before a separator, where that ends a value
  before : (rank : ℕ) (vs : List Bytes) (rs : List (List Bytes)) (es : Elements) → words_of (separator rank q ∷ rest) ≡ (([] ∷ vs) ∷ rs) ∷ es
      → words_of (u ++ separator rank q ∷ rest) ≡ ((bytes_of u ∷ vs) ∷ rs) ∷ es
  before rank vs rs es e =
      words_front u (separator rank q ∷ rest) none [] vs rs es e ∙ ap (λ (b : Bytes). ((b ∷ vs) ∷ rs) ∷ es) (append-nil (bytes_of u))

  pub element_ends : (rank : ℕ) → rank ≤ 1 → words_of (u ++ separator rank q ∷ rest) ≡ ((bytes_of u ∷ []) ∷ []) ∷ words_of rest
  unfolding byte_of ends
  element_ends zero low = before 0 [] [] (words_of rest) (words_next (separator 0 q) rest)
  element_ends (suc zero) low = before 1 [] [] (words_of rest) (words_next (separator 1 q) rest)
  element_ends (suc (suc rank)) low = absurd (omega arith)

  module _ (values : List Bytes) (repeats : List (List Bytes)) (elements : Elements) (e : words_of rest ≡ (values ∷ repeats) ∷ elements) where
    pub repeat_ends : words_of (u ++ separator 2 q ∷ rest) ≡ ((bytes_of u ∷ []) ∷ values ∷ repeats) ∷ elements
    unfolding byte_of ends
    repeat_ends = before 2 [] (values ∷ repeats) elements (words_next (separator 2 q) rest ∙ ap (added (separator 2 q)) e)

    pub component_ends : words_of (u ++ separator 3 q ∷ rest) ≡ ((bytes_of u ∷ values) ∷ repeats) ∷ elements
    unfolding byte_of ends
    component_ends = before 3 values repeats elements (words_next (separator 3 q) rest ∙ ap (added (separator 3 q)) e)

-- ---- the first value

-- "The first element is the tag"
pub tag_kind : (g : Segment) (tag : Bytes) (figures : List Bytes) (repeats : List (List Bytes)) (elements : Elements)
    → words_of g ≡ ((tag ∷ figures) ∷ repeats) ∷ elements → kind_of g ≡ kind_named tag
unfolding first_value foremost trim_segment trim_element trim_repeat trim_end
tag_kind g tag figures repeats elements e =
    kind_is g ∙ ap kind_named (tag_first g ∙ ap first_value (contents_words g ∙ ap (trim_segment is_empty) e))

-- ---- spelling

module _ (c : Characters) (u v : Bytes) (vs r : List Bytes) (rs e : List (List Bytes)) (es : Elements) (gs : SegmentList) where
  pub spelled_on : (spell c [] ≡ [])
      × (spell c ((((u ∷ []) ∷ []) ∷ []) ∷ gs) ≡ spell_value c u ++ c.terminator ∷ spell c gs)
      × (spell c ((((u ∷ v ∷ vs) ∷ rs) ∷ es) ∷ gs) ≡ spell_value c u ++ c.component ∷ spell c ((((v ∷ vs) ∷ rs) ∷ es) ∷ gs))
      × (spell c ((((u ∷ []) ∷ r ∷ rs) ∷ es) ∷ gs) ≡ spell_value c u ++ c.repetition ∷ spell c (((r ∷ rs) ∷ es) ∷ gs))
      × (spell c ((((u ∷ []) ∷ []) ∷ e ∷ es) ∷ gs) ≡ spell_value c u ++ c.element ∷ spell c ((e ∷ es) ∷ gs))
  unfolding spell spell_segment spell_element spell_repeat gather joined each_led_by
  spelled_on = (refl, simp (append-nil, append_assoc), simp append_assoc, simp (append-nil, append_assoc), simp (append-nil, append_assoc))

-- ---- value lists

module _ (u v : Bytes) (vs : List Bytes) (rs : List (List Bytes)) (es : Elements) (gs : SegmentList) where
  pub listed_on : (list_of [] ≡ [])
      × (list_of ((((u ∷ []) ∷ []) ∷ []) ∷ gs) ≡ item 0 u ∷ list_of gs)
      × (list_of ((((u ∷ v ∷ vs) ∷ rs) ∷ es) ∷ gs) ≡ item 0 u ∷ begun 2 (list_of ((((v ∷ vs) ∷ rs) ∷ es) ∷ gs)))
      × (list_of ((((u ∷ []) ∷ (v ∷ vs) ∷ rs) ∷ es) ∷ gs) ≡ item 0 u ∷ begun 3 (list_of ((((v ∷ vs) ∷ rs) ∷ es) ∷ gs)))
      × (list_of ((((u ∷ []) ∷ []) ∷ ((v ∷ vs) ∷ rs) ∷ es) ∷ gs) ≡ item 0 u ∷ begun 1 (list_of ((((v ∷ vs) ∷ rs) ∷ es) ∷ gs)))
  unfolding list_of list_segment list_element list_repeat gather
  listed_on = (refl, refl, refl, refl, refl)
