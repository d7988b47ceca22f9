-- What is read and trimmed of a small segment: `A:?+:*:+'`, which stands at place 7 and in which `*` separates repeats. Assumes nothing.
use Prim.Native.Nat.{ℕ}
use mathlib.Core.Path.{◌≡◌, refl}
use mathlib.Core.Bool.{true, false}
use mathlib.Core.List.{List, [], ◌∷◌}
use Rattle.lists.specs.Lists.{is_empty, last_or, onto, cut, unless_idle, drop_end, trim_end, gather}
use Rattle.values.specs.Tokens.{byte, separator, ends, place_of, Segment, start}
use Rattle.values.specs.Values.{Value, byte_of, bytes_of, end_place, value_of, values_of, repeats_of, elements_of}
use Rattle.values.specs.Trimming.{is_idle, trim_repeat, trim_element, trim_segment, is_blank, trimmed, contents_of}

abbrev segment : Segment
segment =
    byte 65 7 7 ∷ separator 3 8 ∷ byte 43 9 10 ∷ separator 3 11 ∷ separator 2 12 ∷ separator 3 13 ∷ separator 1 14 ∷ separator 0 15 ∷ []

abbrev value : List ℕ → ℕ → ℕ → Value
value bytes offset spelled = record { bytes = bytes; offset = offset; spelled = spelled }

-- two elements, the first of two repeats, of three values and of two: each with its bytes, where it is spelled and how long it is spelled
pub elements_are : elements_of segment
    ≡ ((value (65 ∷ []) 7 1 ∷ value (43 ∷ []) 9 2 ∷ value [] 12 0 ∷ []) ∷ (value [] 13 0 ∷ value [] 14 0 ∷ []) ∷ []) ∷ ((value [] 15 0 ∷ []) ∷ []) ∷ []
unfolding elements_of repeats_of values_of value_of bytes_of byte_of gather end_place start place_of last_or cut onto ends
elements_are = refl

-- a value is empty by its bytes, and not by its spelling: a stray release character spells none
pub blank_is : (b offset spelled : ℕ) → (is_blank (value [] offset spelled) ≡ true) × (is_blank (value (b ∷ []) offset spelled) ≡ false)
unfolding is_empty
blank_is b offset spelled = (refl, refl)

-- "empty components at the end of every repeat, down to one"
pub repeat_trimmed : (trim_repeat (is_empty {A = ℕ}) ((65 ∷ []) ∷ [] ∷ (66 ∷ []) ∷ [] ∷ [] ∷ []) ≡ (65 ∷ []) ∷ [] ∷ (66 ∷ []) ∷ [])
    × (trim_repeat (is_empty {A = ℕ}) ([] ∷ [] ∷ []) ≡ [] ∷ [])
unfolding trim_repeat trim_end drop_end unless_idle is_empty
repeat_trimmed = (refl, refl)

-- "then empty repeats at an element's end, down to one": of `A*:*B:*::*`, and of `:*`
pub element_trimmed : (trim_element (is_empty {A = ℕ}) (((65 ∷ []) ∷ []) ∷ ([] ∷ [] ∷ []) ∷ ((66 ∷ []) ∷ [] ∷ []) ∷ ([] ∷ [] ∷ [] ∷ []) ∷ ([] ∷ []) ∷ [])
    ≡ ((65 ∷ []) ∷ []) ∷ ([] ∷ []) ∷ ((66 ∷ []) ∷ []) ∷ [])
    × (trim_element (is_empty {A = ℕ}) (([] ∷ [] ∷ []) ∷ ([] ∷ []) ∷ []) ≡ ([] ∷ []) ∷ [])
unfolding trim_element trim_repeat trim_end drop_end unless_idle is_idle is_empty
element_trimmed = (refl, refl)

-- "then elements as before": of `A+*:+B*+:*+'`, and of `*+'`
pub segment_trimmed : (trim_segment (is_empty {A = ℕ}) ((((65 ∷ []) ∷ []) ∷ []) ∷ (([] ∷ []) ∷ ([] ∷ [] ∷ []) ∷ []) ∷ (((66 ∷ []) ∷ []) ∷ ([] ∷ []) ∷ []) ∷ (([] ∷ [] ∷ []) ∷ ([] ∷ []) ∷ []) ∷ (([] ∷ []) ∷ []) ∷ [])
    ≡ (((65 ∷ []) ∷ []) ∷ []) ∷ (([] ∷ []) ∷ []) ∷ (((66 ∷ []) ∷ []) ∷ []) ∷ [])
    × (trim_segment (is_empty {A = ℕ}) ((([] ∷ []) ∷ ([] ∷ []) ∷ []) ∷ (([] ∷ []) ∷ []) ∷ []) ≡ (([] ∷ []) ∷ []) ∷ [])
unfolding trim_segment trim_element trim_repeat trim_end drop_end unless_idle is_idle is_empty
segment_trimmed = (refl, refl)

-- the values that are left keep their places, and the contents every byte of them
pub trimmed_are : (trimmed segment ≡ ((value (65 ∷ []) 7 1 ∷ value (43 ∷ []) 9 2 ∷ []) ∷ []) ∷ [])
    × (contents_of segment ≡ (((65 ∷ []) ∷ (43 ∷ []) ∷ []) ∷ []) ∷ [])
unfolding contents_of trimmed trim_segment trim_element trim_repeat trim_end drop_end unless_idle is_idle is_empty elements_of repeats_of values_of value_of bytes_of byte_of gather end_place start place_of last_or cut onto ends
trimmed_are = (refl, refl)
