-- Paper 01, "Trimming (clauses 6 and 7)", as request 2026-10 has it. Assumes nothing.
use Rattle.std.specs.Prelude.{ℕ, Bool, List, map}
use Rattle.std.proofs.Math.Option.{Option, none}
use Rattle.lists.specs.Lists.{is_empty, trim_end, at, maybe}
use Rattle.values.specs.Tokens.{Segment}
use Rattle.values.specs.Values.{Value, elements_of}
-- "a single empty value": one alone, which is empty
unfoldable pub use Rattle.nesting.specs.Nesting.{is_idle}

-- over any values of which it is known which are empty
module _ {A : Type 0} (is_blank : A → Bool) where
  -- "Trimming takes empty components at the end of every repeat, down to one"
  unfoldable pub trim_repeat : List A → List A
  trim_repeat repeat = trim_end is_blank repeat

  -- "then empty repeats at an element's end, down to one"
  unfoldable pub trim_element : List (List A) → List (List A)
  trim_element element = trim_end (is_idle is_blank) (map trim_repeat element)

  -- "then elements as before": "elements at a segment's end that are a single empty value go, but never the tag"
  unfoldable pub trim_segment : List (List (List A)) → List (List (List A))
  trim_segment segment = trim_end (is_idle (is_idle is_blank)) (map trim_element segment)

-- a value that was read is empty
abbrev pub is_blank : Value → Bool
is_blank v = is_empty v.bytes

-- the trimmed elements of a segment that was read, with the places of their values
unfoldable pub trimmed : Segment → List (List (List Value))
trimmed segment = trim_segment is_blank (elements_of segment)

-- the value by element, repeat and component, each from 0; element 0 is the tag
unfoldable pub value_at : {A : Type 0} → List (List (List A)) → ℕ → ℕ → ℕ → Option A
value_at segment element repeat component =
    maybe none (λ repeats. maybe none (λ values. at values component) (at repeats repeat)) (at segment element)

-- "The contents are the trimmed list. Values keep every byte"
unfoldable pub contents_of : Segment → List (List (List (List ℕ)))
contents_of segment = map (map (map (λ v. v.bytes))) (trimmed segment)
