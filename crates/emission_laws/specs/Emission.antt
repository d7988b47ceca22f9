-- The trimmed contents of a body, spelled from left to right: a separator is held back until a value's byte follows it,
-- and goes where what it would separate is empty to the end. Assumes nothing.
use Rattle.std.specs.Prelude.{ℕ, ◌+◌, List, [], ◌∷◌, ◌++◌, leb, length, replicate, if◌then◌else◌}
use Rattle.characters.specs.declared.Characters.{Characters}
use Rattle.values.specs.Tokens.{Token, byte, separator, fault}
use Rattle.values.specs.Spelling.{spell_byte}
use Rattle.emission_laws.specs.declared.Held.{Held}
use Rattle.emission_laws.specs.declared.Measure.{Measure}

-- ---- what is held back

abbrev pub nothing : Held
nothing = record { elements = 0; repeats = 0; components = 0 }

-- how many separators there are
abbrev pub waiting : Held → ℕ
waiting h = h.elements + h.repeats + h.components

-- After a separator of a rank. A terminator drops them all: "elements at a segment's end that are a single empty value go"; an
-- element separator drops those of repeats and components, "empty repeats at an element's end", and is one more; a repetition separator
-- drops those of components, "empty components at the end of every repeat", and is one more.
unfoldable pub separated : Held → ℕ → Held
separated h rank =
    if leb rank 0 then nothing
    else (if leb rank 1 then record { elements = h.elements + 1; repeats = 0; components = 0 }
    else (if leb rank 2 then record { elements = h.elements; repeats = h.repeats + 1; components = 0 }
    else record { elements = h.elements; repeats = h.repeats; components = h.components + 1 }))

-- after a token: a byte of a value lets them all out
unfoldable pub held_next : Held → Token → Held
held_next h (byte b from place) = nothing
held_next h (separator rank place) = separated h rank
held_next h (fault place) = h

-- after tokens
unfoldable pub held_after : Held → List Token → Held
held_after h [] = h
held_after h (t ∷ ts) = held_after (held_next h t) ts

-- ---- what is spelled

module _ (c : Characters) where
  -- the separators that are held back
  unfoldable pub let_out : Held → List ℕ
  let_out h = replicate h.elements c.element ++ (replicate h.repeats c.repetition ++ replicate h.components c.component)

  -- a token, where so much is held back
  unfoldable pub spelled_next : Held → Token → List ℕ
  spelled_next h (byte b from place) = let_out h ++ spell_byte c b
  spelled_next h (separator rank place) = if leb rank 0 then c.terminator ∷ [] else []
  spelled_next h (fault place) = []

  -- tokens
  unfoldable pub emitted : Held → List Token → List ℕ
  emitted h [] = []
  emitted h (t ∷ ts) = spelled_next h t ++ emitted (held_next h t) ts

  -- how long the text is after tokens, and what is held back then
  unfoldable pub after : Measure → List Token → Measure
  after m ts = record { total = m.total + length (emitted m.held ts); held = held_after m.held ts }
