-- What trimming leaves of a segment, by number, and where it stands, over the tokens that the segment begins. Assumes nothing.
use Rattle.std.specs.Prelude.{ℕ, zero, suc, ◌+◌, ◌≤◌, Bool, true, false, not, ◌&&◌, List, length, Option as Perhaps, Some, None}
use Rattle.std.proofs.Math.Option.{Option, none, some}
use Rattle.lists.specs.Lists.{is_empty}
use Rattle.values.specs.Tokens.{Token}
use Rattle.values.specs.Values.{Value}
use Rattle.elements.specs.declared.NextByte.{NextByte}
use Rattle.elements.specs.declared.NextByte.TheVariants.{Byte, Ended}
use Rattle.elements.specs.Elements.{element_from, repeat_from, component_from, holds_byte}
use Rattle.elements.specs.Values.{value_end}
use Rattle.values.specs.declared.Span.{Span}

-- trimming keeps the piece of that number, which the tokens begin with: the first where it is there at all, any other where a byte
-- of a value stands from it on, in what a separator of this rank ends
unfoldable pub stays_in : ℕ → ℕ → List Token → Bool
stays_in rank zero ts = not (is_empty ts)
stays_in rank (suc n) ts = holds_byte rank ts

-- the tokens from a repeat on, by element and repeat, and from a value on, by element, repeat and component
abbrev pub repeat_in : ℕ → ℕ → List Token → List Token
repeat_in element repeat ts = repeat_from repeat (element_from element ts)

abbrev pub value_from : ℕ → ℕ → ℕ → List Token → List Token
value_from element repeat component ts = component_from component (repeat_in element repeat ts)

-- trimming leaves that repeat: its element stays, and in it the repeat; and that value: in the repeat the component
abbrev pub repeat_stays : ℕ → ℕ → List Token → Bool
repeat_stays element repeat ts = stays_in 0 element (element_from element ts) && stays_in 1 repeat (repeat_in element repeat ts)

abbrev pub value_stays : ℕ → ℕ → ℕ → List Token → Bool
value_stays element repeat component ts = repeat_stays element repeat ts && stays_in 2 component (value_from element repeat component ts)

-- only empty repeats follow the first of the element that the tokens begin
unfoldable pub is_unrepeated : List Token → Bool
is_unrepeated ts = not (holds_byte 1 (repeat_from 1 ts))

-- only empty values follow the first of the element that the tokens begin
unfoldable pub is_alone : List Token → Bool
is_alone ts = not (holds_byte 1 (value_end ts))

-- the place of the value, if there is one
unfoldable pub placed : Option Value → Perhaps Span
placed none = None
placed (some v) = Some (record { offset = v.offset; length = v.spelled })

-- what was found lies in the input
abbrev pub Inside : List ℕ → Perhaps Span → Type 0
Inside s (Some part) = part.offset + part.length ≤ length s
Inside s None = Unit {0}

-- the value has no byte more
abbrev pub is_ended : NextByte → Bool
is_ended (Byte b next) = false
is_ended (Ended place) = true
