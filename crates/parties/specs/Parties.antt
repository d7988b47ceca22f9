-- The parties of an interchange, by what Locate's companion hands back. Assumes nothing.
use Rattle.std.specs.Prelude.{ℕ, List, if◌then◌else◌, Result, Ok, Err}
use Rattle.std.proofs.Math.Option.{Option, none, some}
use Rattle.lists.specs.Lists.{through, maybe}
use Rattle.refusals.specs.declared.Refusal.{Refusal}
use Rattle.values.specs.Tokens.{Token, ends}
use Rattle.values.specs.Values.{Value, value_of}
use Rattle.stages.specs.Stages.{refusal_of}
use Rattle.elements.specs.Elements.{holds_byte}
use Rattle.values.specs.declared.Span.{Span}
use Rattle.locate.specs.Locating.{part_of}
use Rattle.parties.specs.declared.Parties.{Parties}

-- the first components of the interchange header's elements (ISO 9735: UNB's S002 interchange sender, S003 interchange recipient and
-- 0020 interchange control reference, which are its elements 2, 3 and 5)
unfoldable pub spelled_parties : List ℕ → Parties
spelled_parties s =
    record {
      sender = part_of s 0 2 0 0;
      recipient = part_of s 0 3 0 0;
      reference = part_of s 0 5 0 0;
    }

-- they, or Judge's refusal
unfoldable pub parties_of : List ℕ → Result Parties Refusal
parties_of s = maybe (Ok (spelled_parties s)) Err (refusal_of s)

-- the part that spells a value; zero bytes at the input's start where there is none
unfoldable pub span_of : Option Value → Span
span_of v = record { offset = maybe 0 (λ x. x.offset) v; length = maybe 0 (λ x. x.spelled) v }

-- the first value of the element that tokens begin with, of those after the tag, where trimming leaves the element
unfoldable pub first_value : List Token → Span
first_value ts = span_of (if holds_byte 0 ts then some (value_of (through (ends 3) ts)) else none)
