-- The text of a value list: an advice, and what its records emit as tokens, from left to right. Assumes nothing.
use Rattle.std.specs.Prelude.{ℕ, ◌≤◌, ◌≡◌, min, true, List, [], ◌∷◌, ◌++◌, ltb, length, Option, Some, None, if◌then◌else◌}
use Rattle.lists.specs.Lists.{text}
use Rattle.characters.specs.declared.Characters.{Characters}
use Rattle.values.specs.Tokens.{Token, separator}
use Rattle.values.specs.Spelling.{Bytes}
use Rattle.emission_laws.specs.declared.Measure.{Measure}
use Rattle.emission_laws.specs.Emission.{nothing, emitted}
use Rattle.held_separators.specs.Putting.{value_tokens}
use Rattle.operations.specs.ValueList.{Item, rank_of, value_in, listed_in}
use Rattle.value_lists.specs.declared.Record.{Record}
use Rattle.value_lists.specs.Records.{entry_of, well_listed}
use Rattle.refusals.specs.Limits.{most_bytes, most_numbers}

-- a record: a separator, and the bytes of its value
abbrev pub record_tokens : Item → List Token
record_tokens l = separator (rank_of l.kind) 0 ∷ value_tokens l.value

-- all of them; the last segment is ended at the end
unfoldable pub list_tokens : List Item → List Token
list_tokens [] = separator 0 0 ∷ []
list_tokens (l ∷ ls) = record_tokens l ++ list_tokens ls

-- The advice ends with the terminator, which the first record, a new segment, stores as it would end a segment before it: so
-- the records are stored from the advice's last byte on.
abbrev pub first_measure : Measure
first_measure = record { total = 8; held = nothing }

module _ (c : Characters) where
  -- the advice without its last byte
  unfoldable pub advice_front : List ℕ
  advice_front = text "UNA" ++ c.component ∷ c.element ∷ c.mark ∷ c.release ∷ c.repetition ∷ []

  -- the text of a value list
  unfoldable pub composed_text : List Item → List ℕ
  composed_text items = advice_front ++ emitted c nothing (list_tokens items)

-- a record that was read, with its value
abbrev pub item_of : Bytes → Record → Item
item_of bytes r = record { kind = r.kind; value = value_in bytes (entry_of r) }

-- a length that a text may have, and none above 32,000
unfoldable pub short_length : ℕ → Option ℕ
short_length n = if ltb most_bytes n then None else Some n

-- What is asked of a value list that is stored as a text: 15 does not refuse it, 1 and 14 do not refuse the text.
pub record Storable (c : Characters) (bytes table buffer : List ℕ) : Type 0 where
  pub listed : well_listed bytes table ≡ true
  pub numbers : length table ≤ most_numbers
  pub short : length (composed_text c (listed_in bytes table)) ≤ most_bytes
  pub room : length (composed_text c (listed_in bytes table)) ≤ length buffer

-- there is room for a text, as far as a place in it fits 64 bits
abbrev pub HasRoom : (room : List ℕ → ℕ) → List ℕ → List ℕ → Type 0
HasRoom room composed buffer = min (length composed) 18446744073709551615 ≤ room buffer

-- What is put of records behind an advice, and the length of the text: one over 32,000 bytes may be put in part.
pub record Composes (holds : List ℕ → ℕ → List ℕ → List ℕ) (c : Characters) (items : List Item) (buffer put : List ℕ) (n : Option ℕ) : Type 0 where
  pub measured : n ≡ short_length (length (composed_text c items))
  pub whole : length (composed_text c items) ≤ most_bytes → put ≡ holds buffer 8 (emitted c nothing (list_tokens items))
