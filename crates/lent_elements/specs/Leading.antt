-- The records of a lent list as they stand in the list put together, and what putting them asks and promises. Assumes nothing.
use Rattle.std.specs.Prelude.{ℕ, ◌+◌, ◌≤◌, ◌<◌, ◌≡◌, List, [], ◌∷◌, min, length, get_or}
use Rattle.characters.specs.declared.Characters.{Characters}
use Rattle.values.specs.Tokens.{Token}
use Rattle.emission_laws.specs.declared.Measure.{Measure}
use Rattle.emission_laws.specs.Emission.{emitted, after}
use Rattle.operations.specs.ValueList.{Item, listed_in}
use Rattle.refusals.specs.Limits.{most_bytes}
use Rattle.value_lists.specs.declared.Record.{Record}
use Rattle.value_lists.specs.Records.{entry_of}
use Rattle.value_list_text.specs.Advancing.{records_tokens, Appended}
use Rattle.acknowledgements.specs.Lent.{LentList}
use Rattle.lent_elements.specs.declared.LentElement.{LentElement}

-- the value list that is lent
abbrev pub list_in : LentElement → LentList
list_in l = record { bytes = l.bytes.now; table = l.table.now }

-- the first begins an element
unfoldable pub leading : List Item → List Item
leading [] = []
leading (l ∷ ls) = record { kind = 1; value = l.value } ∷ ls

abbrev pub lent_items : LentList → List Item
lent_items l = leading (listed_in l.bytes l.table)

-- the first record of a table with the kind of an element's first value
abbrev pub LeadsTable : List ℕ → Record → Type 0
LeadsTable table r = entry_of r ≡ record { kind = 1; start = get_or table 1 0; size = get_or table 2 0 }

-- there is room for what the tokens spell, as far as a place after it fits 64 bits
abbrev pub Reaches : (room : List ℕ → ℕ) → Characters → List ℕ → Measure → List Token → Type 0
Reaches room c buffer m ts = min (m.total + length (emitted c m.held ts)) 18446744073709551615 ≤ room buffer

-- Records put where the text ends, as far as it is not over 32,000 bytes: one that is may be put in part.
pub record Advances (holds : List ℕ → ℕ → List ℕ → List ℕ) (c : Characters) (buffer : List ℕ) (m : Measure) (items : List Item) (put : List ℕ) (r : Measure)
    : Type 0 where
  pub all : r.total ≤ most_bytes → Appended holds c buffer m items put r
  pub over : most_bytes < r.total → most_bytes < (after c m (records_tokens items)).total
