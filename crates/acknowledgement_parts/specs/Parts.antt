-- The parts of the list put together, and the records of each. Assumes nothing.
use Rattle.std.specs.Prelude.{ℕ, ◌+◌, ◌*◌, ◌≤◌, ◌≡◌, true, false, List, [], ◌∷◌, length}
use Rattle.lists.specs.Lists.{text, is_single, gather}
use Rattle.characters.specs.declared.Characters.{Characters}
use Rattle.characters.specs.Characters.{has_release, has_repetition}
use Rattle.refusals.specs.Limits.{most_bytes, most_numbers}
use Rattle.values.specs.Tokens.{tokens_at}
use Rattle.values.specs.Spelling.{Bytes}
use Rattle.elements.specs.Values.{value_in}
use Rattle.operations.specs.ValueList.{Item, list_element, listed_in}
use Rattle.trimming_laws.specs.Kinds.{first_kind}
use Rattle.value_lists.specs.Records.{well_listed}
use Rattle.emission_laws.specs.declared.Measure.{Measure}
use Rattle.emission_laws.specs.Emission.{waiting}
use Rattle.value_list_text.specs.Composing.{item_of}
use Rattle.value_list_text.specs.Advancing.{records_tokens}
pub use Rattle.value_list_text.specs.Standing.{is_bare}
unfoldable pub use Rattle.value_list_text.specs.Standing.{first_bare}
use Rattle.received_pieces.specs.Pieces.{element_in, Spelt}
use Rattle.acknowledgements.specs.Lent.{LentList, Lent}
use Rattle.lent_elements.specs.Leading.{list_in, lent_items, Reaches}
use Rattle.acknowledgement_parts.specs.declared.LentElements.{LentElements}
use Rattle.acknowledgement_parts.specs.declared.Part.{Part}
use Rattle.acknowledgement_parts.specs.declared.Part.TheVariants.{Word, Syntax, Element, Date, Reference, Message}
use Rattle.acknowledgement_parts.specs.declared.Received.{Received}

-- the words of an acknowledgement, end to end
abbrev pub words : Bytes
words = text "UNBUNHUCIUNTUNZ1347"

-- a tag, and an element of one byte, by its place among the words
abbrev pub tag_at : ℕ → Part
tag_at start = Word 0 start 3

abbrev pub figure_at : ℕ → Part
figure_at start = Word 1 start 1

-- the parts in the order of the text: UNB, UNH, UCI, UNT, UNZ
unfoldable pub parts_of : Received → List Part
parts_of r =
    tag_at 0 ∷ Syntax r.level r.version ∷ Element r.recipient ∷ Element r.sender ∷ Date ∷ Reference
    ∷ tag_at 3 ∷ figure_at 15 ∷ Message
    ∷ tag_at 6 ∷ Element r.reference ∷ Element r.sender ∷ Element r.recipient ∷ figure_at r.action
    ∷ tag_at 9 ∷ figure_at 16 ∷ figure_at 15
    ∷ tag_at 12 ∷ figure_at 15 ∷ Reference
    ∷ []

-- level and version, values of the received input
abbrev pub syntax_items : List ℕ → Characters → ℕ → ℕ → List Item
syntax_items s d level version =
    record { kind = 1; value = value_in (tokens_at d s level) } ∷ record { kind = 2; value = value_in (tokens_at d s version) } ∷ []

-- the value lists that are lent
abbrev pub lent_in : LentElements → Lent
lent_in l = record { date = list_in l.date; reference = list_in l.reference; message = list_in l.message }

-- what is known of a lent list that 15 passed and that is not empty
pub record Lendable (lent : LentList) : Type 0 where
  pub good : well_listed lent.bytes lent.table ≡ true
  pub some : 3 ≤ length lent.table
  pub short : length lent.table ≤ most_numbers
  pub first : first_kind (listed_in lent.bytes lent.table) ≡ 0
  pub thirds : length lent.table ≡ 3 * length (listed_in lent.bytes lent.table)

module _ (s : List ℕ) (d : Characters) (l : Lent) where
  -- the records of a part
  abbrev pub part_items : Part → List Item
  part_items (Word kind start size) = item_of words (record { kind = kind; start = start; size = size }) ∷ []
  part_items (Syntax level version) = syntax_items s d level version
  part_items (Element from) = list_element 1 (element_in (tokens_at d s from))
  part_items Date = lent_items l.date
  part_items Reference = lent_items l.reference
  part_items Message = lent_items l.message

  -- all of them
  unfoldable pub row_items : List Part → List Item
  row_items parts = gather part_items parts

  -- what is asked of a part
  abbrev pub Fine : Part → Type 0
  Fine (Word kind start size) = (kind ≤ 1) × (start + size ≤ 19)
  Fine (Syntax level version) = Unit {0}
  Fine (Element from) = Spelt (tokens_at d s from)
  Fine Date = Lendable l.date
  Fine Reference = Lendable l.reference
  Fine Message = Lendable l.message

-- what is asked where a part is put: what is held back and the part's records are at most 32,000 together, and there is room for the part, as far
-- as a place after it fits 64 bits
abbrev pub Puttable : (room : List ℕ → ℕ) → Characters → (buffer s : List ℕ) → Characters → Lent → Part → Measure → Type 0
Puttable room c buffer s d l part m =
    Fine s d l part × (m.total ≤ most_bytes) × (waiting m.held + length (part_items s d l part) ≤ most_bytes) × (length s ≤ most_bytes)
    × Reaches room c buffer m (records_tokens (part_items s d l part))

-- ---- refusal 16

-- there is a release character, and a received element has one repeat where nothing separates repeats
abbrev pub Stands : Characters → List ℕ → Characters → Part → Type 0
Stands c s d (Word kind start size) = has_release c ≡ true
Stands c s d (Syntax level version) = has_release c ≡ true
Stands c s d (Element from) = (has_release c ≡ true) × (has_repetition c ≡ false → is_single (element_in (tokens_at d s from)) ≡ true)
Stands c s d Date = has_release c ≡ true
Stands c s d Reference = has_release c ≡ true
Stands c s d Message = has_release c ≡ true
