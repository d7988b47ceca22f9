-- Records passed one after the other, where what is held back may differ by what the next separator of an element or a segment drops.
-- Assumes nothing.
use Rattle.std.specs.Prelude.{ℕ, ◌+◌, ◌≤◌, ◌≡◌, List, length}
use Rattle.lists.specs.Lists.{gather}
use Rattle.characters.specs.declared.Characters.{Characters}
use Rattle.values.specs.Tokens.{Token}
use Rattle.emission_laws.specs.declared.Measure.{Measure}
use Rattle.emission_laws.specs.Emission.{waiting, emitted, after}
use Rattle.operations.specs.ValueList.{Item}
use Rattle.value_list_text.specs.Composing.{record_tokens}

-- the tokens of records
abbrev pub records_tokens : List Item → List Token
records_tokens items = gather record_tokens items

-- two measures that the next separator of an element or a segment makes equal
pub record Alike (m n : Measure) : Type 0 where
  pub total : m.total ≡ n.total
  pub elements : m.held.elements ≡ n.held.elements

-- Records put where the text ends, and the measure past them.
pub record Appended (holds : List ℕ → ℕ → List ℕ → List ℕ) (c : Characters) (buffer : List ℕ) (m : Measure) (items : List Item) (put : List ℕ) (r : Measure)
    : Type 0 where
  pub stored : put ≡ holds buffer m.total (emitted c m.held (records_tokens items))
  pub known : Alike r (after c m (records_tokens items))
  pub few : waiting r.held ≤ waiting m.held + length items
