-- Paper 01, "Control elements": "One fixed table gives, for each service segment, where its count and its reference stand".
-- Elements are numbered from 1 after the tag; 0 means none. Assumes nothing.
use Rattle.std.specs.Prelude.{ℕ, List, [], ◌∷◌, get_or}
use Rattle.segments.specs.declared.Kind.{Kind}
use Rattle.segments.specs.Kinds.{index}
use Rattle.control_elements.specs.declared.Positions.{Positions}

-- where a count and a reference stand
abbrev stand : ℕ → ℕ → Positions
stand count reference = record { count = count; reference = reference }

-- by kind of segment: UNB, UNG, UNH, UNS, UNT, UNE, UNZ, any other
unfoldable pub position_table : List Positions
position_table =
    stand 0 5 ∷ stand 0 5 ∷ stand 0 1 ∷ stand 0 0 ∷ stand 1 2 ∷ stand 1 2 ∷ stand 1 2 ∷ stand 0 0 ∷ []

unfoldable pub positions_of : Kind → Positions
positions_of kind = get_or position_table (index kind) (stand 0 0)
