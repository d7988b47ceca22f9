-- An element by its first value, read off the tokens that begin with it. Assumes nothing.
use Rattle.std.specs.Prelude.{Bool, ◌&&◌, List, length, take}
use Rattle.lists.specs.Lists.{all}
use Rattle.characters.specs.Characters.{between, digit}
use Rattle.values.specs.Tokens.{Token}
use Rattle.control_elements.specs.Control.{decimal}
use Rattle.elements.specs.Values.{value_in}
use Rattle.trimmed_values.specs.Trimmed.{is_alone}
use Rattle.control_fields.specs.declared.Field.{Field}

-- the first value's size, whether it is digits only, the number that its first six spell; and whether only empty ones follow
unfoldable pub field_of : List Token → Field
field_of ts =
    let value = value_in ts in
    record { size = length value; digits = all digit value; number = decimal (take 6 value); alone = is_alone ts }

-- "A reference is one component of 1 to 14 bytes"
unfoldable pub spells_reference : Field → Bool
spells_reference f = f.alone && between 1 14 f.size

-- "a count is one component of 1 to 6 digits (leading zeros allowed)"
unfoldable pub spells_count : Field → Bool
spells_count f = f.alone && f.digits && between 1 6 f.size
