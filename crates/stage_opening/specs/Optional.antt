-- The two service characters of which each may be none. Assumes nothing.
use Rattle.std.specs.Prelude.{ℕ, List, [], ◌∷◌, ◌++◌, if◌then◌else◌}
use Rattle.characters.specs.declared.Characters.{Characters}
use Rattle.characters.specs.Characters.{has_release, has_repetition}

-- the repetition separator and the release character, where they are there: the end of `service_characters`
abbrev pub optional : Characters → List ℕ
optional c = (if has_repetition c then c.repetition ∷ [] else []) ++ (if has_release c then c.release ∷ [] else [])
