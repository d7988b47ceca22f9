-- The version, as a value. Assumes nothing.
use Rattle.std.specs.Prelude.{ℕ, Bool, not, ◌&&◌, ◌||◌, List}
use Rattle.lists.specs.Lists.{text, same}
use Rattle.characters.specs.declared.Characters.{Characters}
use Rattle.characters.specs.Characters.{has_repetition}

-- Paper 01, "Levels": "its second is `1` or `2`"; request 2026-10: or `4`, and no other where there is a repetition separator
unfoldable pub is_version : Characters → List ℕ → Bool
is_version c version = same version (text "4") || (not (has_repetition c) && (same version (text "1") || same version (text "2")))
