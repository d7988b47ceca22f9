-- Paper 01, "Normal form": how every normal form begins. Assumes nothing.
use Rattle.std.specs.Prelude.{ℕ, Bool, List}
use Rattle.lists.specs.Lists.{begins}
use Rattle.characters.specs.Characters.{advice_of, characters_of}
use Rattle.stages.specs.Contents.{contents, normal_characters, normal_repetition}

-- "`UNA:+`, the mark, `? '`", and in version 4 `?*'`: the text begins with the advice of its own normal form
unfoldable pub begins_normal : List ℕ → Bool
begins_normal s = begins (advice_of (normal_characters (characters_of s).mark (normal_repetition (contents s)))) s
