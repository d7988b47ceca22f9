-- How long the contents of a body may be, by its bytes. Assumes nothing.
use Rattle.std.specs.Prelude.{ℕ, ◌+◌, Bool, not, ◌&&◌, List, length}
use Rattle.lists.specs.Lists.{those}
use Rattle.characters.specs.declared.Characters.{Characters}
use Rattle.characters.specs.Characters.{is_service}
use Rattle.stages.specs.Contents.{normal_characters}

-- how many of the bytes pass the test
unfoldable pub counted : (ℕ → Bool) → List ℕ → ℕ
counted t bytes = length (those t bytes)

-- a byte that is released inside a value spelled with `n`, and not inside one spelled with `c`
unfoldable pub released_anew : Characters → Characters → ℕ → Bool
released_anew c n b = is_service n b && not (is_service c b)

-- "For n input bytes it has at most 2n + 9", of which 9 are the advice's; and at most n + 9, but for a release character before each byte
-- that had none
unfoldable pub most_contents : Characters → (repetition : ℕ) → List ℕ → ℕ
most_contents c repetition body = length body + counted (released_anew c (normal_characters c.mark repetition)) body
