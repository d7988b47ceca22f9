-- The number that an argument spells. Assumes nothing.
use Rattle.std.specs.Prelude.{ℕ, Option, Some, None, ◌+◌, ◌*◌, ◌-◌, ◌||◌, List, [], ◌∷◌, ltb, if◌then◌else◌}

-- the number that decimal digits spell after those of n; what is above 999,999,999, or has another byte, is none
unfoldable pub number_from : ℕ → List ℕ → Option ℕ
number_from n [] = Some n
number_from n (b ∷ text) =
    if ltb b 48 || ltb 57 b || ltb 99999999 n
    then None
    else number_from (10 * n + (b - 48)) text

-- the number of a text: one digit at least
unfoldable pub number_of : List ℕ → Option ℕ
number_of [] = None
number_of (b ∷ text) = number_from 0 (b ∷ text)
