-- The number that an argument spells, of any that 64 bits hold. Assumes nothing.
use Rattle.std.specs.Prelude.{ℕ, Option, Some, None, ◌+◌, ◌*◌, ◌-◌, ◌||◌, List, [], ◌∷◌, ltb, if◌then◌else◌}

-- the number that decimal digits spell after those of n; what is above 18,446,744,073,709,551,615, or has another byte, is none
unfoldable pub wide_number_from : ℕ → List ℕ → Option ℕ
wide_number_from n [] = Some n
wide_number_from n (b ∷ text) =
    if ltb b 48 || ltb 57 b || ltb 18446744073709551615 (10 * n + (b - 48))
    then None
    else wide_number_from (10 * n + (b - 48)) text

-- the number of a text: one digit at least
unfoldable pub wide_number_of : List ℕ → Option ℕ
wide_number_of [] = None
wide_number_of (b ∷ text) = wide_number_from 0 (b ∷ text)
