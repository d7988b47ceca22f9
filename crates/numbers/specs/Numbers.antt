-- Request 2026-04: "numbers are big-endian", of any width. Assumes nothing.
use Rattle.std.specs.Prelude.{ℕ, zero, suc, ◌+◌, ◌*◌, ◌/◌, ◌%◌, List, [], ◌∷◌, ◌++◌, take, drop}

-- the number that bytes spell after those that spell n: the first is worth most
unfoldable pub read_on : ℕ → List ℕ → ℕ
read_on n [] = n
read_on n (b ∷ bs) = read_on (n * 256 + b) bs

-- the number of `width` bytes at a place
unfoldable pub number_at : List ℕ → (at width : ℕ) → ℕ
number_at s at width = read_on 0 (take width (drop at s))

-- the number in `width` bytes
unfoldable pub in_bytes : (width n : ℕ) → List ℕ
in_bytes zero n = []
in_bytes (suc width) n = in_bytes width (n / 256) ++ n % 256 ∷ []
