-- Request 2026-04: "numbers are big-endian", in literal bytes. Assumes nothing.
use mathlib.Core.Path.{◌≡◌, refl}
use mathlib.Core.List.{[], ◌∷◌}
use Rattle.numbers.specs.Numbers.{read_on, number_at, in_bytes}

-- two bytes from the second on: the first is worth 256
pub number_spelled : number_at (9 ∷ 2 ∷ 13 ∷ 7 ∷ []) 1 2 ≡ 525
unfolding number_at read_on
number_spelled = refl

-- a number in four bytes: what is worth most stands first
pub bytes_spelled : in_bytes 4 66060 ≡ 0 ∷ 1 ∷ 2 ∷ 12 ∷ []
unfolding in_bytes
bytes_spelled = refl
