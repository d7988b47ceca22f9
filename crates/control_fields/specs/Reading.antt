-- A field read from left to right: what one byte more makes of it. Assumes nothing.
use Rattle.std.specs.Prelude.{ℕ, zero, suc, ◌+◌, ◌*◌, ◌-◌, ◌≤◌, ◌<◌, ◌^◌, true, ◌&&◌, List, [], ◌∷◌, ltb, if◌then◌else◌}
use Rattle.characters.specs.Characters.{digit}
use Rattle.control_fields.specs.declared.Field.{Field}

-- the largest number that n bytes can spell, each taken for a digit
unfoldable pub ceiling : ℕ → ℕ
ceiling zero = 0
ceiling (suc n) = ceiling n * 10 + 207

-- one byte more can be counted, and its digit added
abbrev pub Room : Field → Type 0
Room f = (f.size + 1 < 2 ^ 64) × (f.number ≤ ceiling f.size)

-- the number with one byte more, if it is one of the first six
unfoldable pub with_digit : Field → ℕ → ℕ
with_digit f b = if ltb f.size 6 then f.number * 10 + (b - 48) else f.number

unfoldable pub with_byte : Field → ℕ → Field
with_byte f b =
    record { size = f.size + 1; digits = f.digits && digit b; number = with_digit f b; alone = f.alone }

unfoldable pub with_bytes : Field → List ℕ → Field
with_bytes f [] = f
with_bytes f (b ∷ bs) = with_bytes (with_byte f b) bs

-- before the first byte
abbrev pub no_bytes : Field
no_bytes = record { size = 0; digits = true; number = 0; alone = true }
