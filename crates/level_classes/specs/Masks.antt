-- A byte's bit in a mask, and what a level holds by what is known of a byte. Assumes nothing.
use Rattle.std.specs.Prelude.{ℕ, ◌-◌, ◌/◌, ◌%◌, ◌^◌, Bool, ◌&&◌, ◌||◌, ◌==◌, nat_le, if◌then◌else◌}

-- the bit worth 2^k of a number is set
unfoldable pub bit_set : ℕ → ℕ → Bool
bit_set mask k = mask / 2 ^ k % 2 == 1

-- a byte's bit is set in a mask whose lowest bit is that of the byte `first`
unfoldable pub is_set : ℕ → ℕ → ℕ → Bool
is_set mask first b = nat_le first b && bit_set mask (b - first)

-- the class of a byte that is in level A or not, and one of `a` to `z` or not, is not below the level
unfoldable pub in_class : ℕ → Bool → Bool → Bool
in_class level in_a letter = nat_le level (if in_a then 2 else (if in_a || letter then 1 else 0))
