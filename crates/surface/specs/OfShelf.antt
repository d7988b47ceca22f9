-- How the answers of the shelf's operations are laid out in the structs that cross to C: a number 0 and what
-- is given, or a refusal's number and place; what is not said is 0. Assumes nothing.
use Rattle.std.specs.Prelude.{ℕ, eqb, if◌then◌else◌}
use Rattle.answers.specs.Answers.{Answer}
use Rattle.surface.specs.Verdicts.{value}
use Rattle.surface.specs.declared.Started.{Started}
use Rattle.surface.specs.declared.Shelving.{Shelving}
use Rattle.surface.specs.declared.Got.{Got}
use Rattle.surface.specs.declared.SlotNumbers.{SlotNumbers}
use Rattle.surface.specs.declared.SumNumbers.{SumNumbers}

-- what Start's answer is in a struct
unfoldable pub started_of : Answer → Started
started_of a = if eqb a.number 0 then record { number = 0; place = 0 } else record { number = a.number; place = value 0 a }

-- what Put's answer is in a struct: the slot, and whether the text is new
unfoldable pub shelving_of : Answer → Shelving
shelving_of a =
    if eqb a.number 0
    then record { number = 0; added = value 1 a; place = 0; slot = value 0 a }
    else record { number = a.number; added = 0; place = value 0 a; slot = 0 }

-- what Get's answer is in a struct, with the part that it hands back
unfoldable pub got_of : Answer → (offset length : ℕ) → Got
got_of a offset length =
    record { number = a.number; place = if eqb a.number 0 then 0 else value 0 a; offset = offset; length = length }

-- what the answer with the two numbers is in a struct
unfoldable pub slot_numbers_of : Answer → SlotNumbers
slot_numbers_of a =
    if eqb a.number 0
    then record { number = 0; place = 0; occupied = value 0 a; lowest = value 1 a }
    else record { number = a.number; place = value 0 a; occupied = 0; lowest = 0 }

-- what the answer with the two sums is in a struct
unfoldable pub sum_numbers_of : Answer → SumNumbers
sum_numbers_of a =
    if eqb a.number 0
    then record { number = 0; held = value 0 a; duplicates = value 1 a; place = 0 }
    else record { number = a.number; held = 0; duplicates = 0; place = value 0 a }
