-- How the other operations' answers are laid out in the structs that cross to C: a number 0 and what
-- is given, or a refusal's number and place; what is not said is 0. Assumes nothing.
use Rattle.std.specs.Prelude.{ℕ, ◌≡◌, List, eqb, if◌then◌else◌}
use Rattle.lists.specs.Lists.{is_empty}
use Rattle.answers.specs.Answers.{Answer}
use Rattle.operations.specs.Read.{read, read_bytes, read_table}
use Rattle.operations.specs.Write.{write, write_output}
use Rattle.acknowledgements.specs.Lent.{Lent}
use Rattle.acknowledgements.specs.Acknowledgement.{acknowledge, acknowledge_output}
use Rattle.surface.specs.Verdicts.{value}
use Rattle.surface.specs.declared.Written.{Written}
use Rattle.surface.specs.declared.Comparison.{Comparison}
use Rattle.surface.specs.declared.Location.{Location}
use Rattle.surface.specs.declared.Listing.{Listing}

-- what Normalise's, Write's and Acknowledge's answers are in a struct: "the length"
unfoldable pub written_of : Answer → Written
written_of a =
    if eqb a.number 0
    then record { number = 0; place = 0; length = value 0 a }
    else record { number = a.number; place = value 0 a; length = 0 }

-- what Compare's answer is in a struct: "same, different, or refusal with 1st or 2nd input"
unfoldable pub comparison_of : Answer → Comparison
comparison_of a =
    if eqb a.number 0
    then record { number = 0; input = 0; same = value 0 a; place = 0 }
    else record { number = a.number; input = value 0 a; same = 0; place = value 1 a }

-- what Locate's answer is in a struct: "offset and spelled length in the input, or "absent", or a refusal"
unfoldable pub location_of : Answer → Location
location_of a =
    if eqb a.number 0
    then record { number = 0; present = if is_empty a.values then 0 else 1; place = 0; offset = value 0 a; length = value 1 a }
    else record { number = a.number; present = 0; place = value 0 a; offset = 0; length = 0 }

-- what Read's answer is in a struct: how many bytes and how many numbers of the table
unfoldable pub listing_of : Answer → Listing
listing_of a =
    if eqb a.number 0
    then record { number = 0; place = 0; bytes = value 0 a; numbers = value 1 a }
    else record { number = a.number; place = value 0 a; bytes = 0; numbers = 0 }

-- what Read promises across to C: the struct, and every byte and number of the two lent buffers at exit
abbrev pub ReadsOut : (bytes table input : List ℕ) → Listing → (bytesAfter tableAfter : List ℕ) → Type 0
ReadsOut bytes table input r bytesAfter tableAfter =
    (r ≡ listing_of (read bytes table input)) × (bytesAfter ≡ read_bytes bytes table input) × (tableAfter ≡ read_table bytes table input)

-- what Write promises: the struct, and every byte of the output at exit
abbrev pub WritesOut : (service bytes table output : List ℕ) → Written → (after : List ℕ) → Type 0
WritesOut service bytes table output r after =
    (r ≡ written_of (write service bytes table output)) × (after ≡ write_output service bytes table output)

-- what Acknowledge promises: the struct, and every byte of the output at exit
abbrev pub AcknowledgesOut : (received : List ℕ) → Lent → (output : List ℕ) → Written → (after : List ℕ) → Type 0
AcknowledgesOut received lent output r after =
    (r ≡ written_of (acknowledge received lent output)) × (after ≡ acknowledge_output received lent output)
