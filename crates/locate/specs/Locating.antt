-- Where a value stands, as it is answered. Assumes nothing.
use Rattle.answers.specs.Answers.{Located}
use Rattle.std.specs.Prelude.{ℕ, ◌+◌, ◌≤◌, List, length, Ok, Err, Some, None}
use Rattle.operations.specs.Locate.{part_offset, part_length}
use Rattle.values.specs.declared.Span.{Span}

-- what was found lies in the input
abbrev pub Inside : List ℕ → Located → Type 0
Inside s (Ok (Some v)) = v.offset + v.length ≤ length s
Inside s (Ok None) = Unit {0}
Inside s (Err r) = Unit {0}

-- what the companion hands back
unfoldable pub part_of : (s : List ℕ) (segment element repeat component : ℕ) → Span
part_of s segment element repeat component =
    record { offset = part_offset s segment element repeat component; length = part_length s segment element repeat component }
