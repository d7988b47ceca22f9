-- The limits of paper 01, "Refusals by number". Assumes nothing.
use Rattle.std.specs.Prelude.{ℕ}

-- refusals 1 and 13: "over 32,000 bytes"
abbrev pub most_bytes : ℕ
most_bytes = 32000

-- refusal 15: "table over 96,000 numbers"
abbrev pub most_numbers : ℕ
most_numbers = 96000

-- what is counted before a text is known to be too long: twice the most bytes, and an advice
abbrev pub most_spelled : ℕ
most_spelled = 64009
