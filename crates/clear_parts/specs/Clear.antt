-- Parts of a body that stand as its normal form spells them (paper 01, "Normal form"), but for line breaks between segments. A test of each
-- two bytes that stand side by side finds them, where the service characters are the normal form's. Assumes nothing.
use Rattle.std.specs.Prelude.{ℕ, ◌+◌, ◌-◌, ◌≤◌, ◌<◌, ◌≡◌, false, List, ◌++◌, length, get_or, take, drop}
use Rattle.characters.specs.declared.Characters.{Characters}
use Rattle.characters.specs.Characters.{is_service}
use Rattle.values.specs.Tokens.{tokens_at}
use Rattle.stages.specs.Contents.{normal_characters}
use Rattle.emission_laws.specs.Emission.{nothing, emitted}
use Rattle.line_breaks.specs.Unbroken.{unbroken}
use Rattle.verbatim.specs.Verbatim.{idle, Sound}

-- nothing is idle between two bytes that stand side by side, from a place up to another; a byte follows each of its bytes
abbrev pub Clear : Characters → List ℕ → ℕ → ℕ → Type 0
Clear c s from to = (k : ℕ) → from ≤ k → k < to → (k + 1 < length s) × (idle c (get_or s k 0) (get_or s (k + 1) 0) ≡ false)

-- the byte before a place is one of a value, and no line break, unless nothing is passed
abbrev pub EndsInValue : Characters → List ℕ → ℕ → ℕ → Type 0
EndsInValue c s from to = from < to → (is_service c (get_or s (to - 1) 0) ≡ false) × (32 ≤ get_or s (to - 1) 0)

-- The bytes from a place up to another are emitted in a normal form as they stand, without line breaks, and what follows them after that:
-- wherever no fault 4 lies in what is read from there on, and no byte of a value below the space. Nor do they lie in what follows.
abbrev pub ClearPart : Characters → ℕ → List ℕ → ℕ → ℕ → Type 0
ClearPart c repetition s from to =
    let n = normal_characters c.mark repetition in
    (from ≤ to)
    × (from ≤ length s → to ≤ length s)
    × (Sound c s from
    → (emitted n nothing (tokens_at c s from) ≡ unbroken (drop from (take to s)) ++ emitted n nothing (tokens_at c s to)) × Sound c s to)
