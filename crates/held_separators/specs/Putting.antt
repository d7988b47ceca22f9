-- What the steps ask and promise, by the tokens that they pass. Assumes nothing.
use Rattle.std.specs.Prelude.{ℕ, ◌+◌, ◌*◌, ◌≤◌, ◌≡◌, List, map, length}
use Rattle.characters.specs.declared.Characters.{Characters}
use Rattle.values.specs.Tokens.{Token, byte}
use Rattle.emission_laws.specs.declared.Measure.{Measure}
use Rattle.emission_laws.specs.Emission.{waiting, emitted, after}

-- a byte of a value as a token, and a whole value; what is emitted does not depend on where they stand
abbrev pub value_byte : ℕ → Token
value_byte b = byte b 0 0

abbrev pub value_tokens : List ℕ → List Token
value_tokens value = map value_byte value

-- the count stays below 2^64 over that many tokens more, each of which adds two bytes at most
abbrev pub Countable : Measure → ℕ → Type 0
Countable m tokens = m.total + waiting m.held + 2 * tokens ≤ 18446744073709551615

-- there is room for what the tokens spell
abbrev pub Fits : (room : List ℕ → ℕ) → Characters → List ℕ → Measure → List Token → Type 0
Fits room c buffer m ts = m.total + length (emitted c m.held ts) ≤ room buffer

-- it is put where the text ends, and the measure is moved on
abbrev pub Puts : (holds : List ℕ → ℕ → List ℕ → List ℕ) → Characters → List ℕ → Measure → List Token → List ℕ → Measure → Type 0
Puts holds c buffer m ts put moved = (put ≡ holds buffer m.total (emitted c m.held ts)) × (moved ≡ after c m ts)
