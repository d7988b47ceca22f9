-- The paper's notions for the statements about this crate's definitions, with its numbers written out: none of them goes through the
-- definition that it is held against. `P → ⊥` says that P does not hold. Assumes nothing.
use Rattle.std.specs.Prelude.{ℕ, ◌≡◌, ◌⊎◌}
use mathlib.Core.List.{List, ◌∷◌, Memᴰ}
use Rattle.values.specs.Tokens.{Token, separator}

-- no terminator is among the tokens
abbrev pub Unended : List Token → Type 0
Unended ts = (q : ℕ) → Memᴰ (separator 0 q) ts → ⊥

-- request 2026-01: the value begins with a carriage return or a line feed
abbrev pub LeadsBreak : List ℕ → Type 0
LeadsBreak value = (rest : List ℕ) × ((value ≡ 13 ∷ rest) ⊎ (value ≡ 10 ∷ rest))
