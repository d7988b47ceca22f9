-- The search for an element, past sixteen bytes at a time. Assumes nothing.
use Rattle.std.specs.Prelude.{ℕ, ◌-◌, ◌≤◌, ◌<◌, ◌≡◌, ◌||◌, List, length, eqb, if◌then◌else◌}
use Rattle.characters.specs.declared.Characters.{Characters}
use Rattle.values.specs.Tokens.{tokens_at}
use Rattle.elements.specs.Elements.{element_from}
use Rattle.elements.specs.declared.Search.{Search}

-- what a byte adds to the sum of sixteen: an element separator 1, and a byte that may end the segment or take the next one with it 15
abbrev pub weight : Characters → ℕ → ℕ
weight c b = if eqb b c.terminator || eqb b c.release then 15 else (if eqb b c.element then 1 else 0)

-- the bytes from a place up to another pass so many elements, if fewer than 15
abbrev pub Separators : Characters → List ℕ → ℕ → ℕ → ℕ → Type 0
Separators c s from to passed =
    passed < 15 → (number : ℕ) → passed < number → element_from number (tokens_at c s from) ≡ element_from (number - passed) (tokens_at c s to)

-- the element of a number from a place on is the one that the search goes on for
abbrev pub GoesOn : Characters → List ℕ → ℕ → ℕ → Search → Type 0
GoesOn c s from number r =
    (element_from number (tokens_at c s from) ≡ element_from r.left (tokens_at c s r.at)) × (from ≤ length s → r.at ≤ length s)
