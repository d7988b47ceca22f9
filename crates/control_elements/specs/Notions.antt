-- The paper's notions for the statements about this crate's definitions, with its numbers written out: none of them goes through the
-- definition that it is held against. `P → ⊥` says that P does not hold. Assumes nothing.
use Rattle.std.specs.Prelude.{ℕ, ◌≤◌, ◌≡◌, length}
use mathlib.Core.List.{List, [], ◌∷◌, ◌++◌, Memᴰ}
use Rattle.std.proofs.Math.Option.{some}
use Rattle.lists.specs.Lists.{at}
use Rattle.values.specs.Tokens.{Segment}
use Rattle.segments.specs.declared.Kind.{Kind}
use Rattle.segments.specs.Tags.{kind_of}

-- "A reference is one component of 1 to 14 bytes", of one repeat
abbrev pub Reference : List (List (List (List ℕ))) → ℕ → Type 0
Reference contents position =
    (value : List ℕ) × (at contents position ≡ some ((value ∷ []) ∷ [])) × (1 ≤ length value) × (length value ≤ 14)

-- "a count is one component of 1 to 6 digits (leading zeros allowed)", of one repeat
abbrev pub Count : List (List (List (List ℕ))) → ℕ → Type 0
Count contents position =
    (value : List ℕ)
    × (at contents position ≡ some ((value ∷ []) ∷ []))
    × (1 ≤ length value)
    × (length value ≤ 6)
    × ((d : ℕ) → Memᴰ d value → (48 ≤ d) × (d ≤ 57))

-- a trailer's header: of what passed, the nearest first, the first of its kind; with those that passed since
abbrev pub Nearest : Kind → List Segment → Type 0
Nearest kind past =
    (nearer : List Segment)
    × (header : Segment)
    × (farther : List Segment)
    × (past ≡ nearer ++ header ∷ farther)
    × (kind_of header ≡ kind)
    × ((g : Segment) → Memᴰ g nearer → kind_of g ≡ kind → ⊥)
