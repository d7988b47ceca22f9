-- The paper's notions for the statements about this crate's definitions, with its numbers written out: none of them goes through the
-- definition that it is held against. `P → ⊥` says that P does not hold. Assumes nothing.
use Rattle.std.specs.Prelude.{◌≡◌}
use mathlib.Core.List.{List, ◌∷◌, ◌++◌, Memᴰ}
use Rattle.segments.specs.declared.Kind.{Kind}

-- of the kinds that passed, the nearest first: the header passed, and since then neither it nor its trailer
abbrev pub Open : Kind → Kind → List Kind → Type 0
Open header trailer past =
    (nearer : List Kind)
    × (farther : List Kind)
    × (past ≡ nearer ++ header ∷ farther)
    × ((kind : Kind) → Memᴰ kind nearer → (kind ≡ header → ⊥) × (kind ≡ trailer → ⊥))
