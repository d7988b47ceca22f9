-- The paper's notions for the statements about this crate's definitions, with its numbers written out: none of them goes through the
-- definition that it is held against. `P → ⊥` says that P does not hold. Assumes nothing.
use Rattle.std.specs.Prelude.{ℕ, ◌≤◌, ◌≡◌, ◌⊎◌, List, ◌∷◌}
use Rattle.characters.specs.declared.Characters.{Characters}

-- "a byte 33 to 126 that is no letter or digit, or one of 28, 29, 31"
abbrev pub SeparatorByte : ℕ → Type 0
SeparatorByte b =
    ((33 ≤ b) × (b ≤ 126) × ((65 ≤ b) × (b ≤ 90) → ⊥) × ((97 ≤ b) × (b ≤ 122) → ⊥) × ((48 ≤ b) × (b ≤ 57) → ⊥))
    ⊎ ((b ≡ 28) ⊎ (b ≡ 29) ⊎ (b ≡ 31))

-- "the mark is `.` or `,`; the separators, the terminator and the release character are each [such] a byte .. A release character that
-- is a space means "none"; these four (three without release) and the mark all differ". Request 2026-10: the fifth byte "is a space
-- (none), or a service character under the same rules as the other separators." A space is no separator, so that "none" differs from the
-- others by itself; only two that are both "none" are equal.
abbrev pub Usable : Characters → Type 0
Usable c =
    ((c.mark ≡ 46) ⊎ (c.mark ≡ 44))
    × SeparatorByte c.component
    × SeparatorByte c.element
    × SeparatorByte c.terminator
    × ((c.repetition ≡ 32) ⊎ SeparatorByte c.repetition)
    × ((c.release ≡ 32) ⊎ SeparatorByte c.release)
    × ((c.mark ≡ c.component) ⊎ (c.mark ≡ c.element) ⊎ (c.mark ≡ c.terminator) ⊎ (c.mark ≡ c.repetition) ⊎ (c.mark ≡ c.release) → ⊥)
    × ((c.component ≡ c.element) ⊎ (c.component ≡ c.terminator) ⊎ (c.component ≡ c.repetition) ⊎ (c.component ≡ c.release) → ⊥)
    × ((c.element ≡ c.terminator) ⊎ (c.element ≡ c.repetition) ⊎ (c.element ≡ c.release) → ⊥)
    × ((c.terminator ≡ c.repetition) ⊎ (c.terminator ≡ c.release) → ⊥)
    × (c.repetition ≡ c.release → c.repetition ≡ 32)

-- request 2026-10: "Input beginning `UNB+UNOA:4` or `UNB+UNOB:4`", by what follows its `UNB+`
abbrev pub NamesVersion4 : List ℕ → Type 0
NamesVersion4 rest =
    (more : List ℕ) × ((rest ≡ 85 ∷ 78 ∷ 79 ∷ 65 ∷ 58 ∷ 52 ∷ more) ⊎ (rest ≡ 85 ∷ 78 ∷ 79 ∷ 66 ∷ 58 ∷ 52 ∷ more))
