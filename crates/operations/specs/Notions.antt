-- The paper's notions for the statements about this crate's definitions, with its numbers written out: none of them goes through the
-- definition that it is held against. `P → ⊥` says that P does not hold. Assumes nothing.
use Rattle.std.specs.Prelude.{ℕ, ◌+◌, ◌*◌, ◌%◌, ◌≤◌, ◌<◌, ◌≡◌, ◌⊎◌, length, take, drop}
use mathlib.Core.List.{List, Memᴰ}
use Rattle.std.proofs.Math.Option.{some}
use Rattle.lists.specs.Lists.{at}
use Rattle.characters.specs.declared.Characters.{Characters}
use Rattle.values.specs.Notions.{LeadsBreak}

-- "table of three 32-bit numbers a value": its record of a number, from 0
abbrev pub Record : List ℕ → ℕ → ℕ → ℕ → ℕ → Type 0
Record table n kind start size =
    (at table (3 * n) ≡ some kind) × (at table (3 * n + 1) ≡ some start) × (at table (3 * n + 2) ≡ some size)

-- 15: "table over 96,000 numbers or not a multiple of 3; first kind not 0"
abbrev pub BadTable : List ℕ → Type 0
BadTable table =
    (96000 < length table) ⊎ (length table % 3 ≡ 0 → ⊥) ⊎ ((kind : ℕ) × (at table 0 ≡ some kind) × (kind ≡ 0 → ⊥))

-- request 2026-10: "kind above 3"; "start plus length above the number of bytes"; request 2026-01: "No segment of a list may begin with a
-- break"
abbrev pub Bad : List ℕ → ℕ → ℕ → ℕ → Type 0
Bad bytes kind start size = (3 < kind) ⊎ (length bytes < start + size) ⊎ ((kind ≡ 0) × LeadsBreak (take size (drop start bytes)))

abbrev pub BadRecord : List ℕ → List ℕ → ℕ → Type 0
BadRecord bytes table n = (kind : ℕ) × (start : ℕ) × (size : ℕ) × Record table n kind start size × Bad bytes kind start size

-- 16: "a value holds a service character and there is no release"; request 2026-10: "16 also at a kind 3 record where the writer's fifth
-- byte is a space"
abbrev pub LacksRelease : Characters → List ℕ → List ℕ → ℕ → Type 0
LacksRelease c bytes table n =
    (kind : ℕ)
    × (start : ℕ)
    × (size : ℕ)
    × Record table n kind start size
    × (((c.release ≡ 32)
    × ((b : ℕ)
    × Memᴰ b (take size (drop start bytes))
    × ((b ≡ c.component) ⊎ (b ≡ c.element) ⊎ (b ≡ c.terminator) ⊎ ((c.repetition ≡ 32 → ⊥) × (b ≡ c.repetition)))))
    ⊎ ((kind ≡ 3) × (c.repetition ≡ 32)))

-- a refusal is met at no place; or at this one, and at none that is lower
abbrev pub Nowhere : (ℕ → Type 0) → Type 0
Nowhere P = (p : ℕ) → P p → ⊥

abbrev pub Lowest : (ℕ → Type 0) → ℕ → Type 0
Lowest P p = P p × ((q : ℕ) → P q → p ≤ q)
