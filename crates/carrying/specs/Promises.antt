-- Request 2026-07: what each direction promises of its answer and of the shelf's bytes at exit, for any bytes, refused or not. Its contract is
-- this, of what was there at entry and what is there at exit. Assumes nothing.
use Rattle.refusals.specs.Refusals.{Outcome}
use Rattle.std.specs.Prelude.{ℕ, ◌≡◌, List}
use Rattle.shelves.specs.Answers.{told_outcome}
use Rattle.carrying.specs.Carrying.{carry, carry_shelf, carry_back, carry_back_shelf}

-- from version 1 to version 2
abbrev pub Carries : (s : List ℕ) → Outcome → (after : List ℕ) → Type 0
Carries s r after = (told_outcome r ≡ carry s) × (after ≡ carry_shelf s)

-- and back
abbrev pub CarriesBack : (s : List ℕ) → Outcome → (after : List ℕ) → Type 0
CarriesBack s r after = (told_outcome r ≡ carry_back s) × (after ≡ carry_back_shelf s)
