-- Request 2026-11: what the operation promises of its answer and of the output at exit, for any input, refused or not; and that this
-- leaves one result. Assumes nothing.
use Rattle.std.specs.Prelude.{ℕ, ◌≡◌, List}
use Rattle.answers.specs.Answers.{told_stored, Stored}
use Rattle.acknowledgements.specs.Lent.{Lent}
use Rattle.acknowledgements.specs.Acknowledgement.{acknowledge, acknowledge_output}

abbrev pub Acknowledges : (s : List ℕ) (l : Lent) (output : List ℕ) → Stored → (after : List ℕ) → Type 0
Acknowledges s l output r after = (told_stored r ≡ acknowledge s l output) × (after ≡ acknowledge_output s l output)

-- two results that it allows are equal; `proofs/Tight.antt` proves it
abbrev pub Tight : Type 0
Tight = (s : List ℕ) (l : Lent) (output : List ℕ) (r q : Stored) (x y : List ℕ) → Acknowledges s l output r x → Acknowledges s l output q y
    → (r ≡ q) × (x ≡ y)
