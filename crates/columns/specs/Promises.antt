-- Request 2026-12: what export and import promise of their answers and of each lent buffer at exit, for any input, refused or not; and that
-- this leaves one result. Assumes nothing.
use Rattle.std.specs.Prelude.{ℕ, ◌≡◌, List}
use Rattle.answers.specs.Answers.{told_stored, Stored}
use Rattle.columns.specs.Operations.{exports, export_buffer, imports, import_output}

abbrev pub Exports : (buffer s : List ℕ) → Stored → (after : List ℕ) → Type 0
Exports buffer s r after = (told_stored r ≡ exports buffer s) × (after ≡ export_buffer buffer s)

abbrev pub Imports : (service columns output : List ℕ) → Stored → (after : List ℕ) → Type 0
Imports service columns output r after =
    (told_stored r ≡ imports service columns output) × (after ≡ import_output service columns output)

-- two results that a promise allows are equal; `proofs/Tight.antt` proves the record
pub record Tight : Type 0 where
  pub export_one : (buffer s : List ℕ) (r q : Stored) (x y : List ℕ) → Exports buffer s r x → Exports buffer s q y
      → (r ≡ q) × (x ≡ y)
  pub import_one : (service columns output : List ℕ) (r q : Stored) (x y : List ℕ) → Imports service columns output r x
      → Imports service columns output q y → (r ≡ q) × (x ≡ y)
