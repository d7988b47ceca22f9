-- Two results that a contract allows are equal: it fixes the answer and every byte of the shelf at exit. Each field is a theorem;
-- `proofs/Tight.antt` proves the record. Assumes nothing.
use Rattle.refusals.specs.Refusals.{Outcome}
use Rattle.std.specs.Prelude.{ℕ, ◌≡◌, List}
use Rattle.carrying.specs.Promises.{Carries, CarriesBack}

pub record Tight : Type 0 where
  pub carry : (s : List ℕ) (r q : Outcome) (x y : List ℕ) → Carries s r x → Carries s q y → (r ≡ q) × (x ≡ y)
  pub carry_back : (s : List ℕ) (r q : Outcome) (x y : List ℕ) → CarriesBack s r x → CarriesBack s q y → (r ≡ q) × (x ≡ y)
