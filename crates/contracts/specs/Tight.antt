-- "For every input, refused or not, a public operation's contract determines its answer and the final bytes of each buffer": two results
-- that it allows are equal. Each field is a theorem; `proofs/Tight.antt` proves the record. Assumes nothing.
use Rattle.refusals.specs.declared.Refusal.{Refusal}
use Rattle.answers.specs.Answers.{Stored, Judged, Compared, Located}
use Rattle.std.specs.Prelude.{ℕ, ◌≡◌, List, Result}
use Rattle.std.specs.Borrow.{Bor}
use Rattle.answers.specs.declared.Listed.{Listed}
use Rattle.contracts.specs.Promises.{Judges, Normalises, Compares, Keeps, Locates, HandsBack, Reads, Writes}

-- The same slice: where it points and what stands there, and so how long it is. A reference has nothing more that a program can see: its
-- third part is a ghost name, under which the proofs track the bytes.
abbrev pub SameSlice : Bor (List ℕ) → Bor (List ℕ) → Type 0
SameSlice r q = (r.ref_ptr ≡ q.ref_ptr) × (r.now ≡ q.now)

pub record Tight : Type 0 where
  pub judge : (s : List ℕ) (r q : Judged) → Judges s r → Judges s q → r ≡ q
  pub normalise : (buffer s : List ℕ) (r q : Stored) (x y : List ℕ) → Normalises buffer s r x → Normalises buffer s q y
      → (r ≡ q) × (x ≡ y)
  pub compare : (first second : List ℕ) (r q : Compared) → Compares first second r → Compares first second q → r ≡ q
  pub keep : (first second r q : Bor (List ℕ)) → Keeps first second r → Keeps first second q → SameSlice r q
  pub locate : (s : List ℕ) (segment element repeat component : ℕ) (r q : Located) → Locates s segment element repeat component r
      → Locates s segment element repeat component q → r ≡ q
  pub part : (s : Bor (List ℕ)) (segment element repeat component : ℕ) (r q : Bor (List ℕ))
      → HandsBack s segment element repeat component r → HandsBack s segment element repeat component q → SameSlice r q
  pub read : (buffer table s : List ℕ) (r q : Result Listed Refusal) (x y t u : List ℕ) → Reads buffer table s r x t → Reads buffer table s q y u
      → (r ≡ q) × (x ≡ y) × (t ≡ u)
  pub write : (service bytes table output : List ℕ) (r q : Stored) (x y : List ℕ) → Writes service bytes table output r x
      → Writes service bytes table output q y → (r ≡ q) × (x ≡ y)
