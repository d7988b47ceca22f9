-- A part of a body that is put, into any sink. Assumes nothing.
use Rattle.std.specs.Prelude.{ℕ, ◌+◌, ◌≤◌, ◌≡◌, List, length}
use Rattle.characters.specs.declared.Characters.{Characters}
use Rattle.stretches.specs.declared.Reached.{Reached}
use Rattle.stretches.specs.Stretches.{emitted_at}
use Rattle.normal_form_text.specs.Measured.{Measured}

-- there is room for what is emitted from a place on
abbrev pub Fits : (room : List ℕ → ℕ) → Characters → Characters → List ℕ → List ℕ → Reached → Type 0
Fits room c n s buffer r = r.total + length (emitted_at c n s r.at) ≤ room buffer

-- What is emitted from a place on is put up to another one: the rest, put from there, gives what the whole gives.
pub record Put (holds : List ℕ → ℕ → List ℕ → List ℕ) (room : List ℕ → ℕ) (c n : Characters) (s buffer put : List ℕ) (from r : Reached) : Type 0 where
  pub same : holds buffer from.total (emitted_at c n s from.at) ≡ holds put r.total (emitted_at c n s r.at)
  pub same_room : room put ≡ room buffer
  pub measured : Measured c n s from r

-- a text is put from a place on, and this is the place after it
abbrev pub PutAt : (holds : List ℕ → ℕ → List ℕ → List ℕ) (buffer : List ℕ) (from : ℕ) (text put : List ℕ) (end : ℕ) → Type 0
PutAt holds buffer from text put end = (put ≡ holds buffer from text) × (end ≡ from + length text)
