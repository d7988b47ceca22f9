-- What holds of every sink, by what it keeps of a text and how far texts may reach. Assumes nothing.
use Rattle.std.specs.Prelude.{ℕ, ◌+◌, ◌<◌, ◌≡◌, List, [], ◌∷◌, ◌++◌, length}

pub record SinkLaws (holds : List ℕ → ℕ → List ℕ → List ℕ) (room : List ℕ → ℕ) : Type 0 where
  -- no bytes change nothing
  pub none : (l : List ℕ) (at : ℕ) → holds l at [] ≡ l
  -- two texts put one after the other are one text put
  pub joined : (l : List ℕ) (at : ℕ) (front text : List ℕ) → holds (holds l at front) (at + length front) text ≡ holds l at (front ++ text)
  -- a byte takes the place of another
  pub over : (l : List ℕ) (at x b : ℕ) → holds (holds l at (x ∷ [])) at (b ∷ []) ≡ holds l at (b ∷ [])
  -- the room stays
  pub same_room : (l : List ℕ) (at : ℕ) (text : List ℕ) → room (holds l at text) ≡ room l
  -- places in it fit 64 bits
  pub within : (l : List ℕ) → length l < 18446744073709551616 → room l < 18446744073709551616
