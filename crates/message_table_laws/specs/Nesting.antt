-- What soundness says of a table level by level, as the walk goes through it. Assumes nothing.
use Rattle.std.specs.Prelude.{ℕ, zero, suc, ◌≤◌, ◌≡◌, true, false, List, [], ◌∷◌, length}
use Rattle.message_tables.specs.Entries.{Entry, is_group}
use Rattle.message_tables.specs.Soundness.{most_repeats, is_table_tag, is_trigger, fits}
use Rattle.message_tables.specs.Structure.{Structure, done, entry, held_by}

-- every entry fits, given what stands before the first of them
abbrev pub Fits : List Entry → List Entry → Type 0
Fits past [] = Unit {0}
Fits past (e ∷ es) = (fits past (length es) e ≡ true) × Fits (e ∷ past) es

-- the entries begin with a trigger
abbrev pub Triggered : List Entry → Type 0
Triggered [] = ⊥
Triggered (e ∷ es) = is_trigger e ≡ true

-- an entry of a level, and what follows it there
pub record Lies (e : Entry) (es : List Entry) : Type 0 where
  pub ends : e.under ≤ length es
  pub least : 1 ≤ e.repeats
  pub most : e.repeats ≤ most_repeats
  pub segment : is_group e ≡ false → (e.under ≡ 0) × (is_table_tag e.tag ≡ true)
  pub group : is_group e ≡ true → (1 ≤ e.under) × Triggered es

-- the entries of a level, of which so many at the beginning stand under the one before; `nested` is asked of what its groups hold
module _ (nested : List Entry → Type 0) where
  abbrev pub Level : (under : ℕ) → List Entry → Type 0
  Level under [] = Unit {0}
  Level zero (e ∷ es) = Lies e es × nested (held_by e es) × Level e.under es
  Level (suc under) (e ∷ es) = Level under es

-- so many levels, the outermost one being the first of them
abbrev pub Levels : ℕ → List Entry → Type 0
Levels zero es = es ≡ []
Levels (suc n) es = Level (Levels n) 0 es

-- ---- the tree

-- every entry may stand at least once, as in a sound table
abbrev pub Able : Structure → Type 0
Able done = Unit {0}
Able (entry mandatory repeats tag inside following) = (1 ≤ repeats) × Able inside × Able following
