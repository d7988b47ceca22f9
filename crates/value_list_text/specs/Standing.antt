-- Refusal 16 over records, wherever their values stand: "a value holds a service character and there is no release", and a kind 3 where
-- nothing separates repeats. Assumes nothing.
use Rattle.std.specs.Prelude.{ℕ, ◌+◌, Bool, ◌||◌, List, [], ◌∷◌, if◌then◌else◌}
use Rattle.std.proofs.Math.Option.{Option, none}
use Rattle.characters.specs.declared.Characters.{Characters}
use Rattle.refusals.specs.declared.Fault.TheVariants.{NeedsRelease}
use Rattle.refusals.specs.declared.Refusal.{Refusal}
use Rattle.stage_walks.specs.Walks.{refuse}
use Rattle.operations.specs.ValueList.{Item}
use Rattle.operations.specs.Write.{lacks_release, lacks_repetition}

-- the record cannot stand
abbrev pub is_bare : Characters → Item → Bool
is_bare c l = lacks_release c l.value || lacks_repetition c l.kind

-- the refusal at the number of the first record that cannot, the first one's number being given
unfoldable pub first_bare : Characters → ℕ → List Item → Option Refusal
first_bare c n [] = none
first_bare c n (l ∷ ls) = if is_bare c l then refuse NeedsRelease n else first_bare c (n + 1) ls
