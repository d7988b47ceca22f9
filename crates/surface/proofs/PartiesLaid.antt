-- The struct of the parties is the one that the definition gives. Assumes nothing.
use Prim.Native.Nat.{ℕ}
use mathlib.Core.Path.{◌≡◌, refl, ap, ◌∙◌}
use mathlib.Core.List.{List}
use mathlib.Core.Option.{Option, none, some}
use Rattle.lists.specs.Lists.{maybe}
use Rattle.refusals.specs.declared.Refusal.{Refusal}
use Rattle.refusals.specs.Refusals.{number}
use Rattle.std.specs.Prelude.{Result, Ok, Err}
use Rattle.operations.specs.Locate.{part_offset, part_length}
use Rattle.stages.specs.Stages.{refusal_of}
use Rattle.locate.specs.Locating.{part_of as span_of}
use Rattle.parties.specs.declared.Parties.{Parties as Found}
use Rattle.parties.specs.Parties.{spelled_parties, parties_of as found_of}
use Rattle.surface.specs.Parts.{part_of}
use Rattle.surface.specs.OfParties.{part, parties_beside, no_part, laid_parties, parties_of}

pub parties_are : (s : List ℕ) {found : Result Found Refusal} → found ≡ found_of s → laid_parties found ≡ parties_of s
unfolding laid_parties parties_beside part no_part parties_of found_of spelled_parties span_of part_of part_offset part_length maybe
parties_are s e = ap laid_parties e ∙ step (refusal_of s) refl
  where
    step : (o : Option Refusal) → refusal_of s ≡ o → laid_parties (maybe (Ok (spelled_parties s)) Err o) ≡ parties_of s
    step none h = rw h refl
    step (some r) h = rw h refl
