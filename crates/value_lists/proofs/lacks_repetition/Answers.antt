-- `value_lists::lacks_repetition` meets its contract: it makes the definition's tests. Assumes nothing.
use Rattle.std.proofs.Common.{◌≡◌, Bool, true, false, not, ◌&&◌, eqb, refl, ap}
use Rattle.characters.specs.Characters.{has_repetition}
use Rattle.operations.specs.Write.{lacks_repetition}
use Rattle.value_lists.proofs.lacks_repetition.Goals as goal

pub returns : goal.returns
unfolding lacks_repetition has_repetition
returns c = ap (λ (t : Bool). eqb c.args.kind 3 && t) (twice (eqb c.args.c.repetition 32))
  where
    twice : (t : Bool) → t ≡ not (not t)
    twice true = refl
    twice false = refl
