-- `ordinary_runs::is_ordinary` meets its contract: it is the definition. Assumes nothing.
use mathlib.Core.Path.{refl}
use Rattle.characters.specs.Characters.{between, upper, digit}
use Rattle.ordinary_runs.specs.Runs.{is_ordinary}
use Rattle.ordinary_runs.proofs.is_ordinary.Goals as goal

pub returns : goal.returns
unfolding is_ordinary digit upper between
returns c = refl
