-- `ordinary_runs::is_quiet` meets its contract: the five bytes are asked one by one. Assumes nothing.
use mathlib.Core.Path.{ap, ap₂}
use mathlib.Core.Bool.{not, ◌||◌}
use Rattle.ordinary_runs.specs.Runs.{quiet}
use Rattle.ordinary_runs.proofs.is_quiet.Goals as goal

pub returns : goal.returns
unfolding quiet
returns c =
    ap not
    (ap₂ ◌||◌ c.is_ordinary-component.ensures
    (ap₂ ◌||◌ c.is_ordinary-element.ensures
    (ap₂ ◌||◌ c.is_ordinary-release.ensures (ap₂ ◌||◌ c.is_ordinary-repetition.ensures c.is_ordinary-terminator.ensures))))
