-- `import_columns::cannot_stand` meets its contract: it makes the definition's tests. Assumes nothing.
use mathlib.Core.Path.{ap₂}
use mathlib.Core.Bool.{Bool, ◌||◌}
use Rattle.import_columns.proofs.cannot_stand.Goals as goal

pub returns : goal.returns
returns c = ap₂ (λ (t u : Bool). t || u) c.lacks_release.ensures c.lacks_repetition.ensures
