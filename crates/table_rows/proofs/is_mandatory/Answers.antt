-- `table_rows::is_mandatory` meets its contract. Assumes nothing.
use mathlib.Core.Path.{◌≡◌, refl}
use mathlib.Core.Bool.{Bool, true, false, ◌||◌}
use Rattle.lists.specs.Lists.{member}
use Rattle.message_tables.specs.Entries.{is_mandatory}
use Rattle.table_rows.proofs.is_mandatory.Goals as goal

alone : (b : Bool) → b ≡ (b || false)
alone true = refl
alone false = refl

pub returns : goal.returns
unfolding is_mandatory member
returns c = alone _
