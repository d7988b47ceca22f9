-- `slot_map::is_occupied` meets its contract. Assumes nothing.
use mathlib.Core.Path.{refl}
use Rattle.shelves.specs.Layout.{bit}
use borrow.Author.Rules.{rules}
use Rattle.slot_map.proofs.is_occupied.Goals as goal

pub returns : goal.returns
unfolding bit
returns c = refl
