-- `shelf_layout::map_of` meets its contract. Assumes nothing.
use Rattle.shelves.specs.Layout.{map_of}
use Rattle.shelf_layout.proofs.map_of.Goals as goal

pub returns : goal.returns
unfolding map_of
returns c = c.get.ensures
