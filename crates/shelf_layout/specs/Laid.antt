-- A layout as the code hands it on, and as the definitions have it. Assumes nothing.
use Rattle.std.specs.Prelude.{ℕ, List, if◌then◌else◌}
use Rattle.shelves.specs.Layout as shelf
use Rattle.shelf_layout.specs.declared.Layout.{Layout}

abbrev pub laid : Layout → shelf.Layout
laid l = record { version = l.version; pairs = l.pairs }

-- how many bytes a slot keeps
unfoldable pub kept_in : shelf.Layout → List ℕ → ℕ → ℕ
kept_in l s k = if shelf.is_occupied s k then shelf.length_of l s k else 0
