-- `shelf_soundness::has_heading` meets its contract: five bytes are made, and the shelf begins with them. Assumes nothing.
use Prim.Native.Nat.{ℕ}
use mathlib.Core.Path.{ap, ◌∙◌}
use mathlib.Core.List.{List}
use Rattle.lists.specs.Lists.{begins}
use Rattle.numbers.specs.Numbers.{in_bytes}
use Rattle.shelves.specs.Layout.{heading}
use Rattle.shelf_soundness.proofs.has_heading.Goals as goal

pub returns : goal.returns
unfolding heading in_bytes
returns c = c.begins.ensures ∙ ap (λ (front : List ℕ). begins front c.args.s.now) c.put_heading.ensures
