-- `texts::sum` meets its contract. The loop's invariant: the sum is that of the bytes passed. Assumes nothing.
use Prim.Native.Nat.{◌*◌, ◌≤◌}
use mathlib.Core.Path.{◌≡◌}
use lib.ListN.{take}
use Rattle.shelves.specs.Layout.{total}
use Rattle.texts.proofs.sum.Given as goal

abbrev pub invariant-loop-b : goal.invariant-loop-b
invariant-loop-b l = (l.sum ≤ 255 * l.b-index) × (l.sum ≡ total (take l.b-index l.s))
