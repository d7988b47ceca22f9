-- `column_lines::starts_with` meets its contract. The loop's invariant: the text begins with the line exactly where what is left of the text
-- begins with what is left of the line. Assumes nothing.
use Prim.Native.Nat.{◌≤◌}
use mathlib.Core.Path.{◌≡◌}
use lib.ListN.{length, drop}
use Rattle.lists.specs.Lists.{begins}
use Rattle.column_lines.proofs.starts_with.Given as goal

abbrev pub invariant-loop-i : goal.invariant-loop-i
invariant-loop-i l = (length l.line ≤ length l.s) × (begins l.line l.s ≡ begins (drop l.i l.line) (drop l.i l.s))
