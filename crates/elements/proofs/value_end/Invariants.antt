-- `elements::value_end` meets its contract. The loop's invariant: what ends the value from the start ends it from `at`. What is left
-- of the input falls. Assumes nothing.
use Prim.Native.Nat.{◌≤◌, ◌-◌}
use mathlib.Core.Path.{◌≡◌}
use lib.ListN.{length}
use Rattle.values.specs.Tokens.{tokens_at}
use Rattle.elements.specs.Values.{value_end}
use Rattle.elements.proofs.value_end.Given as goal

abbrev pub invariant-loop-next : goal.invariant-loop-next
invariant-loop-next l = (value_end (tokens_at l.c l.s l.from) ≡ value_end (tokens_at l.c l.s l.at)) × (l.from ≤ l.at) × (l.from ≤ length l.s → l.at ≤ length l.s)

abbrev pub decreases-loop-next : goal.decreases-loop-next
decreases-loop-next l = length l.s - l.at
