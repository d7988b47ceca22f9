-- `segment_ends::segment_ended` meets its contract. The loop's invariant: how the segment ends is told from `at` on. What is left of the input
-- falls. Assumes nothing.
use Prim.Native.Nat.{◌≤◌, ◌-◌}
use mathlib.Core.Path.{◌≡◌}
use lib.ListN.{length}
use Rattle.values.specs.Tokens.{tokens_at}
use Rattle.scanner.specs.Scan.{scanned}
use Rattle.segment_ends.proofs.segment_ended.Given as goal

abbrev pub invariant-loop-at : goal.invariant-loop-at
invariant-loop-at l = (l.from ≤ l.at) × (scanned (tokens_at l.c l.s l.from) ≡ scanned (tokens_at l.c l.s l.at))

abbrev pub decreases-loop-at : goal.decreases-loop-at
decreases-loop-at l = length l.s - l.at
