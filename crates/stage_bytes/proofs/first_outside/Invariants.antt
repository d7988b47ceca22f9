-- `stage_bytes::first_outside` meets its contract. The loop's invariant: what the walk answers from the start it answers from `at`.
-- What is left of the input falls. Assumes nothing.
use Prim.Native.Nat.{◌-◌}
use mathlib.Core.Path.{◌≡◌}
use lib.ListN.{length}
use Rattle.values.specs.Tokens.{tokens_at}
use Rattle.stage_walks.specs.Walks.{leveled}
use Rattle.stage_bytes.proofs.first_outside.Given as goal

abbrev pub invariant-loop-byte : goal.invariant-loop-byte
invariant-loop-byte l = leveled l.level (tokens_at l.c l.s l.start) ≡ leveled l.level (tokens_at l.c l.s l.at)

abbrev pub decreases-loop-byte : goal.decreases-loop-byte
decreases-loop-byte l = length l.s - l.at
