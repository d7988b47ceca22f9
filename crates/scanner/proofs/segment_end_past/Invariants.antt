-- `scanner::segment_end_past` meets its contract. The loop's invariant: what follows the next terminator from the start is what follows
-- the next one from `at`. What is left of the input falls. Assumes nothing.
use Prim.Native.Nat.{◌≤◌, ◌<◌, ◌-◌}
use mathlib.Core.Path.{◌≡◌}
use lib.ListN.{length}
use Rattle.lists.specs.Lists.{beyond}
use Rattle.values.specs.Tokens.{ends, tokens_at}
use Rattle.scanner.proofs.segment_end_past.Given as goal

abbrev pub invariant-loop-next : goal.invariant-loop-next
invariant-loop-next l = (l.from ≤ l.at) × (beyond (ends 0) (tokens_at l.c l.s l.from) ≡ beyond (ends 0) (tokens_at l.c l.s l.at)) × (l.from < length l.s → l.at ≤ length l.s)

abbrev pub decreases-loop-next : goal.decreases-loop-next
decreases-loop-next l = length l.s - l.at
