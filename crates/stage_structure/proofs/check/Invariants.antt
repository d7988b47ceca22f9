-- `stage_structure::check` meets its contract. The loop's invariant: the first stop from the start is the first stop
-- from `at` on. What is left of the input falls. Assumes nothing.
use Prim.Native.Nat.{◌-◌}
use mathlib.Core.Path.{◌≡◌}
use lib.ListN.{length}
use Rattle.values.specs.Tokens.{segments, tokens_at}
use Rattle.message_tables.specs.Structure.{structure_of}
use Rattle.structure_walks.specs.Walks.{first_stop}
use Rattle.stage_structure.proofs.check.Given as goal

abbrev pub invariant-loop-at : goal.invariant-loop-at
invariant-loop-at l = first_stop (structure_of l.table) (segments (tokens_at l.c l.s l.start)) ≡ first_stop (structure_of l.table) (segments (tokens_at l.c l.s l.at))

abbrev pub decreases-loop-at : goal.decreases-loop-at
decreases-loop-at l = length l.s - l.at
