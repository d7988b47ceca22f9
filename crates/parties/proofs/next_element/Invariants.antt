-- `parties::next_element` meets its contract. The loop's invariant: no element ends between `from` and `at`. Assumes nothing.
use Prim.Native.Nat.{max, ◌≤◌}
use lib.ListN.{length}
use Rattle.parties.proofs.Finding.{Past}
use Rattle.parties.proofs.next_element.Given as goal

abbrev pub invariant-loop-at : goal.invariant-loop-at
invariant-loop-at l = Past l.c l.s l.from l.at × (l.at ≤ max l.from (length l.s))
