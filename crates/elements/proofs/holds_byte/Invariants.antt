-- `elements::holds_byte` meets its contract. The loop's invariant: a byte stands from the start on if one does from `at` on. What is
-- left of the input falls. Assumes nothing.
use Prim.Native.Nat.{◌-◌}
use mathlib.Core.Path.{◌≡◌}
use lib.ListN.{length}
use Rattle.values.specs.Tokens.{tokens_at}
use Rattle.elements.specs.Elements.{holds_byte}
use Rattle.elements.proofs.holds_byte.Given as goal

abbrev pub invariant-loop-found : goal.invariant-loop-found
invariant-loop-found l = holds_byte l.rank (tokens_at l.c l.s l.from) ≡ holds_byte l.rank (tokens_at l.c l.s l.at)

abbrev pub decreases-loop-found : goal.decreases-loop-found
decreases-loop-found l = length l.s - l.at
