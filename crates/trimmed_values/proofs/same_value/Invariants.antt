-- `trimmed_values::same_value` meets its contract. The loop's invariant: the values are the same from the starts if they are from `a` and `b`.
-- What is left of the input after `a` falls. Assumes nothing.
use Prim.Native.Nat.{◌-◌}
use mathlib.Core.Path.{◌≡◌}
use lib.ListN.{length}
use Rattle.lists.specs.Lists.{same}
use Rattle.values.specs.Tokens.{tokens_at}
use Rattle.elements.specs.Values.{value_in}
use Rattle.trimmed_values.proofs.same_value.Given as goal

abbrev pub invariant-loop-byte : goal.invariant-loop-byte
invariant-loop-byte l = same (value_in (tokens_at l.c l.s l.first)) (value_in (tokens_at l.c l.s l.second)) ≡ same (value_in (tokens_at l.c l.s l.a)) (value_in (tokens_at l.c l.s l.b))

abbrev pub decreases-loop-byte : goal.decreases-loop-byte
decreases-loop-byte l = length l.s - l.a
