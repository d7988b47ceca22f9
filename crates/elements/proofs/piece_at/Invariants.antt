-- `elements::piece_at` meets its contract. The loop's invariant: the piece that is looked for from the start is the one that is
-- looked for from `at`, after as many separators as are left. What is left of the input falls. Assumes nothing.
use Prim.Native.Nat.{◌≤◌, ◌-◌}
use mathlib.Core.Path.{◌≡◌}
use lib.ListN.{length}
use Rattle.values.specs.Tokens.{ends, tokens_at}
use Rattle.elements.specs.Elements.{outer, piece_from}
use Rattle.elements.proofs.piece_at.Given as goal

abbrev pub invariant-loop-left : goal.invariant-loop-left
invariant-loop-left l = (piece_from (outer l.rank) (ends l.rank) l.number (tokens_at l.c l.s l.from) ≡ piece_from (outer l.rank) (ends l.rank) l.left (tokens_at l.c l.s l.at))
    × (l.from ≤ length l.s → l.at ≤ length l.s)

abbrev pub decreases-loop-left : goal.decreases-loop-left
decreases-loop-left l = length l.s - l.at
