-- `line_breaks::copy_unbroken` meets its contract. The loop's invariant: what is left of the text, stored from here, gives what the whole,
-- stored at the start, gives; and it ends where the whole ends. What is left of the input falls. Assumes nothing.
use Prim.Native.Nat.{◌+◌, ◌-◌, ◌≤◌}
use mathlib.Core.Path.{◌≡◌}
use lib.ListN.{length, drop}
use lib.Seq.{sets}
use Rattle.line_breaks.specs.Unbroken.{unbroken}
use Rattle.line_breaks.proofs.copy_unbroken.Given as goal

abbrev pub invariant-loop-to : goal.invariant-loop-to
invariant-loop-to l = (sets l.initial.buffer l.from (unbroken (drop l.start l.s)) ≡ sets l.buffer l.to (unbroken (drop l.at l.s))) × (length l.buffer ≡ length l.initial.buffer)
    × (l.to + length (unbroken (drop l.at l.s)) ≡ l.end) × (l.end ≤ length l.initial.buffer)

abbrev pub decreases-loop-to : goal.decreases-loop-to
decreases-loop-to l = length l.s - l.at
