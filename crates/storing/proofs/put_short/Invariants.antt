-- `storing::put_short` meets its contract. The loop's invariant: what is left of the text, stored from here, gives what the whole, stored
-- at the start, gives. Assumes nothing.
use Prim.Native.Nat.{◌+◌}
use mathlib.Core.Path.{◌≡◌}
use lib.ListN.{drop}
use lib.Seq.{sets}
use Rattle.storing.proofs.put_short.Given as goal

abbrev pub invariant-loop-k : goal.invariant-loop-k
invariant-loop-k l = sets l.initial.buffer l.at l.text ≡ sets l.buffer (l.at + l.k) (drop l.k l.text)
