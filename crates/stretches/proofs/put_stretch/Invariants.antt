-- `stretches::put_stretch` meets its contract. The loop's invariant: what is left of the stretch, stored from here, gives what the whole, stored
-- at the start, gives; and it fits. Assumes nothing.
use Prim.Native.Nat.{◌+◌, ◌-◌}
use mathlib.Core.Path.{◌≡◌}
use lib.ListN.{length}
use lib.Seq.{sets}
use Rattle.stretches.specs.Stretches.{respelling}
use Rattle.stretches.proofs.put_stretch.Given as goal

abbrev pub invariant-loop-at : goal.invariant-loop-at
invariant-loop-at l = (sets l.initial.buffer l.into (respelling l.c l.n l.s l.from (l.end - l.from)) ≡ sets l.buffer (l.into + (l.at - l.from)) (respelling l.c l.n l.s l.at (l.end - l.at)))
    × (length l.buffer ≡ length l.initial.buffer)
