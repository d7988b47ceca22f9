-- `service_places::store_places` meets its contract. The loop's invariant: the places of the blocks before `start` are stored, and the place
-- at hand, unless it is passed, is that of the next block. Assumes nothing.
use Prim.Native.Nat.{◌*◌, ◌≤◌}
use mathlib.Core.Path.{◌≡◌}
use lib.ListN.{length}
use Rattle.characters.specs.Characters.{is_service}
use Rattle.service_places.specs.Places.{blocks, next_place}
use Rattle.service_places.proofs.Blocks.{Stored}
use Rattle.service_places.proofs.store_places.Given as goal

abbrev pub invariant-loop-k : goal.invariant-loop-k
invariant-loop-k l = (length l.places ≡ blocks)
    × (l.start ≡ l.k * l.size)
    × (l.start ≤ length l.s)
    × (l.start ≤ l.place → l.place ≡ next_place (is_service l.c) l.s l.start)
    × Stored (is_service l.c) l.s l.size l.k l.places
