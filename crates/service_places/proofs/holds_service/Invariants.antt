-- `service_places::holds_service` meets its contract. The loop's invariant: one passes where one was found or one passes from here on.
-- Assumes nothing.
use Rattle.characters.specs.Characters.{is_service}
use Rattle.service_places.proofs.Places.{Found}
use Rattle.service_places.proofs.holds_service.Given as goal

abbrev pub invariant-loop-b : goal.invariant-loop-b
invariant-loop-b l = Found (is_service l.c) l.s l.found l.b-index
