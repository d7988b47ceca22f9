-- `service_places::holds_service` meets its contract. The loop's invariant: one passes where one was found or one passes from here on.
-- Assumes nothing.
use Rattle.characters.specs.Characters.{is_service}
use Rattle.service_places.proofs.Places.{found_more, found_all}
use Rattle.service_places.proofs.holds_service.Goals as goal

pub loop-b-preserved : goal.loop-b-preserved
loop-b-preserved c =
    let x = c.args in
    let state = c.loop-b in
    found_more (is_service x.c) x.s.now state.found state.b-index c.loop-b-test.true c.is_service-found.ensures state.invariant

pub returns : goal.returns
returns c =
    let x = c.args in
    let state = c.loop-b in
    found_all (is_service x.c) x.s.now state.found state.b-index c.loop-b-test.false state.invariant
