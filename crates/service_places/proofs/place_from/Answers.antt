-- `service_places::place_from` meets its contract. Assumes nothing.
use Rattle.service_places.proofs.place_from.Goals as goal

pub returns-then-from-known : goal.returns-then-from-known
returns-then-from-known c = c.requires c.if-from-known.true

pub returns : goal.returns
returns c = c.next_place.ensures
