-- `stretches::stops_at` meets its contract: each of six bytes stands at a place of its own. Assumes nothing.
use Rattle.std.proofs.Common.{arith}
use Rattle.stretches.proofs.Releasing.{stops_there}
use Rattle.stretches.proofs.stops_at.Goals as goal

pub returns : goal.returns
returns c =
    let x = c.args in
    stops_there x.c x.s.now x.at (omega arith) (omega arith) (omega arith) (omega arith) (omega arith) c.stops.ensures c.is_marked-this.ensures
    c.is_marked-next.ensures
