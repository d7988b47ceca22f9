-- `segment_ends::stops_at` meets its contract: each of five bytes stands at a place of its own. Assumes nothing.
use Rattle.std.proofs.Common.{arith}
use Rattle.release_marks.proofs.Reaching.{asked_there}
use Rattle.segment_ends.specs.Releases.{stops}
use Rattle.segment_ends.proofs.stops_at.Goals as goal

pub returns : goal.returns
returns c =
    let x = c.args in
    asked_there x.c x.s.now (stops x.c) x.at (omega arith) (omega arith) (omega arith) (omega arith) c.stops.ensures c.is_marked-this.ensures
    c.is_marked-next.ensures
