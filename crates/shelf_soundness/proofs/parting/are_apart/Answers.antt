-- `parting::are_apart` meets its contract. Assumes nothing.
use Rattle.shelf_layout.specs.Laid.{laid}
use Rattle.shelf_soundness.proofs.Ranges.{apart_is}
use Rattle.shelf_soundness.proofs.parting.are_apart.Goals as goal

pub returns : goal.returns
returns c =
    let x = c.args in
    apart_is (laid x.l) x.s.now x.one x.other c.start_of-a.ensures.0 c.start_of-b.ensures.0 c.length_of.ensures.0 c.length_of-2.ensures.0
