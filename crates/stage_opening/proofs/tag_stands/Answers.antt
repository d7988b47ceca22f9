-- `stage_opening::tag_stands` meets its contract: the three bytes stand one after another. Assumes nothing.
use Rattle.stage_opening.proofs.Beginnings.{begins_tag}
use Rattle.stage_opening.proofs.tag_stands.Goals as goal

pub returns : goal.returns
returns c =
    begins_tag c.args.s.now c.args.at _
    c.byte_stands.ensures
    c.byte_stands-2.ensures
    c.byte_stands-3.ensures
