-- `parties_laying::parties_beside` meets its contract. Assumes nothing.
use borrow.Author.Rules.{rules}
use Rattle.surface.specs.OfParties.{parties_beside}
use Rattle.surface.proofs.parties_laying.parties_beside.Goals as goal

pub returns : goal.returns
unfolding parties_beside
returns c =
    let x = c.args in
    λ k.
    record {
      number = x.number;
      place = x.place;
      sender = c.part_laid.ensures k;
      recipient = c.part_laid-2.ensures k;
      reference = c.part_laid-3.ensures k;
    }
