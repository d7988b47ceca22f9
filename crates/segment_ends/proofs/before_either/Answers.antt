-- `segment_ends::before_either` meets its contract: a byte at which nothing is found is neither. Assumes nothing.
use Rattle.std.proofs.Common.{rules, arith, ◌≡◌, ◌<◌, ◌||◌, false, length}
use lib.Dec.{eqb}
use lib.ListN.{get_or}
use Rattle.first_found.proofs.Firsts.{told_between}
use Rattle.segment_ends.proofs.before_either.Goals as goal

pub returns : goal.returns
returns c =
    let x = c.args in
    let (most, none) = c.before_first.ensures in (
      most,
      told_between (λ p. (p < length x.s.now) × ((eqb (get_or x.s.now p 0) x.a || eqb (get_or x.s.now p 0) x.b) ≡ false))
          (λ j l. (omega arith, search (rules, none j l))),
    )
