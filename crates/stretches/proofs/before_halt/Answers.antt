-- `stretches::before_halt` meets its contract: the stretch does not halt at a byte at which nothing is found. Assumes nothing.
use Rattle.std.proofs.Common.{rules, arith, ◌≡◌, ◌+◌, ◌<◌, false, length}
use lib.ListN.{get_or}
use Rattle.first_found.proofs.Firsts.{told_between}
use Rattle.stretches.specs.Stretches.{halts}
use Rattle.stretches.proofs.before_halt.Goals as goal

pub returns : goal.returns
returns c =
    let x = c.args in
    let (most, none) = c.before_first.ensures in (
      most,
      told_between (λ p. (p + 1 < length x.s.now) × (halts x.c x.n (get_or x.s.now p 0) (get_or x.s.now (p + 1) 0) ≡ false))
          (λ j l. (omega arith, search (rules, none j l))),
    )
