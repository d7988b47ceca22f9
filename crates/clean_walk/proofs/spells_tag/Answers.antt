-- `clean_walk::spells_tag` meets its contract: the four bytes are asked one by one. Assumes nothing.
use mathlib.Core.Bool.{false≢true}
use native.Mathlib.Omega.{arith}
use Rattle.clean_walk.proofs.Tags.{spells}
use Rattle.clean_walk.proofs.spells_tag.Goals as goal

pub returns-then-s-at-lt4 : goal.returns-then-s-at-lt4
returns-then-s-at-lt4 c e = absurd (false≢true e)

pub returns : goal.returns
returns c e =
    spells c.args.c c.args.s.now c.args.at (omega arith) c.requires.1
    c.is_ordinary.ensures c.is_ordinary-2.ensures c.is_ordinary-3.ensures e
