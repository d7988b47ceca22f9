-- `surface::hverolda_keep` meets its contract: it lays out the part that Keep names. Assumes nothing.
use borrow.Author.Rules.{rules}
use Rattle.compare.specs.Parts.{part_of}
use Rattle.surface.specs.Parts.{kept_of}
use Rattle.surface.proofs.Handed.{kept_laid}
use Rattle.surface.proofs.hverolda_keep.Goals as goal

pub returns-in-First : goal.returns-in-First
unfolding kept_of part_of
returns-in-First c =
    let x = c.args in
    kept_laid x.first.now x.second.now c.kept_part.ensures c.in-First.is

pub returns-in-Second : goal.returns-in-Second
unfolding kept_of part_of
returns-in-Second c =
    let x = c.args in
    kept_laid x.first.now x.second.now c.kept_part.ensures c.in-Second.is
