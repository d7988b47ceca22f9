-- `compare::keep` meets its contract: the slice that it hands back is the part that is named. Assumes nothing.
use mathlib.Core.Path.{refl, sym}
use lib.Seq.{length-take-le}
use Rattle.compare.specs.Parts.{part_of}
use Rattle.compare.proofs.Keeping.{kept_fits, handed_first, handed_second}
use Rattle.compare.proofs.keep.Goals as goal

pub slice_bounds-result-end : goal.slice_bounds-result-end
unfolding part_of
slice_bounds-result-end c =
    let x = c.args in
    sym (length-take-le _ x.first.now (kept_fits x.first.now x.second.now c.kept_part.ensures c.in-First.is))

pub slice_bounds-result-end-in-Second : goal.slice_bounds-result-end-in-Second
unfolding part_of
slice_bounds-result-end-in-Second c =
    let x = c.args in
    sym (length-take-le _ x.second.now (kept_fits x.first.now x.second.now c.kept_part.ensures c.in-Second.is))

pub returns-in-First : goal.returns-in-First
returns-in-First c =
    let x = c.args in
    handed_first x.first x.second _ c.kept_part.result c.kept_part.ensures c.in-First.is refl refl

pub returns-in-Second : goal.returns-in-Second
returns-in-Second c =
    let x = c.args in
    handed_second x.first x.second _ c.kept_part.result c.kept_part.ensures c.in-Second.is refl refl
