-- `level_classes::is_within` meets its contract: the ranges are those of level A and of what level B adds. Assumes nothing.
use Rattle.std.proofs.Common.{◌||◌, ◌∙◌, ap₂}
use Rattle.level_classes.proofs.Classes.{ranges_a, ranges_letters, level_known}
use Rattle.level_classes.proofs.is_within.Goals as goal

pub returns : goal.returns
returns c =
    let args = c.args in
    let low = c.is_between.ensures in
    let middle = c.is_between-2.ensures in
    let high = c.is_between-3.ensures in
    c.holds.ensures
    ∙ level_known args.level args.b (ap₂ ◌||◌ low (ap₂ ◌||◌ middle high) ∙ ranges_a args.b) (c.is_between-4.ensures ∙ ranges_letters args.b)
