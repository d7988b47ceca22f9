-- `level_classes::is_in_level` meets its contract: the masks are those of level A and of what level B adds. Assumes nothing.
use Rattle.std.proofs.Common.{◌∙◌}
use Rattle.level_classes.proofs.Classes.{mask_a, mask_letters, level_known}
use Rattle.level_classes.proofs.is_in_level.Goals as goal

pub returns : goal.returns
returns c =
    let args = c.args in
    c.holds.ensures
    ∙ level_known args.level args.b (c.is_set.ensures ∙ mask_a args.b) (c.is_set-2.ensures ∙ mask_letters args.b)
