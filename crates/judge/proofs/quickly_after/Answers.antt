-- `judge::quickly_after` meets its contract: what passes or is refused here, the stages pass or refuse in turn. Assumes nothing.
use mathlib.Core.Path.{refl, subst, ◌∙◌}
use Rattle.clean_walk.specs.Clean.{Cleans}
use Rattle.judge.proofs.Stages.{level_told_none, level_told, level_told_own}
use Rattle.judge.proofs.QuickWay.{quick_foreign, quick_answers}
use Rattle.judge.proofs.quickly_after.Goals as goal

pub returns-in_default : goal.returns-in_default
returns-in_default c =
    let args = c.args in
    c.failed.ensures
    ∙ quick_foreign args.s.now c.requires.0 c.requires.1
    (subst (Cleans args.found.characters args.s.now args.found.start) c.in_ok-walk.was c.clean_walk.ensures)
    (level_told_none _ _ c.level_of.ensures c.in_default.is) refl

pub returns : goal.returns
returns c =
    let args = c.args in
    c.and.ensures
    ∙ quick_answers args.s.now c.requires.0 c.requires.1
    (subst (Cleans args.found.characters args.s.now args.found.start) c.in_ok-walk.was c.clean_walk.ensures)
    (level_told _ _ c.level_of.ensures c.in-Some.is) (level_told_own _ _ c.level_of.ensures c.in-Some.is) c.in_level.ensures
