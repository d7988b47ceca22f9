-- `judge::stages_to_7` meets its contract: 7 follows 1 to 6. Assumes nothing.
use Rattle.std.specs.Prelude.{Err}
use mathlib.Core.Path.{refl, ◌∙◌, ◌≡◌}
use Rattle.lists.specs.Lists.{all, those}
use Rattle.stages.specs.Stages.{brackets, brackets_in}
use Rattle.stage_opening.proofs.Runs.{refused_before}
use Rattle.judge.proofs.Stages.{level_told_none, level_told, level_told_own, level_foreign, level_ours}
use borrow.Author.Rules.{rules}
use Rattle.judge.proofs.stages_to_7.Goals as goal

pub returns-in_default : goal.returns-in_default
returns-in_default c =
    c.failed.ensures
    ∙ level_foreign c.args.s.now c.stages_to_6.ensures c.in_ok-found.was (level_told_none _ _ c.level_of.ensures c.in_default.is) refl

pub returns-in_err-found : goal.returns-in_err-found
unfolding brackets_in brackets those all
returns-in_err-found c =
    let e : c.from_residual.result ≡ Err c.in_err-found.field-0.0 = search rules in
    e ∙ refused_before c.args.s.now 1 6 c.stages_to_6.ensures 7 refl c.in_err-found.was

pub returns : goal.returns
returns c =
    level_ours c.args.s.now c.stages_to_6.ensures c.in_ok-found.was
    (level_told _ _ c.level_of.ensures c.in-Some.is) (level_told_own _ _ c.level_of.ensures c.in-Some.is)
