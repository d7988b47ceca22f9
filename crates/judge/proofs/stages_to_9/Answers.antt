-- `judge::stages_to_9` meets its contract: 9 follows 1 to 8. Assumes nothing.
use Rattle.std.specs.Prelude.{Err}
use mathlib.Core.Path.{refl, ◌≡◌, ◌∙◌}
use Rattle.lists.specs.Lists.{all, those}
use Rattle.stages.specs.Stages.{brackets, brackets_in}
use Rattle.stage_opening.proofs.Runs.{refused_before}
use Rattle.judge.proofs.Stages.{short_by, order_failed, order_whole}
use borrow.Author.Rules.{rules}
use Rattle.judge.proofs.stages_to_9.Goals as goal

pub check-requires : goal.check-requires
unfolding brackets_in brackets those all
check-requires c =
    short_by c.args.s.now 8 refl c.stages_to_8.ensures c.in_ok-found.was

pub returns-in_err-found : goal.returns-in_err-found
unfolding brackets_in brackets those all
returns-in_err-found c =
    let e : c.from_residual.result ≡ Err c.in_err-found.field-0.0 = search rules in
    e ∙ refused_before c.args.s.now 1 8 c.stages_to_8.ensures 9 refl c.in_err-found.was

pub returns-in_err-walk : goal.returns-in_err-walk
returns-in_err-walk c =
    let e : c.from_residual-in_err-walk.result ≡ Err c.in_err-walk.field-0.0 = search rules in
    e ∙ order_failed c.args.s.now c.stages_to_8.ensures c.in_ok-found.was c.check.ensures c.in_err-walk.was

pub returns : goal.returns
returns c =
    order_whole c.args.s.now c.stages_to_8.ensures c.in_ok-found.was c.check.ensures c.in_ok-walk.was
