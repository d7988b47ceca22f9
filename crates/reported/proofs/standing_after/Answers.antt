-- `reported::standing_after` meets its contract: (10 11 12) answers, or what follows it. Assumes nothing.
use mathlib.Core.Path.{refl, sym, ◌∙◌}
use Rattle.lists.specs.Lists.{all, those}
use Rattle.refusals.specs.Refusals.{answering}
use Rattle.refusals.proofs.Stages.{failed_is, passed_is}
use Rattle.stages.specs.Stages.{brackets, brackets_in, stages_in}
use Rattle.stages.proofs.Stages.{run_none}
use Rattle.stage_opening.specs.Runs.{found_by}
use Rattle.judge.proofs.Bodies.{short}
use Rattle.reported.proofs.Judged.{control_refused, through_twelve}
use Rattle.reported.proofs.Asked.{control_answer, reported_found}
use Rattle.reported.proofs.standing_after.Goals as goal

pub check-requires : goal.check-requires
unfolding brackets_in brackets those all
check-requires c = let s = c.args.s.now in short s (run_none s 1 6 9 refl c.requires.0).0

pub standing_passed-requires : goal.standing_passed-requires
unfolding found_by
standing_passed-requires c =
    let s = c.args.s.now in
    let known = c.requires in
    (through_twelve s known.0 (passed_is (answering (stages_in s 10 12)) (sym (control_answer s known.1 c.check.ensures) ∙ c.in-Ok.is)), known.1)

pub returns-in-Err : goal.returns-in-Err
returns-in-Err c =
    let s = c.args.s.now in
    let known = c.requires in
    reported_found s known.1 c.with_action.ensures
    ∙ control_refused s known.0 (failed_is (answering (stages_in s 10 12)) c.in-Err.field-0 (sym (control_answer s known.1 c.check.ensures) ∙ c.in-Err.is))

pub returns-in-Ok : goal.returns-in-Ok
returns-in-Ok c = c.standing_passed.ensures
