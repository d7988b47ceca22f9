-- `reported::standing_of` meets its contract: what the quick way does not pass is asked stage by stage. Assumes nothing.
use mathlib.Core.Path.{subst}
use Rattle.stage_opening.proofs.Runs.{passed_is}
use Rattle.judge.specs.Judging.{Quickly}
use Rattle.reported.proofs.standing_of.Goals as goal

pub standing_passed-requires : goal.standing_passed-requires
standing_passed-requires c =
    let s = c.args.s.now in
    passed_is s 1 12 (subst (Quickly s) c.in-Some-Ok.is c.quickly.ensures) c.in-Some-Ok.field-0-is

pub returns-in-Some-Ok : goal.returns-in-Some-Ok
returns-in-Some-Ok c = c.standing_passed.ensures

pub returns-in-Some-Err : goal.returns-in-Some-Err
returns-in-Some-Err c = c.standing_in_turn.ensures
