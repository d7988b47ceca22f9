-- `judge::judge` meets its contract: one of 1 to 12 answers, or 13 does. Assumes nothing.
use Rattle.answers.specs.Answers.{told_judged}
use mathlib.Core.Path.{◌≡◌, ◌∙◌, ap}
use Rattle.std.specs.Prelude.{Err}
use Rattle.stage_opening.proofs.Runs.{refused_is, passed_is}
use Rattle.judge.proofs.Stages.{earlier_answers, last_answers}
use borrow.Author.Rules.{rules}
use Rattle.judge.proofs.judge.Goals as goal

pub judge_length-requires : goal.judge_length-requires
judge_length-requires c = passed_is c.args.s.now 1 12 c.stages_to_12.ensures c.in_ok-found.was

pub returns-in_err-found : goal.returns-in_err-found
returns-in_err-found c =
    let s = c.args.s.now in
    let e : c.from_residual.result ≡ Err c.in_err-found.field-0.0 = search rules in
    ap told_judged e ∙ earlier_answers s (refused_is s 1 12 c.stages_to_12.ensures c.in_err-found.was)

pub returns : goal.returns
returns c =
    let s = c.args.s.now in
    last_answers s (passed_is s 1 12 c.stages_to_12.ensures c.in_ok-found.was).0 c.judge_length.ensures
