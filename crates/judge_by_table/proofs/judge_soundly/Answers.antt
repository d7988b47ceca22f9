-- `judge_by_table::judge_soundly` meets its contract: one of 1 to 12 answers, or 22 and 13 do. Assumes nothing.
use Rattle.answers.specs.Answers.{told_judged}
use mathlib.Core.Path.{◌≡◌, ◌∙◌, ap}
use borrow.Author.Rules.{rules}
use Rattle.std.specs.Prelude.{Err}
use Rattle.stage_opening.proofs.Runs.{refused_is, passed_is}
use Rattle.judge_by_table.proofs.Answers.{earlier-refused}
use Rattle.judge_by_table.proofs.judge_soundly.Goals as goal

pub judge_bodies-requires : goal.judge_bodies-requires
judge_bodies-requires c =
    let passed = passed_is c.args.s.now 1 12 c.stages_to_12.ensures c.in_ok-found.was in
    (c.requires, passed.0, passed.1)

pub returns-in_err-found : goal.returns-in_err-found
returns-in_err-found c =
    let x = c.args in
    let e : c.from_residual.result ≡ Err c.in_err-found.field-0.0 = search rules in
    ap told_judged e ∙ earlier-refused x.table.now x.s.now c.requires (refused_is x.s.now 1 12 c.stages_to_12.ensures c.in_err-found.was)

pub returns : goal.returns
returns c = c.judge_bodies.ensures
