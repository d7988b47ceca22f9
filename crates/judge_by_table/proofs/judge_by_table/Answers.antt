-- `judge_by_table::judge_by_table` meets its contract: 21 answers, or the others do. Assumes nothing.
use Rattle.answers.specs.Answers.{told_judged}
use mathlib.Core.Path.{◌≡◌, ◌∙◌, ap}
use borrow.Author.Rules.{rules}
use Rattle.std.specs.Prelude.{Err}
use Rattle.judge_by_table.proofs.Answers.{table_refused, table_sound}
use Rattle.judge_by_table.proofs.judge_by_table.Goals as goal

pub judge_soundly-requires : goal.judge_soundly-requires
judge_soundly-requires c = let x = c.args in table_sound x.table.now x.s.now c.check.ensures c.in_ok-check.was

pub returns-in_err-check : goal.returns-in_err-check
returns-in_err-check c =
    let x = c.args in
    let e : c.from_residual.result ≡ Err c.in_err-check.field-0.0 = search rules in
    ap told_judged e ∙ table_refused x.table.now x.s.now c.check.ensures c.in_err-check.was

pub returns : goal.returns
returns c = c.judge_soundly.ensures
