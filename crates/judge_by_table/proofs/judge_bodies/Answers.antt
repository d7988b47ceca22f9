-- `judge_by_table::judge_bodies` meets its contract: 22 answers, or 13 does. Assumes nothing.
use Rattle.answers.specs.Answers.{told_judged}
use mathlib.Core.Path.{◌≡◌, ◌∙◌, ap}
use borrow.Author.Rules.{rules}
use Rattle.std.specs.Prelude.{Err}
use Rattle.judge_by_table.proofs.Answers.{bodies-refused, length_answers}
use Rattle.judge_by_table.proofs.judge_bodies.Goals as goal

pub returns-in_err-check : goal.returns-in_err-check
returns-in_err-check c =
    let x = c.args in
    let pre = c.requires in
    let e : c.from_residual.result ≡ Err c.in_err-check.field-0.0 = search rules in
    ap told_judged e ∙ bodies-refused x.table.now x.s.now pre.0 pre.1 pre.2 c.check.ensures c.in_err-check.was

pub returns : goal.returns
returns c =
    let x = c.args in
    let pre = c.requires in
    length_answers x.table.now x.s.now pre.0 pre.1 pre.2 c.check.ensures c.in_ok-check.was c.judge_length.ensures
