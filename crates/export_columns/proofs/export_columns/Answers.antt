-- `export_columns::export_columns` meets its contract: Judge's refusal answers, or the text is stored. Assumes nothing.
use Rattle.columns.specs.Promises.{Exports}
use Rattle.answers.specs.Answers.{Stored}
use mathlib.Core.Path.{◌≡◌, sym, subst}
use Rattle.std.specs.Prelude.{Err}
use borrow.Author.Rules.{rules}
use Rattle.judge.proofs.Told.{told_accepted, told_refused}
use Rattle.export_columns.proofs.Exporting.{judge_refuses}
use Rattle.export_columns.proofs.export_columns.Goals as goal

pub store_text-requires : goal.store_text-requires
store_text-requires c = told_accepted c.args.s.now c.judge.ensures c.in_ok-figures.was

pub returns-in_err-figures : goal.returns-in_err-figures
returns-in_err-figures c =
    let args = c.args in
    let e : c.from_residual.result ≡ Err c.in_err-figures.field-0.0 = search rules in
    subst (λ (r : Stored). Exports args.buffer.now args.s.now r args.buffer.now) (sym e)
    (judge_refuses args.buffer.now args.s.now (told_refused args.s.now c.judge.ensures c.in_err-figures.was))

pub returns : goal.returns
returns c = c.store_text.ensures
