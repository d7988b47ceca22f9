-- `read::read` meets its contract: Judge's refusal answers, or the value list is stored. Assumes nothing.
use Rattle.contracts.specs.Promises.{Reads}
use Rattle.refusals.specs.declared.Refusal.{Refusal}
use Rattle.answers.specs.declared.Listed.{Listed}
use mathlib.Core.Path.{◌≡◌, sym, subst}
use Rattle.std.specs.Prelude.{Err, Result}
use borrow.Author.Rules.{rules}
use Rattle.judge.proofs.Told.{told_accepted, told_refused}
use Rattle.read.proofs.Reading.{judge_refuses}
use Rattle.read.proofs.read.Goals as goal

pub store_list-requires : goal.store_list-requires
store_list-requires c = told_accepted c.args.s.now c.judge.ensures c.in_ok-figures.was

pub returns-in_err-figures : goal.returns-in_err-figures
returns-in_err-figures c =
    let s = c.args.s.now in
    let e : c.from_residual.result ≡ Err c.in_err-figures.field-0.0 = search rules in
    subst (λ (r : Result Listed Refusal). Reads c.args.buffer.now c.args.table.now s r c.args.buffer.now c.args.table.now) (sym e)
    (judge_refuses c.args.buffer.now c.args.table.now s (told_refused s c.judge.ensures c.in_err-figures.was))

pub returns : goal.returns
returns c = c.store_list.ensures
