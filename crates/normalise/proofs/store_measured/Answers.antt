-- `normalise::store_measured` meets its contract: 13 answers, or the normal form is stored. Assumes nothing.
use Rattle.contracts.specs.Promises.{Normalises}
use Rattle.answers.specs.Answers.{Stored}
use mathlib.Core.Path.{◌≡◌, sym, subst}
use Rattle.std.specs.Prelude.{Err}
use borrow.Author.Rules.{rules}
use Rattle.judge.proofs.Stages.{last_answers}
use Rattle.judge.proofs.Told.{told_accepted, told_refused}
use Rattle.normalise.proofs.Storing.{judge_refuses}
use Rattle.normalise.proofs.store_measured.Goals as goal

pub store_form-requires : goal.store_form-requires
store_form-requires c =
    let s = c.args.s.now in
    told_accepted s (last_answers s c.requires.0 c.judge_length.ensures) c.in_ok-figures.was

pub returns-in_err-figures : goal.returns-in_err-figures
returns-in_err-figures c =
    let s = c.args.s.now in
    let e : c.from_residual.result ≡ Err c.in_err-figures.field-0.0 = search rules in
    subst (λ (r : Stored). Normalises c.args.buffer.now s r c.args.buffer.now) (sym e)
    (judge_refuses c.args.buffer.now s (told_refused s (last_answers s c.requires.0 c.judge_length.ensures) c.in_err-figures.was))

pub returns : goal.returns
returns c = c.store_form.ensures
