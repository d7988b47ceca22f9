-- `normalise::normalise` meets its contract: one of 1 to 12 answers, or the normal form is stored. Assumes nothing.
use Rattle.contracts.specs.Promises.{Normalises}
use Rattle.answers.specs.Answers.{Stored}
use mathlib.Core.Path.{◌≡◌, sym, subst}
use Rattle.std.specs.Prelude.{Err}
use borrow.Author.Rules.{rules}
use Rattle.stage_opening.proofs.Runs.{refused_is, passed_is}
use Rattle.judge.proofs.Stages.{earlier_refuses}
use Rattle.normalise.proofs.Storing.{judge_refuses}
use Rattle.normalise.proofs.normalise.Goals as goal

pub store_found-requires : goal.store_found-requires
store_found-requires c = passed_is c.args.s.now 1 12 c.stages_to_12.ensures c.in_ok-found.was

pub returns-in_err-found : goal.returns-in_err-found
returns-in_err-found c =
    let s = c.args.s.now in
    let e : c.from_residual.result ≡ Err c.in_err-found.field-0.0 = search rules in
    subst (λ (r : Stored). Normalises c.args.buffer.now s r c.args.buffer.now) (sym e)
    (judge_refuses c.args.buffer.now s (earlier_refuses s (refused_is s 1 12 c.stages_to_12.ensures c.in_err-found.was)))

pub returns : goal.returns
returns c = c.store_found.ensures
