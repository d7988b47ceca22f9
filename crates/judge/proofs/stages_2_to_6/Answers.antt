-- `judge::stages_2_to_6` meets its contract: (4 5 6) follows 2 and 3. Assumes nothing.
use Rattle.std.specs.Prelude.{Err}
use mathlib.Core.Path.{refl, ◌≡◌, ◌∙◌, sym, ap}
use lib.ListN.{length}
use Rattle.stage_walks.specs.Walks.{worded}
use Rattle.stage_walks.proofs.Worded.{worded_answers}
use Rattle.judge.specs.Judging.{after}
use Rattle.judge.proofs.Stages.{walked}
use Rattle.lists.specs.Lists.{all, those}
use Rattle.stages.specs.Stages.{brackets, brackets_in}
use Rattle.stage_opening.specs.Runs.{found_by}
use Rattle.stage_opening.proofs.Runs.{refused_before}
use borrow.Author.Rules.{rules}
use Rattle.judge.proofs.stages_2_to_6.Goals as goal

pub returns-in_err-found : goal.returns-in_err-found
unfolding brackets_in brackets those all
returns-in_err-found c =
    let e : c.from_residual.result ≡ Err c.in_err-found.field-0.0 = search rules in
    e ∙ refused_before c.args.s.now 2 3 c.opening_of.ensures 6 refl c.in_err-found.was

pub returns-in_err-check : goal.returns-in_err-check
unfolding brackets_in brackets those all found_by after
returns-in_err-check c =
    let s = c.args.s.now in
    let e : c.from_residual-in_err-check.result ≡ Err c.in_err-check.field-0.0 = search rules in
    e ∙ walked s 2 3 6 refl (λ f. worded (length s)) (worded_answers s) refl c.opening_of.ensures c.in_ok-found.was c.check.ensures (sym (ap (after c.in_ok-found.found) c.in_err-check.was))

pub returns : goal.returns
unfolding brackets_in brackets those all found_by after
returns c =
    let s = c.args.s.now in
    walked s 2 3 6 refl (λ f. worded (length s)) (worded_answers s) refl c.opening_of.ensures c.in_ok-found.was c.check.ensures (sym (ap (after c.in_ok-found.found) c.in_ok-check.was))
