-- `judge::stages_to_8` meets its contract: 8 follows 1 to 7. Assumes nothing.
use Rattle.std.specs.Prelude.{Err}
use mathlib.Core.Path.{refl, ◌≡◌, ◌∙◌, sym, ap}
use Rattle.stage_walks.specs.Walks.{leveled}
use Rattle.stage_walks.proofs.Walks.{leveled_answers}
use Rattle.judge.specs.Judging.{after}
use Rattle.judge.proofs.Stages.{walked}
use Rattle.lists.specs.Lists.{all, those}
use Rattle.stages.specs.Stages.{brackets, brackets_in}
use Rattle.stage_opening.specs.Runs.{found_by}
use Rattle.stage_opening.proofs.Runs.{refused_before}
use borrow.Author.Rules.{rules}
use Rattle.judge.proofs.stages_to_8.Goals as goal

pub returns-in_err-found : goal.returns-in_err-found
unfolding brackets_in brackets those all
returns-in_err-found c =
    let e : c.from_residual.result ≡ Err c.in_err-found.field-0.0 = search rules in
    e ∙ refused_before c.args.s.now 1 7 c.stages_to_7.ensures 8 refl c.in_err-found.was

pub returns-in_err-in_level : goal.returns-in_err-in_level
unfolding brackets_in brackets those all found_by after
returns-in_err-in_level c =
    let s = c.args.s.now in
    let e : c.from_residual-in_err-in_level.result ≡ Err c.in_err-in_level.field-0.0 = search rules in
    e ∙ walked s 1 7 8 refl (λ f. leveled f.level) (leveled_answers s) refl c.stages_to_7.ensures c.in_ok-found.was c.in_level.ensures (sym (ap (after c.in_ok-found.found) c.in_err-in_level.was))

pub returns : goal.returns
unfolding brackets_in brackets those all found_by after
returns c =
    let s = c.args.s.now in
    walked s 1 7 8 refl (λ f. leveled f.level) (leveled_answers s) refl c.stages_to_7.ensures c.in_ok-found.was c.in_level.ensures (sym (ap (after c.in_ok-found.found) c.in_ok-in_level.was))
