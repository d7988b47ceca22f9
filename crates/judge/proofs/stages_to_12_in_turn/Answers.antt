-- `judge::stages_to_12_in_turn` meets its contract: (10 11 12) follows 1 to 9. Assumes nothing.
use Rattle.std.specs.Prelude.{Err}
use mathlib.Core.Path.{refl, ◌≡◌, ◌∙◌, sym, ap}
use Rattle.stage_walks.specs.Walks.{controlled}
use Rattle.stage_walks.proofs.Walks.{controlled_answers}
use Rattle.judge.specs.Judging.{after}
use Rattle.judge.proofs.Stages.{short_by, walked}
use Rattle.lists.specs.Lists.{all, those}
use Rattle.stages.specs.Stages.{brackets, brackets_in}
use Rattle.stage_opening.specs.Runs.{found_by}
use Rattle.stage_opening.proofs.Runs.{refused_before}
use borrow.Author.Rules.{rules}
use Rattle.judge.proofs.stages_to_12_in_turn.Goals as goal

pub check-requires : goal.check-requires
unfolding brackets_in brackets those all
check-requires c =
    short_by c.args.s.now 9 refl c.stages_to_9.ensures c.in_ok-found.was

pub returns-in_err-found : goal.returns-in_err-found
unfolding brackets_in brackets those all
returns-in_err-found c =
    let e : c.from_residual.result ≡ Err c.in_err-found.field-0.0 = search rules in
    e ∙ refused_before c.args.s.now 1 9 c.stages_to_9.ensures 12 refl c.in_err-found.was

pub returns-in_err-check : goal.returns-in_err-check
unfolding brackets_in brackets those all found_by after
returns-in_err-check c =
    let s = c.args.s.now in
    let e : c.from_residual-in_err-check.result ≡ Err c.in_err-check.field-0.0 = search rules in
    e ∙ walked s 1 9 12 refl (λ f. controlled) (controlled_answers s) refl c.stages_to_9.ensures c.in_ok-found.was c.check.ensures (sym (ap (after c.in_ok-found.found) c.in_err-check.was))

pub returns : goal.returns
unfolding brackets_in brackets those all found_by after
returns c =
    let s = c.args.s.now in
    walked s 1 9 12 refl (λ f. controlled) (controlled_answers s) refl c.stages_to_9.ensures c.in_ok-found.was c.check.ensures (sym (ap (after c.in_ok-found.found) c.in_ok-check.was))
