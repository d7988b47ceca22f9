-- `reported::standing_passed` meets its contract: 13 answers, or nothing. Assumes nothing.
use mathlib.Core.Path.{refl, sym, ◌∙◌}
use Rattle.lists.specs.Lists.{all, those}
use Rattle.stages.specs.Stages.{brackets, brackets_in}
use Rattle.stages.proofs.Stages.{run_none}
use Rattle.stage_opening.specs.Runs.{found_by}
use Rattle.reported.proofs.Judged.{form_refused, none_refused}
use Rattle.reported.proofs.Asked.{no_value, has_value, reported_found, form_judged, form_accepted}
use Rattle.reported.proofs.standing_passed.Goals as goal

pub returns-in_err-ok : goal.returns-in_err-ok
unfolding brackets_in brackets those all
returns-in_err-ok c =
    let s = c.args.s.now in
    let (early, late) = run_none s 1 9 12 refl c.requires.0 in
    let (r, refused) = no_value c.judge_length.result (sym c.ok.ensures.value ∙ c.in_err-ok.was) in
    c.from_residual.ensures ∙ form_refused s early late (form_judged s c.judge_length.ensures refused)

pub returns : goal.returns
unfolding brackets_in brackets those all found_by
returns c =
    let s = c.args.s.now in
    let (early, late) = run_none s 1 9 12 refl c.requires.0 in
    reported_found s c.requires.1 c.with_action.ensures
    ∙ none_refused s early late (form_accepted s c.judge_length.ensures (has_value c.judge_length.result (sym c.ok.ensures.value ∙ c.in_ok-ok.was)))
