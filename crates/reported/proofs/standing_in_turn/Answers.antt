-- `reported::standing_in_turn` meets its contract: 1 to 9 answer, or what follows them. Assumes nothing.
use mathlib.Core.Path.{sym, ◌∙◌}
use Rattle.stage_opening.proofs.Runs.{refused_is, passed_is}
use Rattle.reported.proofs.Judged.{early_refused}
use Rattle.reported.proofs.Asked.{no_value, has_value}
use Rattle.reported.proofs.standing_in_turn.Goals as goal

pub returns-in_err-ok : goal.returns-in_err-ok
returns-in_err-ok c =
    let s = c.args.s.now in
    let (r, refused) = no_value c.stages_to_9.result (sym c.ok.ensures.value ∙ c.in_err-ok.was) in
    c.from_residual.ensures ∙ early_refused s (refused_is s 1 9 c.stages_to_9.ensures refused)

pub standing_after-requires : goal.standing_after-requires
standing_after-requires c = passed_is c.args.s.now 1 9 c.stages_to_9.ensures (has_value c.stages_to_9.result (sym c.ok.ensures.value ∙ c.in_ok-ok.was))
