-- `compare::compare_in_order` meets its contract: the first's refusal answers, or what is answered where it passes 1 to 12. Assumes nothing.
use Rattle.std.proofs.Common.{◌≡◌, Ok, Err, rules, subst, sym}
use Rattle.answers.specs.declared.Unaccepted.TheVariants.{First}
use Rattle.refusals.specs.declared.Refusal.{Refusal}
use Rattle.contracts.specs.Promises.{Compares}
use Rattle.stage_opening.proofs.Runs.{refused_is, passed_is}
use Rattle.judge.proofs.Stages.{earlier_refuses}
use Rattle.compare.proofs.Compared.{first_refused}
use Rattle.compare.proofs.compare_in_order.Goals as goal

pub compare_passed-requires : goal.compare_passed-requires
compare_passed-requires c =
    let e : c.stages_to_12.result ≡ Ok c.in_ok-found.found = search rules in
    passed_is c.args.first.now 1 12 c.stages_to_12.ensures e

pub returns-in_err-found : goal.returns-in_err-found
returns-in_err-found c =
    let first = c.args.first.now in
    let e : (r : Refusal) × (c.stages_to_12.result ≡ Err r) × (c.from_residual.result ≡ Err (First r)) = search rules in
    subst (Compares first c.args.second.now) (sym e.2) (first_refused first c.args.second.now (earlier_refuses first (refused_is first 1 12 c.stages_to_12.ensures e.1)))
