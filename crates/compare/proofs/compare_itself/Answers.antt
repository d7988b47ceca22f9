-- `compare::compare_itself` meets its contract: the bound tells that 13 is not met, or it is asked. Assumes nothing.
use Rattle.std.proofs.Common.{◌≡◌, Ok, Err, rules, subst, sym}
use Rattle.refusals.specs.declared.Refusal.{Refusal}
use Rattle.answers.specs.declared.Unaccepted.TheVariants.{First}
use Rattle.answers.specs.declared.Figures.{Figures}
use Rattle.contracts.specs.Promises.{Compares}
use native.Mathlib.Omega.{arith}
use Rattle.judge.proofs.Stages.{short_accepted, last_answers}
use Rattle.judge.proofs.Told.{told_accepted, told_refused}
use Rattle.compare.proofs.Compared.{first_refused, itself_same}
use Rattle.compare.proofs.compare_itself.Goals as goal

pub returns-then-most_length-le-MOST_BYTES : goal.returns-then-most_length-le-MOST_BYTES
returns-then-most_length-le-MOST_BYTES c =
    let s = c.args.s.now in
    itself_same s (short_accepted s c.requires.0 (omega (arith, c.most_length.ensures, c.if-most_length-le-MOST_BYTES.true)))

pub returns-in_err-map_err : goal.returns-in_err-map_err
returns-in_err-map_err c =
    let s = c.args.s.now in
    let e : (r : Refusal) × (c.judge_length.result ≡ Err r) × (c.from_residual.result ≡ Err (First r)) = search rules in
    subst (Compares s s) (sym e.2) (first_refused s s (told_refused s (last_answers s c.requires.0 c.judge_length.ensures) e.1))

pub returns : goal.returns
returns c =
    let s = c.args.s.now in
    let e : (i : Figures) × (c.judge_length.result ≡ Ok i) = search rules in
    itself_same s (told_accepted s (last_answers s c.requires.0 c.judge_length.ensures) e.1).0
