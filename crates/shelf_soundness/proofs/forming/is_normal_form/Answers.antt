-- `forming::is_normal_form` meets its contract. Assumes nothing.
use mathlib.Core.Path.{◌∙◌}
use lib.Dec.{eqb}
use lib.ListN.{length}
use Rattle.lists.proofs.Tests.{fails, says_eq}
use Rattle.judge.proofs.Told.{told_accepted, told_refused, length_of_lem}
use Rattle.shelf_soundness.proofs.Forms.{is_refused, otherwise_long, by_its_advice}
use Rattle.shelf_soundness.proofs.forming.is_normal_form.Goals as goal

pub begins_normal-requires : goal.begins_normal-requires
begins_normal-requires c =
    told_accepted c.args.text.now c.judge.ensures c.in-Ok.is

pub returns-then-i-text : goal.returns-then-i-text
returns-then-i-text c =
    let s = c.args.text.now in
    let known = told_accepted s c.judge.ensures c.in-Ok.is in
    c.begins_normal.ensures ∙ by_its_advice s (length_of_lem s known.1) known.0 c.if-i-text.true

pub returns-else-i-text : goal.returns-else-i-text
returns-else-i-text c =
    let s = c.args.text.now in
    let known = told_accepted s c.judge.ensures c.in-Ok.is in
    (fails (eqb c.in-Ok.i.length (length s)) (says_eq c.in-Ok.i.length (length s))).1 c.if-i-text.false
    ∙ otherwise_long s (length_of_lem s known.1) c.if-i-text.false

pub returns-in-Err : goal.returns-in-Err
returns-in-Err c =
    let s = c.args.text.now in
    is_refused s (told_refused s c.judge.ensures c.in-Err.is)
