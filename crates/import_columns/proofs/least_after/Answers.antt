-- `import_columns::least_after` meets its contract: it makes the definition's test. Assumes nothing.
use mathlib.Core.Path.{sym, ◌∙◌}
use lib.Dec.{eqb}
use borrow.Author.Tests.{eq-eqb, ne_eqb}
use Rattle.lists.proofs.Texts.{if_true, if_false}
use Rattle.operations.specs.ValueList.{rank_of}
use Rattle.import_columns.proofs.least_after.Goals as goal

pub returns-then-l : goal.returns-then-l
returns-then-l c =
    let l = c.args.l in
    c.rank_of.ensures ∙ sym (if_true (eqb l.start l.end) (rank_of l.kind) 0 (eq-eqb l.start l.end c.if-l.true))

pub returns-else-l : goal.returns-else-l
returns-else-l c =
    let l = c.args.l in
    sym (if_false (eqb l.start l.end) (rank_of l.kind) 0 (ne_eqb l.start l.end c.if-l.false))
