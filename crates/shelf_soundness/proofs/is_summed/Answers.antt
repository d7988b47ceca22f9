-- `shelf_soundness::is_summed` meets its contract. Assumes nothing.
use mathlib.Core.Path.{◌∙◌}
use borrow.Author.Tests.{lt-ltb}
use Rattle.shelf_layout.specs.Laid.{laid}
use Rattle.shelf_soundness.proofs.Whole.{summed_free, summed_by}
use Rattle.shelf_soundness.proofs.is_summed.Goals as goal

pub returns-then-l-lt21 : goal.returns-then-l-lt21
returns-then-l-lt21 c = let x = c.args in lt-ltb x.l.pairs 21 c.if-l-lt21.true ∙ summed_free (laid x.l) x.s.now c.if-l-lt21.true

pub returns-else-l-lt21 : goal.returns-else-l-lt21
returns-else-l-lt21 c =
    let x = c.args in
    let known = c.requires in
    summed_by (laid x.l) x.s.now c.if-l-lt21.false c.base.ensures c.held_figure.ensures known.2
