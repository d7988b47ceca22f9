-- `release_marks::is_marked_at` meets its contract: a byte before which no release character stands is not taken for released. Assumes nothing.
use borrow.Author.Tests.{ne_eqb}
use Rattle.release_marks.specs.Marks.{marked}
use Rattle.release_marks.proofs.is_marked_at.Goals as goal

pub returns-then-s-fourth : goal.returns-then-s-fourth
unfolding marked
returns-then-s-fourth c = simp (ne_eqb _ _ c.if-s-fourth.true)

pub returns : goal.returns
returns c = c.is_marked.ensures
