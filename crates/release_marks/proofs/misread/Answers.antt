-- `release_marks::misread` meets its contract: it is the definition. Assumes nothing.
use mathlib.Core.Path.{ap}
use mathlib.Core.Bool.{Bool, not, ◌&&◌, ◌||◌}
use lib.Dec.{eqb}
use Rattle.release_marks.specs.Marks.{misread}
use Rattle.release_marks.proofs.misread.Goals as goal

pub returns : goal.returns
unfolding misread
returns c =
    let x = c.args in
    let opens = not x.this && eqb x.a x.c.release in
    ap (λ (t : Bool). ((x.next && not opens) || (opens && not x.next)) || (x.this && not t)) c.is_service.ensures
