-- `elements::element_at` meets its contract: the search goes on token by token. Assumes nothing.
use mathlib.Core.Path.{sym, ◌∙◌}
use Rattle.elements.proofs.element_at.Goals as goal

pub returns : goal.returns
returns c =
    let on = c.past_sixteens-search.ensures in
    let found = c.piece_at.ensures in
    (found.0 ∙ sym on.0, λ h. found.1 (on.1 h))
