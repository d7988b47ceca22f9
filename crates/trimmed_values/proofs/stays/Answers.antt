-- `trimmed_values::stays` meets its contract: the first piece, or another one. Assumes nothing.
use mathlib.Core.Path.{◌∙◌}
use Rattle.trimmed_values.proofs.Places.{stays_first, stays_later}
use Rattle.trimmed_values.proofs.stays.Goals as goal

pub returns-then-number-eq0 : goal.returns-then-number-eq0
returns-then-number-eq0 c = let x = c.args in stays_first x.c x.s.now x.from x.rank x.number c.if-number-eq0.true

pub returns-else-number-eq0 : goal.returns-else-number-eq0
returns-else-number-eq0 c =
    let x = c.args in
    c.holds_byte.ensures ∙ stays_later x.c x.s.now x.from x.rank x.number c.if-number-eq0.false
