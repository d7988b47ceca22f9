-- `surface::hverolda_shelf_get` meets its contract: the part that Get hands back, with what it was refused by. Assumes nothing.
use mathlib.Core.Path.{◌≡◌, refl, sym, ap, ap₂, subst, ◌∙◌}
use Rattle.shelves.specs.Layout.{Layout}
use Rattle.surface.proofs.GotParts.{told_range, told_part, told_refused}
use borrow.Author.Rules.{rules}
use Rattle.surface.proofs.hverolda_shelf_get.Goals as goal

pub start_of-requires : goal.start_of-requires
start_of-requires c = let x = c.args in told_range x.shelf.now x.slot c.version_two-l.ensures c.measure.ensures c.in-Ok.is

pub returns-in-Err : goal.returns-in-Err
returns-in-Err c = let x = c.args in c.got_refused.ensures ∙ told_refused x.shelf.now x.slot c.measure.ensures c.in-Err.is

pub returns-in-Ok : goal.returns-in-Ok
returns-in-Ok c = let x = c.args in c.got_at.ensures ∙ told_part x.shelf.now x.slot c.version_two-l.ensures c.start_of.ensures.0 c.measure.ensures c.in-Ok.is
