-- `shelf_laying::got_at` meets its contract. Assumes nothing.
use mathlib.Core.Path.{◌≡◌, refl, sym, ap, ap₂, subst, ◌∙◌}
use Rattle.answers.specs.Answers.{given}
use Rattle.surface.specs.Verdicts.{value}
use Rattle.surface.specs.OfShelf.{got_of}
use Rattle.surface.proofs.shelf_laying.got_at.Goals as goal

pub returns : goal.returns
unfolding got_of given
returns c = refl
