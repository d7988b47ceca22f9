-- `stage_structure::is_trailer` meets its contract, kind by kind. Assumes nothing.
use mathlib.Core.Path.{◌≡◌, refl, sym, ap}
use mathlib.Core.Bool.{false}
use Rattle.segments.specs.declared.Kind.{Kind}
use Rattle.segments.specs.declared.Kind.TheVariants.{Unb, Ung, Unh, Uns, Unt, Une, Unz, User}
use Rattle.segments.specs.Kinds.{is}
use Rattle.stage_structure.proofs.is_trailer.Goals as goal

other : (kind : Kind) → (kind ≡ Unt → ⊥) → false ≡ is Unt kind
unfolding is
other Unb h = refl
other Ung h = refl
other Unh h = refl
other Uns h = refl
other Unt h = absurd (h refl)
other Une h = refl
other Unz h = refl
other User h = refl

pub returns-in-Unt : goal.returns-in-Unt
unfolding is
returns-in-Unt c = sym (ap (is Unt) c.in-Unt.is)

pub returns-in_default : goal.returns-in_default
returns-in_default c = other c.args.kind c.in_default.not-Unt
