-- `stage_structure::is_header` meets its contract, kind by kind. Assumes nothing.
use mathlib.Core.Path.{◌≡◌, refl, sym, ap}
use mathlib.Core.Bool.{false}
use Rattle.segments.specs.declared.Kind.{Kind}
use Rattle.segments.specs.declared.Kind.TheVariants.{Unb, Ung, Unh, Uns, Unt, Une, Unz, User}
use Rattle.segments.specs.Kinds.{is}
use Rattle.stage_structure.proofs.is_header.Goals as goal

other : (kind : Kind) → (kind ≡ Unh → ⊥) → false ≡ is Unh kind
unfolding is
other Unb h = refl
other Ung h = refl
other Unh h = absurd (h refl)
other Uns h = refl
other Unt h = refl
other Une h = refl
other Unz h = refl
other User h = refl

pub returns-in-Unh : goal.returns-in-Unh
unfolding is
returns-in-Unh c = sym (ap (is Unh) c.in-Unh.is)

pub returns-in_default : goal.returns-in_default
returns-in_default c = other c.args.kind c.in_default.not-Unh
