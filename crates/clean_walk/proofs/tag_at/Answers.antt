-- `clean_walk::tag_at` meets its contract. Assumes nothing.
use mathlib.Core.Path.{ap, ◌∙◌}
use native.Mathlib.Omega.{arith}
use borrow.Author.Tests.{not-false}
use Rattle.clean_walk.proofs.Tags.{tag_service}
use Rattle.clean_walk.proofs.tag_at.Goals as goal

pub bounds-s-second : goal.bounds-s-second
bounds-s-second c =
    omega (arith, (c.spells_tag.ensures (not-false _ c.if-not-spells_tag.false-raw)).inside)

pub bounds-s-second-2 : goal.bounds-s-second-2
bounds-s-second-2 c =
    omega (arith, (c.spells_tag.ensures (not-false _ c.if-not-spells_tag.false-raw)).inside)

pub returns : goal.returns
returns c =
    let t = c.spells_tag.ensures (not-false _ c.if-not-spells_tag.false-raw) in
    (tag_service _ _ _ t c.kind_named-kind.ensures (λ e. c.if-positions_of-eq0.false (ap (λ p. p.reference) c.positions_of.ensures ∙ e)), λ e. t)
