-- `write::check_service` meets its contract: it makes the definition's tests. Assumes nothing.
use Rattle.std.specs.Prelude.{Ok}
use Rattle.std.proofs.Common.{refl, sym, ap, ◌∙◌, eq-eqb, ne_eqb}
use Rattle.lists.specs.Lists.{is_empty}
use Rattle.characters.specs.Characters.{usable}
use Rattle.refusals.specs.Refusals.{place_if}
use Rattle.write.proofs.Writing.{service_is}
use Rattle.write.proofs.check_service.Goals as goal

pub returns-then-is_usable : goal.returns-then-is_usable
unfolding is_empty place_if
returns-then-is_usable c =
    let same = c.characters_of-c.ensures in
    ap Ok same ∙ service_is c.args.service.now (eq-eqb _ _ c.if-service-eq6.true) (ap usable (sym same) ∙ sym c.is_usable.ensures ∙ c.if-is_usable.true)

pub returns-else-is_usable : goal.returns-else-is_usable
unfolding is_empty place_if
returns-else-is_usable c =
    let same = c.characters_of-c.ensures in
    service_is c.args.service.now (eq-eqb _ _ c.if-service-eq6.true) (ap usable (sym same) ∙ sym c.is_usable.ensures ∙ c.if-is_usable.false)

pub returns-else-service-eq6 : goal.returns-else-service-eq6
unfolding is_empty place_if
returns-else-service-eq6 c = service_is c.args.service.now (ne_eqb _ _ c.if-service-eq6.false) refl
