-- `service_places::next_place` meets its contract: the place that is found is the next one. Assumes nothing.
use Rattle.std.proofs.Common.{rules, ◌≡◌, true, false, ap, ◌∙◌}
use Rattle.std.proofs.lemmas.Iterator.{first_from_Range}
use Rattle.std.specs.Option.{unwrap_or}
use lib.ListN.{get_or}
use Rattle.characters.specs.Characters.{is_service}
use Rattle.service_places.proofs.Places.{next_found}
use Rattle.service_places.proofs.next_place.Goals as goal

pub returns : goal.returns
returns c =
    let x = c.args in
    c.unwrap_or.ensures
    ∙ ap (unwrap_or c.find.result) c.max.ensures
    ∙ next_found (is_service x.c) x.s.now x.from c.find.result
    (first_from_Range _ _ _ _ (λ k. is_service x.c (get_or x.s.now k 0) ≡ true) (λ k. is_service x.c (get_or x.s.now k 0) ≡ false) c.find.ensures.ran
    (λ k q r. search rules) (λ k q r. search rules))
