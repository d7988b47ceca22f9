-- `forming::are_formed` meets its contract. Assumes nothing.
use Rattle.std.proofs.Common.{◌≡◌, true, rules}
use Rattle.std.proofs.lemmas.Iterator.{serves_from_Range}
use Rattle.shelf_layout.specs.Laid.{laid}
use Rattle.shelf_soundness.specs.Clauses.{formed}
use Rattle.shelf_soundness.proofs.Loops.{all_slots}
use Rattle.shelf_soundness.proofs.forming.are_formed.Goals as goal

pub all-requires-clause-callable : goal.all-requires-clause-callable
all-requires-clause-callable c = serves_from_Range (λ x q r. search rules) (λ x a b. search rules)

pub returns : goal.returns
returns c =
    let x = c.args in
    all_slots 0 _ _ _ (λ k. formed (laid x.l) x.s.now k ≡ true) c.all.ensures.ran (λ k q r. search rules) (λ k q r p. search rules)
