-- `parting::are_alone` meets its contract. Assumes nothing.
use Rattle.std.proofs.Common.{rules}
use Rattle.std.proofs.lemmas.Iterator.{serves_from_Range}
use Rattle.shelf_layout.specs.Laid.{laid}
use Rattle.shelf_soundness.specs.Clauses.{AloneAt}
use Rattle.shelf_soundness.proofs.Loops.{all_slots}
use Rattle.shelf_soundness.proofs.parting.are_alone.Goals as goal

pub sums_of-sums-requires : goal.sums_of-sums-requires
sums_of-sums-requires c = c.requires

pub all-requires-clause-callable : goal.all-requires-clause-callable
all-requires-clause-callable c = serves_from_Range (λ x q r. search rules) (λ x a b. search rules)

pub returns : goal.returns
returns c =
    let x = c.args in
    all_slots 0 _ _ _ (AloneAt (laid x.l) x.s.now) c.all.ensures.ran (λ k q r. search rules) (λ k q r p. search rules)
