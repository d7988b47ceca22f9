-- `finding::copy_of` meets its contract. Assumes nothing.
use Rattle.std.proofs.Common.{◌≡◌, true, false, rules}
use Rattle.std.proofs.lemmas.Iterator.{serves_from_Range, first_from_Range}
use Rattle.shelf_layout.specs.Laid.{laid}
use Rattle.shelf.specs.Parts.{keeps_text}
use Rattle.shelf.proofs.Copies.{copy_found}
use Rattle.shelf.proofs.finding.copy_of.Goals as goal

pub find-requires-clause-callable : goal.find-requires-clause-callable
find-requires-clause-callable c = serves_from_Range (λ x q r. search rules) (λ x a b. search rules)

pub returns : goal.returns
returns c =
    let x = c.args in
    let keeps = keeps_text (laid x.l) x.s.now x.form.now in
    copy_found (laid x.l) x.s.now x.form.now _
    (first_from_Range _ _ _ _ (λ k. keeps k ≡ true) (λ k. keeps k ≡ false) c.find.ensures.ran (λ k q r. search rules) (λ k q r. search rules))
