-- `parting::is_alone` meets its contract. Assumes nothing.
use mathlib.Core.Path.{sym, ap, ◌∙◌}
use mathlib.Core.Bool.{not, false≢true}
use Rattle.shelf_layout.proofs.Readings.{occupied_by}
use Rattle.lists.proofs.Tests.{says_as}
use Rattle.std.proofs.Common.{◌≡◌, ◌+◌, true, rules}
use Rattle.std.proofs.lemmas.Iterator.{serves_from_Range}
use Rattle.shelf_layout.specs.Laid.{laid}
use Rattle.shelf_soundness.specs.Clauses.{parted}
use Rattle.shelf_soundness.proofs.Loops.{all_slots}
use Rattle.shelf_soundness.proofs.parting.is_alone.Goals as goal

pub returns-then-not-is_occupied : goal.returns-then-not-is_occupied
returns-then-not-is_occupied c =
    let x = c.args in
    let o = occupied_by x.s.now x.slot c.requires.1 c.is_occupied.ensures c.if-not-is_occupied.true in
    (λ e q. absurd (false≢true (sym o ∙ q)), λ f. ap not c.if-not-is_occupied.true)

pub all-requires-clause-callable : goal.all-requires-clause-callable
all-requires-clause-callable c =
    let x = c.args in
    let o = occupied_by x.s.now x.slot c.requires.1 c.is_occupied.ensures c.if-not-is_occupied.false in
    serves_from_Range (λ j q r. search rules) (λ j a b. search rules)

pub returns-else-not-is_occupied : goal.returns-else-not-is_occupied
returns-else-not-is_occupied c =
    let x = c.args in
    let o = occupied_by x.s.now x.slot c.requires.1 c.is_occupied.ensures c.if-not-is_occupied.false in
    says_as (all_slots (x.slot + 1) _ _ _ (λ k. parted (laid x.l) x.s.now x.slot k ≡ true) c.all.ensures.ran (λ k q r. search rules) (λ k q r p. search rules))
    (λ f q. f)
    (λ f. f o)
