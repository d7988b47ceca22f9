-- `lent_elements::begins_again` meets its contract. The loop's invariant: one of the records after the first begins a segment or an element
-- exactly where one of those that are left does. Assumes nothing.
use mathlib.Core.Path.{◌≡◌}
use lib.Dec.{leb}
use lib.ListN.{drop}
use Rattle.lists.specs.Lists.{any}
use Rattle.operations.specs.ValueList.{entries}
use Rattle.lent_elements.proofs.begins_again.Given as goal

abbrev pub invariant-loop-numbers : goal.invariant-loop-numbers
invariant-loop-numbers l =
    (l.numbers-iterator.size ≡ 3)
    × (any (λ e. leb e.kind 1) (drop 1 (entries l.table)) ≡ any (λ e. leb e.kind 1) (entries l.numbers-iterator.rest.now))
