-- `value_lists::check_each` meets its contract. The loop's invariant: the first record that fails is the first of those that are left,
-- which are records of the table. Assumes nothing.
use Rattle.std.proofs.Common.{◌≡◌, Bool}
use Rattle.std.specs.List.{Contains}
use Rattle.operations.specs.ValueList.{Entry, entries}
use Rattle.value_lists.specs.declared.Record.{Record}
use Rattle.value_lists.specs.Records.{entry_of, first_record}
use Rattle.value_lists.proofs.check_each.Given as goal

abbrev pub invariant-loop-n : goal.invariant-loop-n
invariant-loop-n g l =
    (goal.iterator-loop-n g).can_next l.n-iterator
    × (goal.iterator-loop-n g).is_finite l.n-iterator
    × (l.n-iterator.iter.size ≡ 3)
    × ((e : Entry) → Contains (entries l.n-iterator.iter.rest.now) e → Contains (entries l.table) e)
    × ((test : Entry → Bool) → ((r : Record) (t : Bool) → goal.F-post g l.fn.fails r t → t ≡ test (entry_of r))
    → first_record l.fn.fault test 0 (entries l.table) ≡ first_record l.fn.fault test l.n-iterator.count (entries l.n-iterator.iter.rest.now))
