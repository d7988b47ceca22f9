-- `value_lists::check_by_places` meets its contract: the value of each record is within the bytes. Assumes nothing.
use Rattle.std.proofs.Common.{rules, ◌+◌, ◌≤◌, length}
use Rattle.value_lists.specs.Records.{entry_of}
use Rattle.value_lists.proofs.Records.{value_inside}
use Rattle.value_lists.proofs.check_by_places.Goals as goal

pub check_each-requires : goal.check_each-requires
check_each-requires c r h =
    let inside : r.start + r.size ≤ length c.args.bytes.now = value_inside c.args.bytes.now c.args.table.now c.requires.1 (entry_of r) h in
    search rules
