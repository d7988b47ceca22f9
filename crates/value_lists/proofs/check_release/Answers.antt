-- `value_lists::check_release` meets its contract: both ways answer for the first record that fails, which is the lowest. Assumes nothing.
use Rattle.std.proofs.Common.{rules, ◌+◌, ◌≤◌, length, sym, ap, ◌∙◌}
use Rattle.refusals.specs.declared.Fault.TheVariants.{NeedsRelease}
use Rattle.refusals.specs.Refusals.{outcome}
use Rattle.operations.specs.ValueList.{entries}
use Rattle.operations.specs.Write.{cannot_stand}
use Rattle.value_lists.specs.Records.{entry_of}
use Rattle.value_lists.proofs.Records.{lowest_first, value_inside}
use Rattle.value_lists.proofs.check_release.Goals as goal

pub returns-then-overlaps : goal.returns-then-overlaps
returns-then-overlaps c =
    let x = c.args in
    c.check_by_places.ensures ∙ ap outcome (sym (lowest_first NeedsRelease (cannot_stand x.c x.bytes.now) 0 (entries x.table.now)))

pub check_each-requires : goal.check_each-requires
check_each-requires c r h =
    let inside : r.start + r.size ≤ length c.args.bytes.now = value_inside c.args.bytes.now c.args.table.now c.requires (entry_of r) h in
    search rules

pub returns : goal.returns
returns c =
    let x = c.args in
    c.check_each.ensures (cannot_stand x.c x.bytes.now) (λ r t e. search rules) ∙ ap outcome (sym (lowest_first NeedsRelease (cannot_stand x.c x.bytes.now) 0 (entries x.table.now)))
