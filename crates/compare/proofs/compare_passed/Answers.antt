-- `compare::compare_passed` meets its contract: equal bytes are compared as one input, and others by their normal forms, for which an array of
-- each size has room. Assumes nothing.
use native.Mathlib.Omega.{arith}
use mathlib.Core.Path.{sym, ◌∙◌}
use Rattle.compare.proofs.Compared.{bytes_same, long_room, room_for}
use Rattle.compare.proofs.compare_passed.Goals as goal

pub returns-then-equal : goal.returns-then-equal
returns-then-equal c =
    let x = c.args in
    bytes_same x.first.now x.second.now (sym c.equal.ensures ∙ c.if-equal.true) c.compare_itself.result c.compare_itself.ensures

pub compare_within-requires : goal.compare_within-requires
compare_within-requires c = (omega arith, c.requires, long_room c.args.first.now, long_room c.args.second.now)

pub compare_within-requires-then-longest-gt1019 : goal.compare_within-requires-then-longest-gt1019
compare_within-requires-then-longest-gt1019 c =
    let longest = c.max-longest.ensures in
    (omega arith, c.requires, room_for 8192 c.args.first.now (omega (arith, longest, c.if-longest-gt4091.false)), room_for 8192 c.args.second.now (omega (arith, longest, c.if-longest-gt4091.false)))

pub compare_within-requires-2 : goal.compare_within-requires-2
compare_within-requires-2 c =
    let longest = c.max-longest.ensures in
    (omega arith, c.requires, room_for 2048 c.args.first.now (omega (arith, longest, c.if-longest-gt1019.false)), room_for 2048 c.args.second.now (omega (arith, longest, c.if-longest-gt1019.false)))
