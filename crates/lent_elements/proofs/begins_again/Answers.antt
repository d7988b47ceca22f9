-- `lent_elements::begins_again` meets its contract. The loop's invariant: one of the records after the first begins a segment or an element
-- exactly where one of those that are left does. Assumes nothing.
use Rattle.std.proofs.Common.{rules}
use Prim.Native.Nat.{◌-◌}
use mathlib.Core.Path.{◌≡◌, sym, ap, ◌∙◌}
use native.Mathlib.Omega.{arith}
use lib.Dec.{leb}
use lib.ListN.{length, take, drop, length-drop}
use lib.Seq.{take_all}
use Rattle.lists.specs.Lists.{any}
use Rattle.operations.specs.ValueList.{entries}
use Rattle.value_lists.specs.Records.{entry_of}
use Rattle.value_lists.proofs.Records.{records_cut, records_end}
use Rattle.lent_elements.proofs.Records.{later_records, starts_here, starts_later, starts_none}
use Rattle.lent_elements.proofs.begins_again.Goals as goal

pub loop-numbers-init : goal.loop-numbers-init
loop-numbers-init c =
    let table = c.args.table.now in
    let cut : c.into_iter-numbers-iterator.result.rest.now ≡ take (length table - 3) (drop 3 table) = search rules in
    let all : c.into_iter-numbers-iterator.result.rest.now ≡ drop 3 table = cut ∙ take_all (length table - 3) (drop 3 table) (omega (arith, length-drop 3 table)) in
    (search rules, ap (any (λ e. leb e.kind 1)) (later_records c.args.table.now c.requires ∙ ap entries (sym all)))

pub returns-then-record_at-le1 : goal.returns-then-record_at-le1
returns-then-record_at-le1 c =
    let e = c.in-Some.ensures.steps in
    let inv = c.loop-numbers.invariant in
    let next = records_cut c.in-Some.numbers.now c.next.new.self.rest.now e.1.0 (e.1.1 ∙ inv.0) c.record_at.ensures in
    starts_here c.args.table.now _ inv.1 _ (entry_of c.record_at.result) next c.if-record_at-le1.true

pub loop-numbers-preserved : goal.loop-numbers-preserved
loop-numbers-preserved c =
    let e = c.in-Some.ensures.steps in
    let inv = c.loop-numbers.invariant in
    let next = records_cut c.in-Some.numbers.now c.next.new.self.rest.now e.1.0 (e.1.1 ∙ inv.0) c.record_at.ensures in
    (e.0 ∙ inv.0, starts_later c.args.table.now _ inv.1 _ (entry_of c.record_at.result) next (omega (arith, c.if-record_at-le1.false)))

pub returns : goal.returns
returns c =
    let e = c.in-None.ensures.steps in
    let inv = c.loop-numbers.invariant in
    starts_none c.args.table.now _ inv.1 (records_end c.loop-numbers.numbers-iterator.rest.now 0 (omega (arith, e.1.0, inv.0)))
