-- `table_walk::lead_of` meets its contract: a group begins with its trigger. Assumes nothing.
use Prim.Native.Nat.{◌+◌}
use mathlib.Core.Path.{sym, ap, ◌∙◌}
use native.Mathlib.Omega.{arith}
use Rattle.message_tables.specs.Entries.{Entry, is_group}
use Rattle.table_rows.proofs.Bytes.{whole_bytes}
use Rattle.table_walk.proofs.Entries.{lead_group, lead_segment}
use Rattle.table_walk.proofs.lead_of.Goals as goal

pub overflow_add-number : goal.overflow_add-number
overflow_add-number c =
    let x = c.args in
    omega (arith, whole_bytes x.table.now x.number (omega (arith, c.requires.1.0)))

pub row_at-requires : goal.row_at-requires
row_at-requires c =
    let x = c.args in
    let pre = c.requires in
    let group = sym (ap is_group pre.0) ∙ sym c.is_group.ensures ∙ c.if-is_group.true in
    whole_bytes x.table.now (x.number + 1) (omega (arith, pre.1.0, pre.1.1 group))

pub returns-then-is_group : goal.returns-then-is_group
returns-then-is_group c =
    let x = c.args in
    let pre = c.requires in
    let group = sym (ap is_group pre.0) ∙ sym c.is_group.ensures ∙ c.if-is_group.true in
    ap (λ (e : Entry). e.tag) c.row_at.ensures.is ∙ lead_group x.table.now x.number group (omega (arith, pre.1.0, pre.1.1 group))

pub returns-else-is_group : goal.returns-else-is_group
returns-else-is_group c =
    let x = c.args in
    let pre = c.requires in
    ap (λ (e : Entry). e.tag) pre.0
    ∙ lead_segment x.table.now x.number (sym (ap is_group pre.0) ∙ sym c.is_group.ensures ∙ c.if-is_group.false)
