-- `table_walk::part_at` meets its contract. Assumes nothing.
use Prim.Native.Nat.{◌+◌}
use mathlib.Core.Path.{refl, ap, ◌∙◌}
use native.Mathlib.Omega.{arith}
use Rattle.message_tables.specs.Entries.{Entry, is_mandatory}
use Rattle.table_rows.proofs.Bytes.{whole_bytes}
use Rattle.table_walk.proofs.part_at.Goals as goal

pub row_at-row-requires : goal.row_at-row-requires
row_at-row-requires c = whole_bytes c.args.table.now c.args.number (omega (arith, c.requires.0))

pub lead_of-lead-requires : goal.lead_of-lead-requires
lead_of-lead-requires c = (c.row_at-row.ensures.is, c.requires)

pub overflow_add-result : goal.overflow_add-result
overflow_add-result c = omega (arith, whole_bytes c.args.table.now c.args.number (omega (arith, c.requires.0)))

pub overflow_add-result-2 : goal.overflow_add-result-2
overflow_add-result-2 c = omega (arith, whole_bytes c.args.table.now c.args.number (omega (arith, c.requires.0)))

pub overflow_add-result-3 : goal.overflow_add-result-3
overflow_add-result-3 c =
    omega (arith, whole_bytes c.args.table.now c.args.number (omega (arith, c.requires.0)), c.row_at-row.ensures.small)

pub returns : goal.returns
returns c =
    let row = c.row_at-row.ensures.is in
    record {
      mandatory = c.is_mandatory.ensures ∙ ap is_mandatory row;
      most = ap (λ (e : Entry). e.repeats) row;
      lead = c.lead_of-lead.ensures;
      from = refl;
      end = ap (λ (e : Entry). c.args.number + 1 + e.under) row;
    }
