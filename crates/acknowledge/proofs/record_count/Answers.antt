-- `acknowledge::record_count` meets its contract. The loop's invariant: what is counted and the records of the parts from `i` on are all. Assumes nothing.
use mathlib.Core.Path.{sym, ap, subst, ◌∙◌}
use lib.ListN.{length}
use native.Mathlib.Omega.{arith}
use Rattle.acknowledgement_parts.specs.declared.Part.{Part}
use Rattle.acknowledgement_parts.specs.Parts.{lent_in, part_items, Fine}
use Rattle.acknowledge.proofs.Rows.{length_next, row_end}
use Rattle.acknowledge.proofs.record_count.Goals as goal

pub loop-i-init : goal.loop-i-init
loop-i-init c = (omega arith, omega arith)

pub records_in-n-requires : goal.records_in-n-requires
records_in-n-requires c =
    let x = c.args in
    let known = c.requires in
    (subst (λ (p : Part). Fine x.s.now x.r.characters (lent_in x.lent.now) p) (sym c.part_at.ensures) (known.fine c.loop-i.i c.loop-i-test.true), known.short)

pub overflow_add-n : goal.overflow_add-n
overflow_add-n c = omega (arith, c.loop-i.invariant.1, c.records_in-n.ensures.1)

pub loop-i-preserved : goal.loop-i-preserved
loop-i-preserved c =
    let x = c.args in
    let n = c.loop-i.n in
    let i = c.loop-i.i in
    let inv = c.loop-i.invariant in
    let counted = c.records_in-n.ensures.0 ∙ ap (λ (p : Part). length (part_items x.s.now x.r.characters (lent_in x.lent.now) p)) c.part_at.ensures in
    (omega (arith, inv.0, counted, length_next x.s.now (lent_in x.lent.now) x.r i c.loop-i-test.true), omega (arith, inv.1, c.records_in-n.ensures.1))

pub returns : goal.returns
returns c =
    let x = c.args in
    omega (arith, c.loop-i.invariant.0, ap length (row_end x.s.now (lent_in x.lent.now) x.r c.loop-i.i c.loop-i-test.false))
