-- `acknowledge::check_parts` meets its contract. The loop's invariant: the first record that cannot stand is the first of the parts from `i` on. Assumes nothing.
use Rattle.std.proofs.Common.{rules}
use Rattle.std.specs.Prelude.{Err}
use Prim.Native.Nat.{◌+◌, ◌<◌}
use mathlib.Core.Path.{◌≡◌, refl, sym, ap, subst, ◌∙◌}
use lib.ListN.{length}
use native.Mathlib.Omega.{arith}
use Rattle.acknowledgement_parts.specs.declared.Part.{Part}
use Rattle.acknowledgement_parts.specs.Parts.{lent_in, part_items, Fine, Stands, first_bare}
use Rattle.refusals.specs.Refusals.{outcome}
use Rattle.acknowledge.proofs.Rows.{shifted_err, shifted_ok, part_bare, part_stands, none_left}
use Rattle.acknowledge.proofs.check_parts.Goals as goal

pub loop-i-init : goal.loop-i-init
loop-i-init c = (refl, omega arith)

pub records_in-k-requires : goal.records_in-k-requires
records_in-k-requires c =
    let x = c.args in
    let known = c.requires.0 in
    (subst (λ (p : Part). Fine x.s.now x.r.characters (lent_in x.lent.now) p) (sym c.part_at-part.ensures) (known.fine c.loop-i.i c.loop-i-test.true), known.short)

pub check_part-requires : goal.check_part-requires
check_part-requires c =
    let x = c.args in
    let known = c.requires in
    (subst (λ (p : Part). Fine x.s.now x.r.characters (lent_in x.lent.now) p) (sym c.part_at-part.ensures) (known.0.fine c.loop-i.i c.loop-i-test.true), subst (λ (p : Part). Stands x.c x.s.now x.r.characters p) (sym c.part_at-part.ensures) (known.1 c.loop-i.i c.loop-i-test.true))

pub map_err-requires : goal.map_err-requires
map_err-requires c q refused =
    let x = c.args in
    let inv = c.loop-i.invariant in
    let asked = c.check_part.ensures ∙ ap (λ (p : Part). outcome (first_bare x.c 0 (part_items x.s.now x.r.characters (lent_in x.lent.now) p))) c.part_at-part.ensures in
    let counted = c.records_in-k.ensures.0 ∙ ap (λ (p : Part). length (part_items x.s.now x.r.characters (lent_in x.lent.now) p)) c.part_at-part.ensures in
    let low = (part_bare x.c x.s.now (lent_in x.lent.now) x.r c.loop-i.n c.loop-i.i c.loop-i-test.true inv.0 asked refused).1 in
    let fits : c.loop-i.n + q.place < 18446744073709551616 = omega (arith, inv.1, counted, c.records_in-k.ensures.1, low) in
    search rules

pub returns-in_err-map_err : goal.returns-in_err-map_err
returns-in_err-map_err c =
    let x = c.args in
    let inv = c.loop-i.invariant in
    let asked = c.check_part.ensures ∙ ap (λ (p : Part). outcome (first_bare x.c 0 (part_items x.s.now x.r.characters (lent_in x.lent.now) p))) c.part_at-part.ensures in
    let (q, refused, same) = shifted_err c.loop-i.n c.check_part.result c.map_err.result (search rules) c.in_err-map_err.was in
    let told : c.from_residual.result ≡ Err c.in_err-map_err.field-0.0 = search rules in
    told ∙ ap Err same ∙ (part_bare x.c x.s.now (lent_in x.lent.now) x.r c.loop-i.n c.loop-i.i c.loop-i-test.true inv.0 asked refused).0

pub overflow_add-n : goal.overflow_add-n
overflow_add-n c = omega (arith, c.loop-i.invariant.1, c.records_in-k.ensures.1)

pub loop-i-preserved : goal.loop-i-preserved
loop-i-preserved c =
    let x = c.args in
    let inv = c.loop-i.invariant in
    let asked = c.check_part.ensures ∙ ap (λ (p : Part). outcome (first_bare x.c 0 (part_items x.s.now x.r.characters (lent_in x.lent.now) p))) c.part_at-part.ensures in
    let counted = c.records_in-k.ensures.0 ∙ ap (λ (p : Part). length (part_items x.s.now x.r.characters (lent_in x.lent.now) p)) c.part_at-part.ensures in
    (part_stands x.c x.s.now (lent_in x.lent.now) x.r c.loop-i.n c.loop-i.i c.loop-i-test.true inv.0 asked (shifted_ok c.loop-i.n c.check_part.result c.map_err.result (search rules) c.in_ok-map_err.was) counted, omega (arith, inv.1, c.records_in-k.ensures.1))

pub returns : goal.returns
returns c =
    let x = c.args in
    none_left x.c x.s.now (lent_in x.lent.now) x.r c.loop-i.n c.loop-i.i c.loop-i-test.false c.loop-i.invariant.0
