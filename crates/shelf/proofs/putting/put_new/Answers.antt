-- `putting::put_new` meets its contract: 17, 18, or the text is stored. Assumes nothing.
use Rattle.shelf.specs.Parts.{PutsForm}
use Rattle.shelf_summary.specs.declared.Placed.{Placed}
use Rattle.refusals.specs.declared.Refusal.{Refusal}
use Rattle.std.specs.Prelude.{Result}
use native.Mathlib.Omega.{arith}
use mathlib.Core.Path.{sym, subst}
use Rattle.shelf_layout.specs.Laid.{laid}
use Rattle.shelves.proofs.Sound.{says_sound}
use Rattle.shelf.proofs.Lowest.{lowest_by, none_free, one_free}
use Rattle.shelf.proofs.Lent.{heads_map, heads_end}
use Rattle.shelf.proofs.Puts.{puts_full, puts_long, puts_new}
use Rattle.shelf.proofs.putting.put_new.Goals as goal

pub returns-then-slot-eq-SLOTS : goal.returns-then-slot-eq-SLOTS
returns-then-slot-eq-SLOTS c =
    let x = c.args in
    let known = c.requires in
    let l = laid x.l in
    let s = x.s.now in
    let q = (says_sound l s).0 known.0 in
    let lowest = lowest_by l s (heads_map s x.u known.2) c.lowest_free-slot.ensures in
    subst (λ (r : Result Placed Refusal). PutsForm l s x.form.now r s) (sym c.failed.ensures)
    (puts_full l s x.form.now x.u known.2 known.1.0 known.0 known.3 (none_free l s lowest c.if-slot-eq-SLOTS.true))

pub overflow_sub-s : goal.overflow_sub-s
overflow_sub-s c =
    let x = c.args in
    let known = c.requires in
    let l = laid x.l in
    let s = x.s.now in
    let q = (says_sound l s).0 known.0 in
    let end = heads_end s x.u known.2 l known.1.0 known.0 c.base.ensures in
    omega (arith, q.room, end)

pub returns-then-s-end : goal.returns-then-s-end
returns-then-s-end c =
    let x = c.args in
    let known = c.requires in
    let l = laid x.l in
    let s = x.s.now in
    let q = (says_sound l s).0 known.0 in
    let lowest = lowest_by l s (heads_map s x.u known.2) c.lowest_free-slot.ensures in
    let end = heads_end s x.u known.2 l known.1.0 known.0 c.base.ensures in
    let free = one_free l s lowest c.if-slot-eq-SLOTS.false in
    subst (λ (r : Result Placed Refusal). PutsForm l s x.form.now r s) (sym c.failed-then-s-end.ensures)
    (puts_long l s x.form.now x.u known.2 known.1.0 known.0 known.3 free.0 (omega (arith, q.room, end, c.if-s-end.true)))

pub store_text-requires : goal.store_text-requires
store_text-requires c =
    let x = c.args in
    let known = c.requires in
    let l = laid x.l in
    let s = x.s.now in
    let q = (says_sound l s).0 known.0 in
    let lowest = lowest_by l s (heads_map s x.u known.2) c.lowest_free-slot.ensures in
    let end = heads_end s x.u known.2 l known.1.0 known.0 c.base.ensures in
    let free = one_free l s lowest c.if-slot-eq-SLOTS.false in
    (q.least, (lowest, free.1), end, omega (arith, q.room, end, c.if-s-end.false))

pub overflow_cast-result : goal.overflow_cast-result
overflow_cast-result c =
    let x = c.args in
    let known = c.requires in
    let l = laid x.l in
    let s = x.s.now in
    let q = (says_sound l s).0 known.0 in
    let end = heads_end s x.u known.2 l known.1.0 known.0 c.base.ensures in
    record { fits = omega (arith, q.room, q.most, end, c.if-s-end.false) }

pub returns : goal.returns
returns c =
    let x = c.args in
    let known = c.requires in
    let l = laid x.l in
    let s = x.s.now in
    let q = (says_sound l s).0 known.0 in
    let lowest = lowest_by l s (heads_map s x.u known.2) c.lowest_free-slot.ensures in
    let end = heads_end s x.u known.2 l known.1.0 known.0 c.base.ensures in
    let free = one_free l s lowest c.if-slot-eq-SLOTS.false in
    puts_new l s x.form.now x.u known.2 known.1.0 known.0 known.3 free.0 (omega (arith, q.room, end, c.if-s-end.false)) lowest (free.1, free.2)
    c.store_text.ensures
