-- `table_soundness::scan` meets its contract. The loop's invariant: the scan from the first entry on answers as it does from this one on,
-- with the groups that hold it. Assumes nothing.
use Prim.Native.Nat.{ℕ, ◌+◌, ◌-◌, ◌≤◌, ◌<◌}
use mathlib.Core.Path.{◌≡◌, refl, sym, ap, subst, ◌∙◌}
use mathlib.Core.List.{List}
use native.Mathlib.Omega.{arith}
use lib.ListN.{get_or, length-set}
use borrow.Author.Tests.{not-true, not-false}
use Rattle.message_tables.specs.Entries.{whole_entries}
use Rattle.table_rows.proofs.Bytes.{whole_bytes}
use Rattle.table_soundness.specs.Fitting.{asked, fits_within, found_at}
use Rattle.table_soundness.proofs.Rooms.{reaches}
use Rattle.table_soundness.proofs.Scans.{scan_starts, scan_ends, below, scan_fails, scan_opens, kept_on, scan_on}
use Rattle.table_soundness.proofs.scan.Goals as goal

-- the number is one of those that are asked
most-is : (table : List ℕ) (whole most n : ℕ) → (whole ≡ whole_entries table) × (most ≡ asked whole) → n < most → n < asked (whole_entries table)
most-is table whole most n pre l = subst (λ (k : ℕ). n < k) (pre.1 ∙ ap asked pre.0) l

pub loop-number-init : goal.loop-number-init
loop-number-init c =
    let x = c.args in
    (refl, (c.requires.0, tt, omega arith), scan_starts x.table.now _)

pub row_at-row-requires : goal.row_at-row-requires
row_at-row-requires c =
    let state = c.loop-number in
    let x = c.args in
    let n = below x.table.now state.number state.after state.depth state.ends state.invariant.1 (most-is x.table.now x.whole x.most state.number c.requires c.loop-number-test.true) in
    whole_bytes x.table.now state.number n.1

pub overflow_add-next : goal.overflow_add-next
overflow_add-next c =
    let state = c.loop-number in
    let x = c.args in
    let n = below x.table.now state.number state.after state.depth state.ends state.invariant.1 (most-is x.table.now x.whole x.most state.number c.requires c.loop-number-test.true) in
    omega (arith, n.0)

pub bounds-ends-depth : goal.bounds-ends-depth
bounds-ends-depth c = omega (arith, c.loop-number.invariant.1.2, c.loop-number.invariant.0)

pub overflow_sub-ends : goal.overflow_sub-ends
overflow_sub-ends c =
    let state = c.loop-number in
    let x = c.args in
    let n = below x.table.now state.number state.after state.depth state.ends state.invariant.1 (most-is x.table.now x.whole x.most state.number c.requires c.loop-number-test.true) in
    reaches state.ends (state.number + 1) state.depth (omega (arith, state.invariant.1.0, n.1)) state.invariant.1.1

pub returns-then-not-fits : goal.returns-then-not-fits
returns-then-not-fits c =
    let state = c.loop-number in
    let x = c.args in
    c.failed.ensures
    ∙ sym
    (ap found_at
    (state.invariant.2
    ∙ scan_fails x.table.now state.number state.after state.depth state.ends state.invariant.1 (most-is x.table.now x.whole x.most state.number c.requires c.loop-number-test.true)
    (sym (ap (fits_within state.after state.depth (get_or state.ends state.depth 0 - (state.number + 1))) c.row_at-row.ensures.is)
    ∙ sym c.fits.ensures
    ∙ not-true _ c.if-not-fits.true-raw)))

pub overflow_add-ends : goal.overflow_add-ends
overflow_add-ends c =
    let state = c.loop-number in
    let x = c.args in
    let n = below x.table.now state.number state.after state.depth state.ends state.invariant.1 (most-is x.table.now x.whole x.most state.number c.requires c.loop-number-test.true) in
    omega (arith, n.0, c.row_at-row.ensures.small)

pub overflow_add-ends-in-loop-number : goal.overflow_add-ends-in-loop-number
overflow_add-ends-in-loop-number c = omega (arith, c.loop-number.invariant.1.2)

pub offset_bounds-ends-depth-in-loop-number : goal.offset_bounds-ends-depth-in-loop-number
offset_bounds-ends-depth-in-loop-number c = omega (arith, c.loop-number.invariant.1.2)

pub bounds-ends-depth-in-loop-number : goal.bounds-ends-depth-in-loop-number
bounds-ends-depth-in-loop-number c = omega (arith, c.loop-number.invariant.1.2, c.loop-number.invariant.0)

pub overflow_add-depth : goal.overflow_add-depth
overflow_add-depth c = omega (arith, c.loop-number.invariant.1.2)

pub still_open-depth-requires : goal.still_open-depth-requires
still_open-depth-requires c =
    let state = c.loop-number in
    let x = c.args in
    let o = scan_opens x.table.now state.number state.after state.depth state.ends state.invariant.1
    (most-is x.table.now x.whole x.most state.number c.requires c.loop-number-test.true) state.invariant.0 _ c.row_at-row.ensures.is
    (sym c.fits.ensures ∙ not-false _ c.if-not-fits.false-raw) in
    (omega (arith, state.invariant.1.2), o)

pub loop-number-preserved : goal.loop-number-preserved
loop-number-preserved c =
    let state = c.loop-number in
    let x = c.args in
    let l = most-is x.table.now x.whole x.most state.number c.requires c.loop-number-test.true in
    let row = c.row_at-row.ensures.is in
    let fit = sym c.fits.ensures ∙ not-false _ c.if-not-fits.false-raw in
    let still = c.still_open-depth.ensures in (
      length-set state.ends (state.depth + 1) _ ∙ state.invariant.0,
      kept_on x.table.now state.number state.after state.depth state.ends state.invariant.1 l state.invariant.0 _ row fit
          c.still_open-depth.result still.rooms still.nested,
      state.invariant.2
          ∙ scan_on x.table.now state.number state.after state.depth state.ends state.invariant.1 l state.invariant.0 _ row fit
          c.still_open-depth.result still.rooms still.nested c.is_group-after.ensures,
    )

pub returns : goal.returns
returns c =
    let state = c.loop-number in
    let x = c.args in
    let pre = c.requires in
    sym
    (ap found_at
    (state.invariant.2
    ∙ scan_ends x.table.now state.number state.after state.depth state.ends
    (subst (λ (k : ℕ). k ≤ state.number) (pre.1 ∙ ap asked pre.0) c.loop-number-test.false)))
