-- `segment_ends::segment_ended` meets its contract. The loop's invariant: how the segment ends is told from `at` on. What is left of the input
-- falls. Assumes nothing.
use mathlib.Core.Path.{refl, ◌∙◌}
use native.Mathlib.Omega.{arith}
use borrow.Author.Rules.{rules}
use Rattle.scanner.proofs.Scanning.{scan_past}
use Rattle.segment_ends.proofs.Passing.{scans_from_lem, moves_as}
use Rattle.segment_ends.proofs.segment_ended.Goals as goal

pub loop-at-init : goal.loop-at-init
loop-at-init c = (omega arith, refl)

pub returns-then-s-at-lt64 : goal.returns-then-s-at-lt64
returns-then-s-at-lt64 c =
    let x = c.args in
    let loop = c.loop-at in
    scans_from_lem x.c x.s.now x.from loop.invariant.0 loop.invariant.1 c.scan.result c.scan.ensures

pub pass-requires : goal.pass-requires
pass-requires c = (omega arith, c.requires)

pub returns-in-Ended : goal.returns-in-Ended
returns-in-Ended c =
    let x = c.args in
    let loop = c.loop-at in
    let found = moves_as x.c x.s.now loop.at c.pass.ensures c.in-Ended.is in
    (loop.invariant.1 ∙ found.0, omega arith, found.2)

pub loop-at-smaller : goal.loop-at-smaller
loop-at-smaller c =
    let x = c.args in
    let on = moves_as x.c x.s.now c.loop-at.at c.pass.ensures c.in-On.is in
    omega arith

pub loop-at-preserved : goal.loop-at-preserved
loop-at-preserved c =
    let x = c.args in
    let loop = c.loop-at in
    let on = moves_as x.c x.s.now loop.at c.pass.ensures c.in-On.is in
    (omega arith, loop.invariant.1 ∙ on.2)

pub returns-in-Other : goal.returns-in-Other
returns-in-Other c =
    let x = c.args in
    let loop = c.loop-at in
    scans_from_lem x.c x.s.now x.from loop.invariant.0 loop.invariant.1 c.scan-in-Other.result c.scan-in-Other.ensures

pub returns : goal.returns
returns c = c.loop-at.invariant.1 ∙ scan_past _ _ _ (search rules)
