-- `stage_bytes::all_orderly` meets its contract. The loop's invariant: all bytes are orderly just where none was found that is not, and those
-- after the four bytes at `at` are. Assumes nothing.
use mathlib.Core.Path.{sym, ◌∙◌}
use native.Mathlib.Omega.{arith}
use lib.ListN.{length-drop}
use Rattle.stage_bytes.proofs.Tests.{few_orderly, first_four, window_next, window_end}
use Rattle.stage_bytes.proofs.all_orderly.Goals as goal

pub returns-then-saturating_sub-lt4 : goal.returns-then-saturating_sub-lt4
returns-then-saturating_sub-lt4 c =
    few_orderly c.args.c c.args.level c.args.s.now c.args.start
    (omega (arith, length-drop c.args.start c.args.s.now))

pub loop-at-init : goal.loop-at-init
loop-at-init c =
    let args = c.args in (
      first_four args.c args.level args.s.now args.start (omega arith) c.service_apart.ensures c.opening_is_orderly.ensures,
      omega arith,
    )

pub loop-at-preserved : goal.loop-at-preserved
loop-at-preserved c =
    let args = c.args in
    let loop = c.loop-at in (
      loop.invariant.0 ∙ window_next args.c args.level args.s.now loop.at loop.found (omega (arith, loop.invariant.1)) c.is_orderly-found.ensures,
      loop.invariant.1,
    )

pub returns : goal.returns
returns c =
    let args = c.args in
    let loop = c.loop-at in
    sym (loop.invariant.0 ∙ window_end args.c args.level args.s.now loop.at loop.found (omega (arith, loop.invariant.1)))
