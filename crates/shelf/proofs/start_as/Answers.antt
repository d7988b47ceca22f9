-- `shelf::start_as` meets its contract: 19, or zeros and the heading. Assumes nothing.
use Rattle.refusals.specs.Refusals.{Outcome}
use native.Mathlib.Omega.{arith}
use mathlib.Core.Path.{sym, ap, subst, ◌∙◌}
use borrow.Author.Tests.{not-true, not-false}
use Rattle.shelf_layout.specs.Laid.{laid}
use lib.ListN.{length, replicate}
use lib.Seq.{length-sets}
use Rattle.shelves.proofs.Sound.{says_sized}
use Rattle.shelf_contracts.specs.Promises.{Starts}
use Rattle.shelf.proofs.Empty.{starts_refused, starts_empty}
use Rattle.shelf.proofs.start_as.Goals as goal

pub returns-then-not-is_sized : goal.returns-then-not-is_sized
returns-then-not-is_sized c =
    let x = c.args in
    let size = c.is_sized in
    subst (λ (r : Outcome). Starts (laid x.l) x.s.now r x.s.now) (sym c.failed.ensures)
    (starts_refused (laid x.l) x.s.now size.ensures (not-true size.result c.if-not-is_sized.true-raw))

pub put_heading-requires : goal.put_heading-requires
put_heading-requires c =
    let x = c.args in
    let size = c.is_sized in
    let sized = (says_sized (laid x.l) x.s.now).0 (sym size.ensures ∙ not-false size.result c.if-not-is_sized.false-raw) in
    omega (arith, sized.0, ap length c.fill.ensures, length-sets x.s.now 0 (replicate (length x.s.now) 0))

pub returns : goal.returns
returns c =
    let x = c.args in
    let size = c.is_sized in
    let whole = not-false size.result c.if-not-is_sized.false-raw in
    let sized = (says_sized (laid x.l) x.s.now).0 (sym size.ensures ∙ whole) in
    starts_empty (laid x.l) x.s.now size.ensures whole (omega (arith, sized.0)) c.fill.ensures c.put_heading.ensures
