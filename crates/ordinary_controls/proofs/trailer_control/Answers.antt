-- `ordinary_controls::trailer_control` meets its contract: the count stands after the tag, and the reference after the count. Assumes nothing.
use mathlib.Core.Path.{sym, ◌∙◌}
use Prim.Native.Nat.{◌+◌}
use mathlib.Core.Bool.{◌&&◌}
use native.Mathlib.Omega.{arith}
use borrow.Author.Tests.{not-false}
use Rattle.lists.proofs.Texts.{and_left, and_right}
use Rattle.ordinary_controls.specs.Standing.{Trails}
use Rattle.ordinary_controls.proofs.Standing.{trailer_is, told_if}
use Rattle.ordinary_controls.proofs.trailer_control.Goals as goal

pub returns : goal.returns
returns c =
    let second = c.is_separator-2 in
    let first = c.is_separator in
    let x = c.args in
    let both = not-false (first.result && second.result) c.if-not-is_separator.false-raw in
    told_if (Trails x.c x.s.now x.at x.header x.count) tt c.repeats.result (c.count_at-found.result.end + 1)
    (λ e.
    trailer_is x.c x.s.now c.requires.0 x.at c.requires.1 x.header x.count c.count_at-found.result c.count_at-found.ensures
    (omega arith) c.if-end-counted.false c.if-found-count.false (sym first.ensures ∙ and_left first.result second.result both)
    (sym second.ensures ∙ and_right first.result second.result both) (c.repeats.ensures e))
    c.then_some.ensures
