-- `clear_parts::clear_end` meets its contract: nothing is idle up to where clear bytes end, and those before the last place at which a byte of
-- a value ends are emitted as they stand. Assumes nothing.
use mathlib.Core.Path.{sym, ◌∙◌}
use borrow.Author.Tests.{not-false}
use Rattle.clear_parts.proofs.Parts.{clear_inside, part_none, part_back}
use Rattle.clear_parts.proofs.clear_end.Goals as goal

pub returns-then-not-is_normal : goal.returns-then-not-is_normal
returns-then-not-is_normal c =
    let x = c.args in
    part_none x.c x.repetition x.s.now x.from

pub back_to_value-requires : goal.back_to_value-requires
back_to_value-requires c =
    let x = c.args in
    let (l, g) = c.past_clear-most.ensures in
    (l, clear_inside x.c x.s.now g)

pub returns : goal.returns
returns c =
    let x = c.args in
    let normal = c.is_normal in
    let (first, last, value) = c.back_to_value.ensures in
    part_back x.c x.repetition x.s.now c.requires
    (sym normal.ensures ∙ not-false normal.result c.if-not-is_normal.false-raw) c.past_clear-most.ensures.1 first last value
