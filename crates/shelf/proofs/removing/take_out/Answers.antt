-- `removing::take_out` meets its contract: the texts behind it moved down, and the pairs. Assumes nothing.
use native.Mathlib.Omega.{arith}
use mathlib.Core.Path.{sym, ap, ◌∙◌}
use Rattle.shelf_layout.specs.Laid.{laid}
use Rattle.shelves.proofs.Sound.{says_sound}
use lib.ListN.{length}
use lib.Seq.{length-sets}
use Rattle.shelves.specs.Layout.{start_of}
use Rattle.shelves.specs.Operations.{texts_without}
use Rattle.shelf.proofs.Lent.{heads_end}
use Rattle.shelf.proofs.Without.{text_lies, start_kept_lem, length_kept, still_lower, taken_out, texts_moved}
use Rattle.shelf.proofs.removing.take_out.Goals as goal

pub start_of-start-requires : goal.start_of-start-requires
start_of-start-requires c = let x = c.args in let known = c.requires in let q = (says_sound (laid x.l) x.s.now).0 known.0.0 in (q.least, known.1.0)

pub overflow_add-start : goal.overflow_add-start
overflow_add-start c =
    let x = c.args in
    let known = c.requires in
    let l = laid x.l in
    let s = x.s.now in
    let q = (says_sound l s).0 known.0.0 in
    let end = heads_end s x.u known.0.2 l known.0.1.0 known.0.0 c.base.ensures in
    let start = c.start_of-start.ensures.0 in
    let h = text_lies l s x.slot known.0.0 known.1.0 known.1.1 in
    record { fits = omega (arith, h.1, h.2, q.most, start, known.2) }

pub move_down-requires : goal.move_down-requires
move_down-requires c =
    let x = c.args in
    let known = c.requires in
    let l = laid x.l in
    let s = x.s.now in
    let q = (says_sound l s).0 known.0.0 in
    let end = heads_end s x.u known.0.2 l known.0.1.0 known.0.0 c.base.ensures in
    let start = c.start_of-start.ensures.0 in
    let h = text_lies l s x.slot known.0.0 known.1.0 known.1.1 in
    let size = known.2 in
    (omega arith, omega arith, omega arith)

pub lower_starts-requires : goal.lower_starts-requires
lower_starts-requires c =
    let x = c.args in
    let known = c.requires in
    let l = laid x.l in
    let s = x.s.now in
    let q = (says_sound l s).0 known.0.0 in
    let end = heads_end s x.u known.0.2 l known.0.1.0 known.0.0 c.base.ensures in
    let start = c.start_of-start.ensures.0 in
    let moved = texts_moved l s x.slot start known.2 end c.move_down.ensures in
    let same = ap length moved ∙ length-sets s (start_of l s x.slot) (texts_without l s x.slot) in (
      omega (arith, q.least, same),
      (
        start ∙ sym (start_kept_lem l s x.slot known.0.0 known.1.0 known.1.1 moved x.slot known.1.0),
        known.2 ∙ sym (length_kept l s x.slot known.0.0 known.1.0 known.1.1 moved x.slot known.1.0),
      ),
      still_lower l s x.slot known.0.0 known.1.0 known.1.1 moved,
    )

pub returns : goal.returns
returns c =
    let x = c.args in
    let known = c.requires in
    let l = laid x.l in
    let s = x.s.now in
    let q = (says_sound l s).0 known.0.0 in
    let end = heads_end s x.u known.0.2 l known.0.1.0 known.0.0 c.base.ensures in
    let start = c.start_of-start.ensures.0 in
    let moved = texts_moved l s x.slot start known.2 end c.move_down.ensures in
    taken_out l s x.slot known.0.0 known.1.0 known.1.1 moved c.lower_starts.ensures
