-- `parting::are_same` meets its contract: texts of other lengths or sums differ. Assumes nothing.
use mathlib.Core.Path.{sym, ◌∙◌}
use lib.Dec.{eqb}
use lib.ListN.{get_or}
use Rattle.lists.proofs.Tests.{fails, says_eq}
use Rattle.shelf_layout.specs.Laid.{laid}
use Rattle.shelf_soundness.proofs.Ranges.{lengths_differ, sums_differ}
use Rattle.shelf_soundness.proofs.parting.are_same.Goals.{then-length_of, else-length_of}
use Rattle.shelf_soundness.proofs.parting.are_same.Goals as goal

pub text_of-requires : goal.text_of-requires
text_of-requires c =
    let x = c.args in
    let known = c.requires in
    (known.0.least, known.2.0, known.0.within x.one known.2.0 known.2.1)

pub text_of-requires-then-sums-one : goal.text_of-requires-then-sums-one
text_of-requires-then-sums-one c =
    let x = c.args in
    let known = c.requires in
    (known.0.least, known.3.0, known.0.within x.other known.3.0 known.3.1)

pub returns-else-sums-one : goal.returns-else-sums-one
returns-else-sums-one c =
    let x = c.args in
    let known = c.requires in
    let l = laid x.l in
    c.if-sums-one.false
    ∙ elim c.if-length_of.branch [
      | then-length_of w ↦
          sums_differ l x.s.now x.one x.other known.2.1 known.3.1 (known.1 x.one known.2.0) (known.1 x.other known.3.0)
          ((fails (eqb (get_or x.sums.now x.one 0) (get_or x.sums.now x.other 0)) (says_eq (get_or x.sums.now x.one 0) (get_or x.sums.now x.other 0))).0 (sym w.value-is ∙ c.if-sums-one.false))
      | else-length_of w ↦
          lengths_differ l x.s.now x.one x.other (known.0.within x.one known.2.0 known.2.1) (known.0.within x.other known.3.0 known.3.1)
          (λ e. w.if-length_of.false (c.length_of.ensures.0 ∙ e ∙ sym c.length_of-2.ensures.0))
    ]
