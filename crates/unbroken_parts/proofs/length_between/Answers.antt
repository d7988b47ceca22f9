-- `unbroken_parts::length_between` meets its contract: a part of a text without breaks is as long as it stands. Assumes nothing.
use Prim.Native.Nat.{◌-◌}
use mathlib.Core.Path.{sym, ap, ◌∙◌}
use native.Mathlib.Omega.{arith}
use lib.ListN.{length}
use lib.Seq.{length-take-le, length-slice}
use Rattle.unbroken_parts.proofs.Parts.{unbroken_part}
use Rattle.unbroken_parts.proofs.length_between.Goals as goal

pub returns-then-whole : goal.returns-then-whole
returns-then-whole c =
    let x = c.args in
    let (l, i, u) = c.requires in
    sym (ap length (unbroken_part x.s.now (x.to - x.from) x.from (omega arith) i (u c.if-whole.true)) ∙ length-slice x.from x.to x.s.now i)

pub slice_bounds-unbroken_length-end : goal.slice_bounds-unbroken_length-end
slice_bounds-unbroken_length-end c = let x = c.args in sym (length-take-le x.to x.s.now c.requires.1)

pub returns : goal.returns
returns c = c.unbroken_length.ensures
