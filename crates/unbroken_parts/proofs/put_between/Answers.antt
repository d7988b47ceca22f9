-- `unbroken_parts::put_between` meets its contract: a part of a text without breaks is copied. Assumes nothing.
use Prim.Native.Nat.{◌-◌}
use mathlib.Core.Path.{sym, ap, ◌∙◌}
use native.Mathlib.Omega.{arith}
use lib.ListN.{length}
use lib.Seq.{sets, length-take-le, length-slice}
use Rattle.unbroken_parts.proofs.Parts.{unbroken_part}
use Rattle.unbroken_parts.proofs.put_between.Goals as goal

pub slice_bounds-copy-end : goal.slice_bounds-copy-end
slice_bounds-copy-end c = let x = c.args in sym (length-take-le x.to x.s.now c.requires.2)

pub copy-requires : goal.copy-requires
copy-requires c =
    let x = c.args in
    let (room, l, i, u) = c.requires in
    let same = ap length (unbroken_part x.s.now (x.to - x.from) x.from (omega arith) i (u c.if-whole.true)) in
    omega (arith, room, same)

pub returns-then-whole : goal.returns-then-whole
returns-then-whole c =
    let x = c.args in
    let (room, l, i, u) = c.requires in
    let same = unbroken_part x.s.now (x.to - x.from) x.from (omega arith) i (u c.if-whole.true) in
    (c.copy.ensures ∙ ap (sets x.buffer.now x.into) (sym same), omega (arith, ap length same, length-slice x.from x.to x.s.now i))

pub slice_bounds-put_unbroken-end : goal.slice_bounds-put_unbroken-end
slice_bounds-put_unbroken-end c = let x = c.args in sym (length-take-le x.to x.s.now c.requires.2)
