-- `length_bound::at_most` meets its contract: where the characters are the normal form's nothing is counted. Assumes nothing.
use native.Mathlib.Omega.{arith}
use mathlib.Core.Path.{sym, ◌∙◌}
use Prim.Native.Nat.{◌-◌}
use lib.ListN.{length, drop, length-drop}
use lib.Seq.{take_all}
use Rattle.length_bound.specs.Unshared.{is_unshared}
use Rattle.length_bound.proofs.Counted.{counted_most}
use Rattle.length_bound.proofs.Bound.{most_normal, most_counted}
use Rattle.length_bound.proofs.at_most.Goals as goal

pub returns-then-is_normal : goal.returns-then-is_normal
returns-then-is_normal c =
    let x = c.args in
    let body = drop x.start x.s.now in
    omega (
      arith,
      length-drop x.start x.s.now,
      most_normal x.c x.repetition body (sym c.is_normal.ensures ∙ c.if-is_normal.true),
    )

pub overflow_add-result : goal.overflow_add-result
overflow_add-result c =
    let x = c.args in
    let body = drop x.start x.s.now in
    let n = c.normal_characters-n.result in
    omega (
      arith,
      rw (take_all (length x.s.now - x.start) body (omega (arith, length-drop x.start x.s.now))) at c.count_unshared.ensures,
      counted_most (is_unshared n c.unshared_of.result) body,
      length-drop x.start x.s.now,
    )

pub returns : goal.returns
returns c =
    let x = c.args in
    let body = drop x.start x.s.now in
    omega (
      arith,
      length-drop x.start x.s.now,
      most_counted x.c x.repetition body c.normal_characters-n.ensures c.unshared_of.ensures
          (rw (take_all (length x.s.now - x.start) body (omega (arith, length-drop x.start x.s.now))) at c.count_unshared.ensures),
    )
